use Rattle.std.proofs.Common.{ap, sym, subst, ◌∙◌, ◌≡◌, ◌-◌, length, arith}
use Rattle.raw_walk.specs.Recalled.{Recalls, held_at}
use Rattle.raw_fix.specs.Items.{ItemState, item_place}
use Rattle.raw_fix.proofs.ItemLemmas.{steps_as}
use Rattle.raw_fix.proofs.items.Items.step.Goals as goal

pub next_step-requires-clause-recalls : goal.next_step-requires-clause-recalls
next_step-requires-clause-recalls c =
    let h = c.self.inside.bytes.held in
    let known = c.known-known.result in
    let long : length c.args.self.now.held.bytes ≡ length h.bytes = ap (λ (x : ItemState). length x.held.bytes) (sym c.self.view_is) in
    let taken : c.args.self.now.held.taken ≡ h.taken = ap (λ (x : ItemState). x.held.taken) (sym c.self.view_is) in
    let place : h.taken - length h.bytes ≡ known.at = omega (arith, c.known-known.ensures.at, long, taken) in
    subst (λ b. Recalls (held_at known.at b) c.self.inside.recall) (sym c.as_slice.ensures) (subst (λ p. Recalls (held_at p h.bytes) c.self.inside.recall) place c.self.invariant.1.recalls)

pub invariant_of-self : goal.invariant_of-self
invariant_of-self c =
    let h = c.self.inside.bytes.held in
    let known = c.known-known.result in
    let long : length c.args.self.now.held.bytes ≡ length h.bytes = ap (λ (x : ItemState). length x.held.bytes) (sym c.self.view_is) in
    let taken : c.args.self.now.held.taken ≡ h.taken = ap (λ (x : ItemState). x.held.taken) (sym c.self.view_is) in
    let place : known.at ≡ h.taken - length h.bytes = omega (arith, c.known-known.ensures.at, long, taken) in (
      c.self.invariant.0,
      record {
        room = c.self.invariant.1.room;
        recalls = subst (λ p. Recalls (held_at p h.bytes) c.next_step.new.recall) place (subst (λ b. Recalls (held_at known.at b) c.next_step.new.recall) c.as_slice.ensures c.next_step.ensures.recalls);
      },
    )

pub returns-clause-steps : goal.returns-clause-steps
returns-clause-steps c =
    let s : ItemState = c.args.self.now in
    let known = c.known-known.result in
    let place : known.at ≡ item_place s = omega (arith, c.known-known.ensures.at) in
    steps_as c.args.tags.now s known.most known.at c.as_slice.result.now known.begun c.next_step.result c.known-known.ensures.most (c.as_slice.ensures ∙ ap (λ (x : ItemState). x.held.bytes) c.self.view_is) place
    c.known-known.ensures.begun c.next_step.ensures.steps
