use Rattle.std.proofs.Common.{sym, subst, refl, ap, ◌∙◌, ◌≡◌, ◌≤◌, ◌<◌, ◌+◌, arith, length, Some, None}
use Rattle.std.specs.Prelude.{IfSome}
use Rattle.frame_stream.specs.Window.{let_go_of}
use Rattle.raw_fix.specs.declared.step.Step.TheVariants as step
use Rattle.raw_fix.specs.declared.items.Settled.TheVariants as settled
use Rattle.raw_fix.specs.Steps.{Steps}
use Rattle.raw_fix.specs.Items.{ItemState, Settles, item_place, texts_of}
use Rattle.raw_fix.proofs.ItemLemmas.{settles_nil, settles_ends, settles_on, settles_more, on_counts, on_some}
use Rattle.raw_fix.proofs.items.Items.settle.Goals as goal

pub returns-then-len-eq0-clause-settles : goal.returns-then-len-eq0-clause-settles
returns-then-len-eq0-clause-settles c =
    let s : ItemState = c.args.self.now in
    let nothing : length s.held.bytes ≡ 0 = sym (ap (λ (x : ItemState). length x.held.bytes) c.self.view_is) ∙ sym c.len.ensures ∙ c.if-len-eq0.true in
    settles_nil c.args.tags.now s c.known-known.ensures.size nothing

pub go_on-requires-clause-counts : goal.go_on-requires-clause-counts
go_on-requires-clause-counts c =
    let s : ItemState = c.args.self.now in
    let known = c.known-known.result in
    let same : c.step.new.self ≡ s = c.step.ensures.same ∙ c.look.ensures in
    let steps = subst (λ (x : ItemState). Steps (texts_of c.args.tags.now x) x.held.bytes (item_place x) x.begun (step.GoesOn c.in-GoesOn.run' c.in-GoesOn.n)) c.look.ensures c.in-GoesOn.ensures.steps in
    let place : known.at ≡ item_place s = omega (arith, c.known-known.ensures.at) in
    let there : item_place s + length s.held.bytes ≡ s.held.taken = omega (arith, c.known-known.ensures.at) in
    let counts : IfSome s.begun (λ r. r.length ≤ item_place s) =
    subst (λ k. IfSome s.begun (λ r. r.length ≤ k)) place (subst (λ b. IfSome b (λ r. r.length ≤ known.at)) c.known-known.ensures.begun c.known-known.ensures.counts) in
    subst (λ (x : ItemState). c.in-GoesOn.run'.length + length x.held.bytes ≤ x.held.taken + c.in-GoesOn.n) (sym same)
    (on_counts (texts_of c.args.tags.now s) s (item_place s) c.in-GoesOn.run' c.in-GoesOn.n counts there steps)

pub go_on-requires-clause-some : goal.go_on-requires-clause-some
go_on-requires-clause-some c =
    let s : ItemState = c.args.self.now in
    let known = c.known-known.result in
    let steps = subst (λ (x : ItemState). Steps (texts_of c.args.tags.now x) x.held.bytes (item_place x) x.begun (step.GoesOn c.in-GoesOn.run' c.in-GoesOn.n)) c.look.ensures c.in-GoesOn.ensures.steps in
    on_some (texts_of c.args.tags.now s) s (item_place s) c.in-GoesOn.run' c.in-GoesOn.n (subst (λ b. IfSome b (λ r. 0 < r.length)) c.known-known.ensures.begun c.known-known.ensures.some) steps

pub returns-in-Ends-clause-settles : goal.returns-in-Ends-clause-settles
returns-in-Ends-clause-settles c =
    let s : ItemState = c.args.self.now in
    let texts = texts_of c.args.tags.now s in
    let n = c.in-Ends.n in
    let same : c.step.new.self ≡ s = c.step.ensures.same ∙ c.look.ensures in
    let steps = subst (λ (x : ItemState). Steps (texts_of c.args.tags.now x) x.held.bytes (item_place x) x.begun (step.Ends c.in-Ends.run' n)) c.look.ensures c.in-Ends.ensures.steps in
    let last = c.end_run.ensures ∙ ap (λ (x : ItemState). let y : ItemState = record { held = let_go_of n x.held; begun = None; met = x.met } in y) same in
    subst (λ x. Settles texts s x (Some (settled.Garbled c.in-Ends.run'))) (sym last) (settles_ends texts s (item_place s) c.in-Ends.run' n refl steps)

pub returns-in-GoesOn-clause-settles : goal.returns-in-GoesOn-clause-settles
returns-in-GoesOn-clause-settles c =
    let s : ItemState = c.args.self.now in
    let texts = texts_of c.args.tags.now s in
    let n = c.in-GoesOn.n in
    let same : c.step.new.self ≡ s = c.step.ensures.same ∙ c.look.ensures in
    let steps = subst (λ (x : ItemState). Steps (texts_of c.args.tags.now x) x.held.bytes (item_place x) x.begun (step.GoesOn c.in-GoesOn.run' n)) c.look.ensures c.in-GoesOn.ensures.steps in
    let last = c.go_on.ensures ∙ ap (λ (x : ItemState). let y : ItemState = record { held = let_go_of n x.held; begun = Some c.in-GoesOn.run'; met = x.met } in y) same in
    subst (λ x. Settles texts s x None) (sym last) (settles_on texts s (item_place s) c.in-GoesOn.run' n c.known-known.ensures.size refl steps)

pub returns-in-More-clause-settles : goal.returns-in-More-clause-settles
returns-in-More-clause-settles c =
    let s : ItemState = c.args.self.now in
    let texts = texts_of c.args.tags.now s in
    let same : c.step.new.self ≡ s = c.step.ensures.same ∙ c.look.ensures in
    let steps = subst (λ (x : ItemState). Steps (texts_of c.args.tags.now x) x.held.bytes (item_place x) x.begun step.More) c.look.ensures c.in-More.ensures.steps in
    subst (λ x. Settles texts s x None) (sym same) (settles_more c.args.tags.now s (item_place s) c.known-known.ensures.size steps)

pub returns-in-Message-clause-settles : goal.returns-in-Message-clause-settles
returns-in-Message-clause-settles c =
    let s : ItemState = c.args.self.now in
    let same : c.step.new.self ≡ s = c.step.ensures.same ∙ c.look.ensures in
    let steps = subst (λ (x : ItemState). Steps (texts_of c.args.tags.now x) x.held.bytes (item_place x) x.begun (step.Message c.in-Message.n)) c.look.ensures c.in-Message.ensures.steps in
    (same, steps.0, steps.1, steps.2)
