use Rattle.std.proofs.Common.{sym, subst, ap, ◌∙◌, ◌≡◌, ◌≤◌, arith, length, take, false, Some, None}
use Rattle.raw_fix.specs.declared.items.Settled.TheVariants as settled
use Rattle.raw_fix.specs.Raw.{IsRun}
use Rattle.raw_fix.specs.Items.{ItemState, Finishes, item_place}
use Rattle.raw_fix.proofs.ItemLemmas.{finishes_run, finishes_ends}
use Rattle.raw_fix.proofs.items.Items.finish.Goals as goal

pub returns-in-Some-clause-finishes : goal.returns-in-Some-clause-finishes
returns-in-Some-clause-finishes c = λ texts waits.
    let s : ItemState = c.args.self.now in
    let all : c.len-len.result ≡ length s.held.bytes = c.len-len.ensures ∙ ap (λ (x : ItemState). length x.held.bytes) c.self.view_is in
    let begun : s.begun ≡ Some c.in-Some.run' = sym c.known-known.ensures.begun ∙ c.in-Some.is in
    subst (λ n. Finishes texts s n (settled.Garbled c.longer.result)) (sym c.end_run.ensures) (finishes_run texts s c.in-Some.run' c.longer.result c.len-len.result all begun c.longer.ensures waits)

pub returns-in-None-2-clause-finishes : goal.returns-in-None-2-clause-finishes
returns-in-None-2-clause-finishes c = λ texts waits.
    let s : ItemState = c.args.self.now in
    let known = c.known-known.result in
    let begun : s.begun ≡ None = sym c.known-known.ensures.begun ∙ c.in-None-2.is in
    let place : known.at ≡ item_place s = omega (arith, c.known-known.ensures.at) in
    let bytes : c.as_slice.result.now ≡ s.held.bytes = c.as_slice.ensures ∙ ap (λ (x : ItemState). x.held.bytes) c.self.view_is in
    let n = c.last_run-n.result in
    let low : n ≤ length s.held.bytes = subst (λ b. n ≤ length b) bytes c.last_run-n.ensures.within in
    let runs : IsRun false s.held.bytes (take n s.held.bytes) = subst (λ b. IsRun false b (take n b)) bytes c.last_run-n.ensures.runs in
    subst (λ n. Finishes texts s n (settled.Garbled c.longer-in-None-2.result)) (sym c.end_run-in-None-2.ensures) (finishes_ends texts s known.at n c.longer-in-None-2.result begun place low runs c.longer-in-None-2.ensures waits)
