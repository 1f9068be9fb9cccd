use Rattle.std.proofs.Common.{◌≡◌, ◌+◌, ℕ, suc, List, [], Result, Err, length, drop, sym, ap, ◌∙◌, subst, arith}
use Rattle.std.specs.Vec.Iter.{into_iter_items}
use Rattle.regrade.specs.declared.filler.Unfilled.{Unfilled}
use Rattle.regrade.specs.Fillings.{IsFilled}
use Rattle.regrade_laws.specs.Fill.{part_or_fill}
use Rattle.regrade_laws.specs.Filled.{filled_list}
use Rattle.regrade_laws.specs.Counts.{one_if, sum_pairs, fills_part}
use Rattle.regrade.proofs.Items.{no_items}
use Rattle.regrade.proofs.FillWalk.{with_all, list_goes, list_none, list_refused, sum_goes, sum_none}
use Rattle.regrade.proofs.filling.fill_parts.Goals as goal

pub fill_part-requires : goal.fill_part-requires
fill_part-requires c =
    let at = c.loop-value in
    let step = ap (sum_pairs (λ p v. one_if (fills_part p v)) (drop at.i c.args.parts.now)) c.in-Some.ensures.steps.0 ∙ sum_goes part_or_fill (λ p v. one_if (fills_part p v)) c.args.parts.now at.i c.at.result.now c.in-Some.value (into_iter_items c.next.new.self) c.at.ensures in
    record { room = omega (arith, step, at.invariant.count, c.requires.room) }

pub returns-in-Err-clause-filled : goal.returns-in-Err-clause-filled
returns-in-Err-clause-filled c =
    let at = c.loop-value in
    let so_far = ap (λ vs. with_all at.written (filled_list part_or_fill (c.args.first + at.i) (drop at.i c.args.parts.now) vs)) (sym c.in-Some.ensures.steps.0) ∙ at.invariant.told in
    subst (λ (why : Unfilled). IsFilled (filled_list part_or_fill c.args.first c.args.parts.now c.args.values) (sum_pairs (λ p v. one_if (fills_part p v)) c.args.parts.now c.args.values) c.args.filler.now c.inside.new.self (Err why)) (sym c.inside.ensures.why)
    (list_refused part_or_fill (λ p v. one_if (fills_part p v)) c.args.parts.now (filled_list part_or_fill c.args.first c.args.parts.now c.args.values) (sum_pairs (λ p v. one_if (fills_part p v)) c.args.parts.now c.args.values) at.written at.i (c.args.first + at.i) c.at.result.now c.in-Some.value (into_iter_items c.next.new.self) c.in-Err.why
    c.args.filler.now at.filler c.fill_part.new.filler c.inside.new.self c.at.ensures c.in-Err.ensures.filled c.inside.ensures.lack so_far)

pub loop-value-preserved : goal.loop-value-preserved
loop-value-preserved c =
    let at = c.loop-value in
    let left = into_iter_items c.next.new.self in
    let steps = c.in-Some.ensures.steps.0 in
    let on : c.args.first + (at.i + 1) ≡ suc (c.args.first + at.i) = omega arith in
    let step = ap (sum_pairs (λ p v. one_if (fills_part p v)) (drop at.i c.args.parts.now)) steps ∙ sum_goes part_or_fill (λ p v. one_if (fills_part p v)) c.args.parts.now at.i c.at.result.now c.in-Some.value left c.at.ensures in
    let written = ap (λ xs. with_all xs (filled_list part_or_fill (c.args.first + (at.i + 1)) (drop (at.i + 1) c.args.parts.now) left)) c.in-Ok-push.ensures.ok in
    let goes = list_goes part_or_fill (λ p v. one_if (fills_part p v)) c.args.parts.now at.written at.i (c.args.first + at.i) (c.args.first + (at.i + 1)) c.at.result.now c.in-Some.value c.in-Ok.value left c.at.ensures c.in-Ok.ensures.filled.0 on in
    record {
      told = written ∙ goes ∙ ap (λ vs. with_all at.written (filled_list part_or_fill (c.args.first + at.i) (drop at.i c.args.parts.now) vs)) (sym steps) ∙ at.invariant.told;
      count = omega (arith, step, c.in-Ok.ensures.filled.1, at.invariant.count);
      left = let gone = c.in-Some.ensures.steps.1 in let was = at.invariant.left in let short = ap length steps in omega arith;
      within = omega (arith, c.if-i-len.false, c.len.ensures);
    }

pub returns-clause-filled : goal.returns-clause-filled
returns-clause-filled c =
    let at = c.loop-value in
    let none = no_items (into_iter_items at.value-iterator) (sym at.invariant.left ∙ c.in-None.ensures.steps.0) in (
      sym at.invariant.told ∙ list_none part_or_fill (λ p v. one_if (fills_part p v)) c.args.parts.now at.written at.i (c.args.first + at.i) (into_iter_items at.value-iterator) none,
      omega (arith, at.invariant.count, sum_none part_or_fill (λ p v. one_if (fills_part p v)) c.args.parts.now at.i (into_iter_items at.value-iterator) none),
    )
