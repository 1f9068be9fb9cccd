use Rattle.std.proofs.Common.{◌+◌, ◌-◌, ◌*◌, ◌/◌, ◌%◌, List, ℕ, take, sum, replicate, refl, sym, ap, ◌∙◌, arith}
use Rattle.tagvalue_codec.proofs.Framing.{part_is, padded_sum, before_placed}
use Rattle.tagvalue_codec.proofs.framed.sum_between.Goals as goal

pub returns-clause-kept : goal.returns-clause-kept
returns-clause-kept c = before_placed c.args.memory.now c.place_front.new.room c.args.to _ _ c.args.to c.place_front.ensures (omega (arith, c.requires.room)) (omega arith)

pub returns-clause-sum : goal.returns-clause-sum
returns-clause-sum c =
    let old = c.args.memory.now in
    let new = c.place_front.new.room in
    let zeros : List ℕ = take 32 (replicate 32 0) in
    let p = c.place_front.ensures in
    let end : ℕ = c.args.from + (c.args.to - c.args.from + 32 - 1) / 32 * 32 in
    c.sum_of.ensures
    ∙ ap (λ (l : List ℕ). sum l % 256) (sym (part_is c.args.from end new (omega arith)))
    ∙ ap (λ (s : ℕ). s % 256) (padded_sum old new c.args.from c.args.to end zeros (ap (λ n. take n new) (sym p.moved) ∙ p.front) refl c.requires.order (omega (arith, c.requires.order)) (omega (arith, c.requires.order)) (omega (arith, c.requires.room)) p.long)
