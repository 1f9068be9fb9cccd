use Rattle.std.proofs.Common.{rules, ◌<◌, ◌^◌, ◌∙◌, sym, arith, pos, ap, ◌==◌}
use Rattle.std.specs.Prelude.{◌||◌}
use Rattle.std.specs.Int.{bit_at}
use Rattle.sbe_types.specs.Shown.{is_listed}
use Rattle.std.proofs.lemmas.List.{drop_all}
use Rattle.named_numbers.proofs.Bits.{met_next, none_left}
use Rattle.named_numbers.proofs.choices.are_listed.Goals as goal

pub loop-choice-preserved : goal.loop-choice-preserved
loop-choice-preserved c =
    let fits : c.without-left.result < 2 ^ 64 = search rules in (
      fits,
      λ k within. met_next c.args.choices.now c.loop-choice.choice-index c.choice-item.result c.loop-choice.left c.without-left.result k (omega arith) c.choice-item.is (c.without-left.ensures k within)
          ∙ c.loop-choice.invariant.1 k within,
    )

pub returns : goal.returns
returns c =
    none_left c.args.choices.now c.loop-choice.left c.args.bits c.loop-choice.invariant.0
    (λ k within. ap (λ rest. bit_at c.loop-choice.left k == 0 || is_listed rest (pos k)) (sym (drop_all c.loop-choice.choice-index c.args.choices.now (omega arith))) ∙ c.loop-choice.invariant.1 k within)
