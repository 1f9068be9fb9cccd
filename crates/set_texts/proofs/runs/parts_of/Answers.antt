use Rattle.std.proofs.Common.{◌∷◌, [], ap, length, length-append, arith, subst}
use Rattle.fix_values.specs.Codes.{codes_in}
use Rattle.set_texts.specs.Parts.{IsPart}
use Rattle.set_texts.proofs.Bits.{shifted}
use Rattle.set_texts.proofs.RunTexts.{more_parts}
use Rattle.set_texts.proofs.runs.parts_of.Goals as goal

pub loop-n-preserved : goal.loop-n-preserved
loop-n-preserved c =
    let parts = c.loop-n.parts in (
      omega (arith, ap length c.in_ok-push-in-Some.ensures.ok, length-append parts (c.in-Some.part ∷ []), c.loop-n.invariant.0),
      more_parts parts c.push.new.self c.in-Some.part c.args.first c.loop-n.n c.args.codes.now c.in_ok-push-in-Some.ensures.ok c.loop-n.invariant.0 c.loop-n.invariant.1
          (subst (λ k. IsPart c.in-Some.part (codes_in c.args.codes.now k)) (shifted c.loop-n.n c.args.first c.loop-n-test.true c.requires) c.in-Some.ensures),
    )
