use Rattle.std.proofs.Common.{◌+◌, ◌∙◌, refl, sym, ap, subst, arith}
use Rattle.flyweight_view.specs.inner.Lefts.{rest_of}
use Rattle.flyweight_view.specs.inner.Parts.{parts_at, LineUp}
use Rattle.flyweight_view.proofs.PartsTold.{none_left}
use Rattle.flyweight_view.proofs.ranges.parts_end.Goals as goal

pub loop-i-init : goal.loop-i-init
loop-i-init c = record {
  line = c.requires.line;
  rest = refl;
}

pub loop-i-preserved : goal.loop-i-preserved
loop-i-preserved c =
    let l = c.args.layer.now in
    record {
      line = subst (LineUp l (c.loop-i.i + 1)) (sym c.behind_range-at.ensures) c.next_range.ensures.line;
      rest = c.loop-i.invariant.rest ∙ c.next_range.ensures.rest ∙ ap (λ at. rest_of (parts_at l (c.loop-i.i + 1) at)) (sym c.behind_range-at.ensures);
    }

pub returns-clause-rest : goal.returns-clause-rest
returns-clause-rest c = c.loop-i.invariant.rest ∙ none_left c.args.layer.now c.loop-i.i c.loop-i.at (omega (arith, c.loop-i-test.false, c.len-i-end.ensures))
