use Rattle.std.proofs.Common.{◌+◌, List, length, sym, ap, ◌∙◌, subst, arith}
use Rattle.field_blocks.specs.Found.{parts_in, HoldsData}
use Rattle.field_blocks.proofs.Lists.{one_longer}
use Rattle.field_blocks.proofs.Steps.{data_next, no_data}
use Rattle.field_blocks.proofs.fields.data_values.Goals as goal

pub loop-i-init : goal.loop-i-init
loop-i-init c = record {
  size = ap length c.new-values.ensures;
  within = omega arith;
  held = λ levels p found. subst (HoldsData p (parts_in p c.args.fields.now) c.args.own.now) (sym c.new-values.ensures) (no_data p (parts_in p c.args.fields.now) c.args.own.now);
}

pub loop-i-preserved : goal.loop-i-preserved
loop-i-preserved c =
    let at = c.loop-i in
    let value = c.in_ok-value.value in
    record {
      size = ap length c.in_ok-push.ensures.ok ∙ one_longer at.values value ∙ ap (λ n. n + 1) at.invariant.size;
      within = omega (arith, c.loop-i-test.true, c.len-i-end.ensures);
      held = λ levels p found.
          subst (HoldsData p (parts_in p c.args.fields.now) c.args.own.now) (sym c.in_ok-push.ensures.ok)
          (data_next p (parts_in p c.args.fields.now) c.args.own.now at.values value at.i c.at.result.now at.invariant.size c.at.ensures
          (λ k s bytes here same is. c.in_ok-value.ensures levels p k s bytes found here same is) (at.invariant.held levels p found));
    }

pub returns-clause-size : goal.returns-clause-size
returns-clause-size c = omega (arith, c.loop-i.invariant.size, c.loop-i.invariant.within, c.loop-i-test.false, c.len-i-end.ensures)

pub returns-clause-held : goal.returns-clause-held
returns-clause-held c = c.loop-i.invariant.held
