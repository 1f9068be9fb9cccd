use Rattle.std.proofs.Common.{◌≡◌, ◌+◌, ◌++◌, drop, sym, ◌∙◌, subst}
use Rattle.sbe_types.specs.declared.message.DataVal.{DataVal}
use Rattle.sbe_types.specs.declared.message.DataVal.TheVariants as dataval
use Rattle.sbe_types.specs.declared.schema.DataField.{DataField}
use Rattle.version_laws.specs.Projected.{old_part}
use Rattle.std.specs.Option.{option_map}
use Rattle.version_project.proofs.Items.{drop_at}
use Rattle.regrade.specs.Each.{lifted_parts}
use Rattle.regrade.proofs.LiftWalk.{lift_next, same_taken}
use Rattle.regrade.proofs.lifting.lift_parts.Goals as goal

pub loop-i-preserved : goal.loop-i-preserved
loop-i-preserved c =
    let parts = c.args.parts.now in
    let i = c.loop-i.i in
    subst (λ out. out ++ lifted_parts c.args.version (drop (i + 1) parts) (drop c.next_value.new.next c.args.values.now) ≡ lifted_parts c.args.version parts c.args.values.now) (sym c.in_ok-push.ensures.ok)
    (lift_next (old_part c.args.version) (λ (p : DataField) (v : DataVal). v) dataval.Absent (drop i parts) (drop (i + 1) parts) c.at.result.now c.args.values.now c.loop-i.lifted c.loop-i.next c.next_value.new.next _ _ _
    (drop_at parts i c.at.result.now c.at.ensures) c.next_value.ensures (same_taken dataval.Absent (option_map (λ v. v.now) c.next_value.result) c.in_ok-value.value c.in_ok-value.ensures) c.loop-i.invariant)
