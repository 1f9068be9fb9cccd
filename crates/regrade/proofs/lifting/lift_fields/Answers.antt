use Rattle.std.proofs.Common.{◌≡◌, ◌+◌, ◌++◌, drop, sym, ◌∙◌, subst}
use Rattle.sbe_types.specs.declared.message.Value.{Value}
use Rattle.sbe_types.specs.declared.message.Value.TheVariants as value
use Rattle.sbe_types.specs.declared.schema.Field.{Field}
use Rattle.version_laws.specs.Projected.{old_field}
use Rattle.std.specs.Option.{option_map}
use Rattle.version_project.proofs.Items.{drop_at}
use Rattle.regrade.specs.Each.{lifted_fields}
use Rattle.regrade.proofs.LiftWalk.{lift_next, same_taken}
use Rattle.regrade.proofs.lifting.lift_fields.Goals as goal

pub loop-i-preserved : goal.loop-i-preserved
loop-i-preserved c =
    let fields = c.args.fields.now in
    let i = c.loop-i.i in
    subst (λ out. out ++ lifted_fields c.args.version (drop (i + 1) fields) (drop c.next_value.new.next c.args.values.now) ≡ lifted_fields c.args.version fields c.args.values.now) (sym c.in_ok-push.ensures.ok)
    (lift_next (old_field c.args.version) (λ (p : Field) (v : Value). v) value.Absent (drop i fields) (drop (i + 1) fields) c.at.result.now c.args.values.now c.loop-i.lifted c.loop-i.next c.next_value.new.next _ _ _
    (drop_at fields i c.at.result.now c.at.ensures) c.next_value.ensures (same_taken value.Absent (option_map (λ v. v.now) c.next_value.result) c.in_ok-value.value c.in_ok-value.ensures) c.loop-i.invariant)
