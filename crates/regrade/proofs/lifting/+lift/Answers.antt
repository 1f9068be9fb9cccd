use Rattle.std.proofs.Common.{◌≡◌, ◌+◌, ◌++◌, drop, sym, ◌∙◌, subst}
use Rattle.sbe_types.specs.declared.message.GroupVal.{GroupVal}
use Rattle.sbe_types.specs.declared.message.GroupVal.TheVariants as groupval
use Rattle.version_laws.specs.Projected.{lifted_group}
use Rattle.version_project.specs.IsPlain.{old_group}
use Rattle.version_project.proofs.Items.{drop_at}
use Rattle.regrade.specs.Each.{TakesNext, lifted_groups_each}
use Rattle.regrade.proofs.LiftWalk.{lift_next, group_known, group_taken}
use Rattle.regrade.proofs.Rows.{lifted_is, absent_lifts, entries_lift}
use Rattle.regrade.proofs.lifting.+lift.Goals as goal

pub lift_block-returns : goal.lift_block-returns
lift_block-returns t c = lifted_is c.args.version c.args.level.now c.args.block.now _ _ _ c.in_ok-fields.ensures c.in_ok-groups.ensures c.in_ok-parts.ensures

pub lift_groups-loop-i-preserved : goal.lift_groups-loop-i-preserved
lift_groups-loop-i-preserved t c =
    let groups = c.args.groups.now in
    let i = c.loop-i.i in
    let g = c.at-group.result.now in
    subst (λ out. out ++ lifted_groups_each c.args.version (drop (i + 1) groups) (drop c.next_value.new.next c.args.values.now) ≡ lifted_groups_each c.args.version groups c.args.values.now) (sym c.in_ok-push.ensures.ok)
    (lift_next (old_group c.args.version) (lifted_group c.args.version) groupval.Absent (drop i groups) (drop (i + 1) groups) g c.args.values.now c.loop-i.lifted c.loop-i.next c.next_value.new.next _ _ _
    (drop_at groups i g c.at-group.ensures) (group_known c.args.version g c.args.values.now c.loop-i.next c.next_value.new.next _ c.next_value.ensures) (group_taken (lifted_group c.args.version g) _ _ c.in_ok-value.ensures) c.loop-i.invariant)

pub lift_value-returns-in-Absent : goal.lift_value-returns-in-Absent
lift_value-returns-in-Absent t c = absent_lifts c.args.version c.args.group.now c.args.value.now c.in-Absent.is

pub lift_value-returns-in_ok-lift_entries-in-Entries : goal.lift_value-returns-in_ok-lift_entries-in-Entries
lift_value-returns-in_ok-lift_entries-in-Entries t c =
    entries_lift c.args.version c.args.group.now c.args.value.now _ _ c.in-Entries.is c.in_ok-lift_entries-in-Entries.ensures
