use Rattle.std.proofs.Common.{◌≡◌, ◌+◌, ◌++◌, drop, sym, ◌∙◌, subst}
use Rattle.version_project.specs.Each.{known_groups}
use Rattle.version_project.specs.IsPlain.{old_group}
use Rattle.version_laws.specs.Projected.{projected_group}
use Rattle.version_project.proofs.ProjectWalk.{each_go, each_pass, block_is, absent_is, entries_are}
use Rattle.version_project.proofs.OldParts.{old_has_group, old_lacks_group}
use Rattle.version_project.proofs.project_blocks.+project.Goals.{project_groups-then-group-version+in_ok-copy+in_ok-push, project_groups-else-group-version}
use Rattle.version_project.proofs.project_blocks.+project.Goals as goal

pub one_group-returns-in-Absent : goal.one_group-returns-in-Absent
one_group-returns-in-Absent t c = absent_is c.args.version c.args.group.now c.args.value.now c.in-Absent.is

pub one_group-returns-in_ok-project_entries-in-Entries : goal.one_group-returns-in_ok-project_entries-in-Entries
one_group-returns-in_ok-project_entries-in-Entries t c = entries_are c.args.version c.args.group.now c.args.value.now _ _ c.in-Entries.is c.in_ok-project_entries-in-Entries.ensures

pub project_block-returns : goal.project_block-returns
project_block-returns t c = block_is c.args.version c.args.level.now c.args.block.now _ _ _ c.in_ok-fields.ensures c.in_ok-groups.ensures c.in_ok-parts.ensures

pub project_groups-loop-i-preserved : goal.project_groups-loop-i-preserved
project_groups-loop-i-preserved t c = elim c.if-group-version.branch [
  | project_groups-then-group-version+in_ok-copy+in_ok-push w ↦
      subst (λ out. out ++ known_groups c.args.version (drop (c.loop-i.i + 1) c.args.groups.now) (drop (c.loop-i.i + 1) c.args.values.now) ≡ known_groups c.args.version c.args.groups.now c.args.values.now) (sym (w.out-is ∙ w.in_ok-push.ensures.ok))
      (each_go (old_group c.args.version) (projected_group c.args.version) c.args.groups.now _ c.args.values.now c.loop-i.out c.loop-i.i _ _ _ _ c.as_slice-group-items.ensures c.loop-i-test.true c.group-item.is c.at-value.ensures (old_has_group c.args.version _ w.if-group-version.true) w.in_ok-copy.ensures c.loop-i.invariant)
  | project_groups-else-group-version w ↦
      subst (λ out. out ++ known_groups c.args.version (drop (c.loop-i.i + 1) c.args.groups.now) (drop (c.loop-i.i + 1) c.args.values.now) ≡ known_groups c.args.version c.args.groups.now c.args.values.now) (sym w.out-is)
      (each_pass (old_group c.args.version) (projected_group c.args.version) c.args.groups.now _ c.args.values.now c.loop-i.out c.loop-i.i _ _ _ c.as_slice-group-items.ensures c.loop-i-test.true c.group-item.is c.at-value.ensures (old_lacks_group c.args.version _ w.if-group-version.false) c.loop-i.invariant)
]
