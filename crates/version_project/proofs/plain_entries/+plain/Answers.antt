use Rattle.std.proofs.Common.{sym, ap, ◌∙◌}
use Rattle.std.specs.Prelude.{◌&&◌}
use Rattle.version_project.specs.IsPlain.{group_is_plain}
use Rattle.version_project.proofs.OldParts.{old_has, old_lacks}
use Rattle.version_project.proofs.Opens.{pairs_go, pairs_stop, both_tests, no_groups_pass, absent_is_plain, known_is_plain, added_is_not}
use Rattle.version_project.proofs.plain_entries.+plain.Goals as goal

pub plain_entry-returns-then-plain_groups : goal.plain_entry-returns-then-plain_groups
plain_entry-returns-then-plain_groups t c =
    ap (λ p. p && c.plain_parts.result) (sym c.if-plain_groups.true) ∙ both_tests c.args.version c.args.level.now c.args.block.now c.plain_groups.result c.plain_parts.result c.plain_groups.ensures c.plain_parts.ensures

pub plain_entry-returns-else-plain_groups : goal.plain_entry-returns-else-plain_groups
plain_entry-returns-else-plain_groups t c =
    no_groups_pass c.args.version c.args.level.now c.args.block.now c.plain_groups.result c.plain_groups.ensures c.if-plain_groups.false

pub plain_group-returns-in-Absent : goal.plain_group-returns-in-Absent
plain_group-returns-in-Absent t c = absent_is_plain c.args.version c.args.group.now c.args.value.now c.in-Absent.is

pub plain_group-returns-then-group-version : goal.plain_group-returns-then-group-version
plain_group-returns-then-group-version t c = known_is_plain c.args.version c.args.group.now c.args.value.now _ c.plain_entries.result c.in-Entries.is (old_has c.args.version _ c.if-group-version.true) c.plain_entries.ensures

pub plain_group-returns-else-group-version : goal.plain_group-returns-else-group-version
plain_group-returns-else-group-version t c = added_is_not c.args.version c.args.group.now c.args.value.now _ c.in-Entries.is (old_lacks c.args.version _ c.if-group-version.false)

pub plain_groups-returns-then-not-plain_group : goal.plain_groups-returns-then-not-plain_group
plain_groups-returns-then-not-plain_group t c = pairs_stop (group_is_plain c.args.version) c.args.groups.now _ c.args.values.now c.loop-i.i _ _ _ c.as_slice-group-items.ensures c.loop-i-test.true c.group-item.is c.at.ensures c.plain_group.ensures c.if-not-plain_group.true c.loop-i.invariant

pub plain_groups-loop-i-preserved : goal.plain_groups-loop-i-preserved
plain_groups-loop-i-preserved t c = pairs_go (group_is_plain c.args.version) c.args.groups.now _ c.args.values.now c.loop-i.i _ _ _ c.as_slice-group-items.ensures c.loop-i-test.true c.group-item.is c.at.ensures c.plain_group.ensures c.if-not-plain_group.false c.loop-i.invariant
