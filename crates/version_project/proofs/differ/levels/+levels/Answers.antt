use Rattle.std.proofs.Common.{arith, ◌≡◌, ◌+◌, drop, sym, ap, ◌∙◌, subst}
use Rattle.std.specs.Prelude.{IfOk}
use Rattle.version_laws.specs.Differ.{group_name, in_part}
use Rattle.version_project.specs.IsPlain.{old_group}
use Rattle.version_project.specs.Paired.{group_compare, groups_compare}
use Rattle.version_project.proofs.PairWalk.{kept_goes_on, kept_stops, added_goes_on, missing, fields_tell, groups_tell, parts_tell, group_ends, differs_named}
use Rattle.version_project.proofs.OldParts.{old_has_group, old_lacks_group}
use Rattle.version_project.proofs.NarrowLevels.{fields_narrow, groups_narrow, level_narrow, narrow_at, narrow_item}
use Rattle.version_project.proofs.LevelSizes.{size_of_level, size_of_group, size_of_one}
use Rattle.version_project.specs.Narrow.{IsNarrowGroup}
use Rattle.version_project.proofs.differ.levels.+levels.Goals.{groups_differ-then-new-version+else-i-len+in_ok-found+in_default, groups_differ-else-new-version}
use Rattle.version_project.proofs.differ.levels.+levels.Goals as goal

pub group_differs-returns-in-None : goal.group_differs-returns-in-None
group_differs-returns-in-None t c =
    group_ends c.args.version c.args.more c.args.old.now c.args.new.now _ _ _ c.reason_of.ensures c.in_default.is c.in_ok-level_differs.ensures (ap (in_part _) (sym c.in-None.is))

pub group_differs-returns-in_ok-outer-in-Some-2 : goal.group_differs-returns-in_ok-outer-in-Some-2
group_differs-returns-in_ok-outer-in-Some-2 t c =
    group_ends c.args.version c.args.more c.args.old.now c.args.new.now _ _ _ c.reason_of.ensures c.in_default.is c.in_ok-level_differs.ensures (c.in_ok-outer-in-Some-2.ensures ∙ ap (in_part _) (sym c.in-Some-2.is))

pub groups_differ-returns-in-Some : goal.groups_differ-returns-in-Some
groups_differ-returns-in-Some t c =
    kept_stops (old_group c.args.version) group_name (group_compare c.args.version c.args.more) c.args.olds.now c.args.news.now _ c.loop-new.i c.loop-new.new-index _ _ _
    c.as_slice-new-items.ensures c.loop-new-test.true c.new-item.is c.at-old.ensures (old_has_group c.args.version _ c.if-new-version.true) (sym c.in-Some.is ∙ c.in_ok-found.ensures) c.loop-new.invariant

pub groups_differ-loop-new-preserved : goal.groups_differ-loop-new-preserved
groups_differ-loop-new-preserved t c = elim c.if-new-version.branch [
  | groups_differ-then-new-version+else-i-len+in_ok-found+in_default w ↦
      subst (λ i. groups_compare c.args.version c.args.more (drop i c.args.olds.now) (drop (c.loop-new.new-index + 1) c.args.news.now) ≡ groups_compare c.args.version c.args.more c.args.olds.now c.args.news.now) (sym w.i-is)
      (kept_goes_on (old_group c.args.version) group_name (group_compare c.args.version c.args.more) c.args.olds.now c.args.news.now _ c.loop-new.i c.loop-new.new-index _ _
      c.as_slice-new-items.ensures c.loop-new-test.true c.new-item.is w.at-old.ensures (old_has_group c.args.version _ w.if-new-version.true) (sym w.in_default.is ∙ w.in_ok-found.ensures) c.loop-new.invariant)
  | groups_differ-else-new-version w ↦
      subst (λ i. groups_compare c.args.version c.args.more (drop i c.args.olds.now) (drop (c.loop-new.new-index + 1) c.args.news.now) ≡ groups_compare c.args.version c.args.more c.args.olds.now c.args.news.now) (sym w.i-is)
      (added_goes_on (old_group c.args.version) group_name (group_compare c.args.version c.args.more) c.args.olds.now c.args.news.now _ c.loop-new.i c.loop-new.new-index _
      c.as_slice-new-items.ensures c.loop-new-test.true c.new-item.is (old_lacks_group c.args.version _ w.if-new-version.false) c.loop-new.invariant)
]

pub groups_differ-returns-then-i-len-2 : goal.groups_differ-returns-then-i-len-2
groups_differ-returns-then-i-len-2 t c =
    subst (λ w. IfOk c.at_part-then-i-len-2.result (λ d. d ≡ w))
    (differs_named _ ∙ missing (old_group c.args.version) group_name (group_compare c.args.version c.args.more) c.args.olds.now c.args.news.now _ c.loop-new.i c.loop-new.new-index _
    c.as_slice-new-items.ensures c.at.ensures c.loop-new-test.false c.loop-new.invariant)
    c.at_part-then-i-len-2.ensures

pub level_differs-returns-in-Some : goal.level_differs-returns-in-Some
level_differs-returns-in-Some t c = fields_tell c.args.version c.args.more c.args.old.now c.args.new.now _ _ c.in_ok-found.ensures c.in-Some.is

pub level_differs-returns-in-Some-2 : goal.level_differs-returns-in-Some-2
level_differs-returns-in-Some-2 t c = groups_tell c.args.version c.args.more c.args.old.now c.args.new.now _ _ _ c.in_ok-found.ensures c.in_default.is c.in_ok-found-2.ensures c.in-Some-2.is

pub level_differs-returns : goal.level_differs-returns
level_differs-returns t c =
    subst (λ w. IfOk c.parts_differ.result (λ d. d ≡ w)) (parts_tell c.args.version c.args.more c.args.old.now c.args.new.now _ _ c.in_ok-found.ensures c.in_default.is c.in_ok-found-2.ensures c.in_default-2.is) c.parts_differ.ensures

pub level_differs-fields_differ-requires-clause-old : goal.level_differs-fields_differ-requires-clause-old
level_differs-fields_differ-requires-clause-old t c = fields_narrow c.args.old.now c.requires.old

pub level_differs-fields_differ-requires-clause-new : goal.level_differs-fields_differ-requires-clause-new
level_differs-fields_differ-requires-clause-new t c = fields_narrow c.args.new.now c.requires.new

pub level_differs-groups_differ-requires : goal.level_differs-groups_differ-requires
level_differs-groups_differ-requires t c = (omega (arith, size_of_level c.args.old.now), (groups_narrow c.args.old.now c.requires.old, groups_narrow c.args.new.now c.requires.new))

pub group_differs-level_differs-requires : goal.group_differs-level_differs-requires
group_differs-level_differs-requires t c = (omega (arith, size_of_group c.args.old.now), (level_narrow c.args.old.now c.requires.old, level_narrow c.args.new.now c.requires.new))

pub groups_differ-group_differs-requires : goal.groups_differ-group_differs-requires
groups_differ-group_differs-requires t c = (
  omega (arith, size_of_one c.args.olds.now c.loop-new.i c.at-old.result.now c.at-old.ensures),
  (
    narrow_at IsNarrowGroup c.args.olds.now c.loop-new.i _ c.requires.old c.at-old.ensures,
    narrow_item IsNarrowGroup c.args.news.now _ c.loop-new.new-index _ c.requires.new c.as_slice-new-items.ensures c.loop-new-test.true c.new-item.is,
  ),
)
