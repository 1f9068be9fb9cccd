use Rattle.std.proofs.Common.{◌≡◌, sym, subst, drop, ◌+◌}
use Rattle.std.specs.Prelude.{IfOk}
use Rattle.version_laws.specs.Projected.{old_part}
use Rattle.version_project.specs.Paired.{data_name, data_compare, parts_compare}
use Rattle.version_project.proofs.OldParts.{old_has, old_lacks}
use Rattle.version_project.proofs.PairWalk.{kept_goes_on, kept_stops, added_goes_on, missing, data_stops, data_passes}
use Rattle.version_project.proofs.differ.data.parts_differ.Goals.{then-new-version+else-i-len+in_default, else-new-version}
use Rattle.version_project.proofs.differ.data.parts_differ.Goals as goal

pub returns-in-Some : goal.returns-in-Some
returns-in-Some c =
    subst (λ w. IfOk c.at_part-in-Some.result (λ d. d ≡ w))
    (kept_stops (old_part c.args.version) data_name data_compare c.args.olds.now c.args.news.now _ c.loop-new.i c.loop-new.new-index _ _ _
    c.as_slice-new-items.ensures c.loop-new-test.true c.new-item.is c.at-old.ensures (old_has c.args.version _ c.if-new-version.true)
    (data_stops c.at-old.result.now c.new-item.result _ _ c.reason_of.ensures c.in-Some.is) c.loop-new.invariant)
    c.at_part-in-Some.ensures

pub loop-new-preserved : goal.loop-new-preserved
loop-new-preserved c = elim c.if-new-version.branch [
  | then-new-version+else-i-len+in_default w ↦
      subst (λ i. parts_compare c.args.version (drop i c.args.olds.now) (drop (c.loop-new.new-index + 1) c.args.news.now) ≡ parts_compare c.args.version c.args.olds.now c.args.news.now) (sym w.i-is)
      (kept_goes_on (old_part c.args.version) data_name data_compare c.args.olds.now c.args.news.now _ c.loop-new.i c.loop-new.new-index _ _
      c.as_slice-new-items.ensures c.loop-new-test.true c.new-item.is w.at-old.ensures (old_has c.args.version _ w.if-new-version.true)
      (data_passes w.at-old.result.now c.new-item.result _ w.reason_of.ensures w.in_default.is) c.loop-new.invariant)
  | else-new-version w ↦
      subst (λ i. parts_compare c.args.version (drop i c.args.olds.now) (drop (c.loop-new.new-index + 1) c.args.news.now) ≡ parts_compare c.args.version c.args.olds.now c.args.news.now) (sym w.i-is)
      (added_goes_on (old_part c.args.version) data_name data_compare c.args.olds.now c.args.news.now _ c.loop-new.i c.loop-new.new-index _
      c.as_slice-new-items.ensures c.loop-new-test.true c.new-item.is (old_lacks c.args.version _ w.if-new-version.false) c.loop-new.invariant)
]

pub returns-then-i-len-2 : goal.returns-then-i-len-2
returns-then-i-len-2 c =
    subst (λ w. IfOk c.at_part-then-i-len-2.result (λ d. d ≡ w))
    (missing (old_part c.args.version) data_name data_compare c.args.olds.now c.args.news.now _ c.loop-new.i c.loop-new.new-index _
    c.as_slice-new-items.ensures c.at.ensures c.loop-new-test.false c.loop-new.invariant)
    c.at_part-then-i-len-2.ensures
