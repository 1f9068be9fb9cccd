use Rattle.std.proofs.Common.{◌≡◌, refl, ◌∙◌, subst, arith}
use Rattle.std.specs.Prelude.{IfOk}
use Rattle.sbe_types.specs.Places.{end_past}
use Rattle.version_project.proofs.FieldWalk.{field_kept, field_stops, field_added, field_extra, field_missing, field_next, field_goes, field_stands}
use Rattle.version_project.proofs.differ.fields.fields_differ.Goals.{then-new-version+else-i-len+in_default, else-new-version}
use Rattle.version_project.proofs.differ.fields.fields_differ.Goals as goal

pub returns-then-i-len : goal.returns-then-i-len
returns-then-i-len c =
    subst (λ w. IfOk c.at_part.result (λ d. d ≡ w))
    (field_extra c.args.version c.args.more c.args.olds.now c.args.news.now _ c.loop-j.end c.loop-j.i c.loop-j.other_end c.loop-j.j _ (omega arith) c.at-new.ensures c.if-new-version.true c.loop-j.invariant.so_far)
    c.at_part.ensures

pub reason_of-requires-clause-old : goal.reason_of-requires-clause-old
reason_of-requires-clause-old c = (field_next c.loop-j.end c.args.olds.now c.loop-j.i _ c.at-old.ensures c.loop-j.invariant.old).0

pub reason_of-requires-clause-new : goal.reason_of-requires-clause-new
reason_of-requires-clause-new c = (field_next c.loop-j.other_end c.args.news.now c.loop-j.j _ c.at-new.ensures c.loop-j.invariant.new).0

pub returns-in-Some : goal.returns-in-Some
returns-in-Some c =
    subst (λ w. IfOk c.at_part-in-Some.result (λ d. d ≡ w))
    (field_stops c.args.version c.args.more c.args.olds.now c.args.news.now _ c.loop-j.end c.loop-j.i c.loop-j.other_end c.loop-j.j _ _ _ _ c.at-old.ensures c.at-new.ensures c.if-new-version.true
    c.reason_of.ensures c.in-Some.is c.loop-j.invariant.so_far)
    c.at_part-in-Some.ensures

pub end_after-end-requires-clause-narrow : goal.end_after-end-requires-clause-narrow
end_after-end-requires-clause-narrow c = (field_next c.loop-j.end c.args.olds.now c.loop-j.i _ c.at-old.ensures c.loop-j.invariant.old).0

pub end_after-end-requires-clause-within : goal.end_after-end-requires-clause-within
end_after-end-requires-clause-within c = (field_next c.loop-j.end c.args.olds.now c.loop-j.i _ c.at-old.ensures c.loop-j.invariant.old).1

pub end_after-other_end-requires-clause-narrow : goal.end_after-other_end-requires-clause-narrow
end_after-other_end-requires-clause-narrow c = (field_next c.loop-j.other_end c.args.news.now c.loop-j.j _ c.at-new.ensures c.loop-j.invariant.new).0

pub end_after-other_end-requires-clause-within : goal.end_after-other_end-requires-clause-within
end_after-other_end-requires-clause-within c = (field_next c.loop-j.other_end c.args.news.now c.loop-j.j _ c.at-new.ensures c.loop-j.invariant.new).1

pub loop-j-preserved : goal.loop-j-preserved
loop-j-preserved c = elim c.if-new-version.branch [
  | then-new-version+else-i-len+in_default w ↦
      let end : c.if-new-version.end ≡ end_past c.loop-j.end w.at-old.result.now.offset w.at-old.result.now.kind = w.end-is ∙ w.end_after-end.ensures in
      record {
        so_far =
            field_kept c.args.version c.args.more c.args.olds.now c.args.news.now _ c.loop-j.end c.loop-j.i c.loop-j.other_end c.loop-j.j _ _ _ _ _ _ w.at-old.ensures c.at-new.ensures w.if-new-version.true
            w.reason_of.ensures w.in_default.is end w.i-is c.end_after-other_end.ensures c.loop-j.invariant.so_far;
        old = field_goes c.loop-j.end _ c.args.olds.now c.loop-j.i _ _ w.at-old.ensures end w.i-is c.loop-j.invariant.old;
        new = field_goes c.loop-j.other_end _ c.args.news.now c.loop-j.j _ _ c.at-new.ensures c.end_after-other_end.ensures refl c.loop-j.invariant.new;
      }
  | else-new-version w ↦
      record {
        so_far =
            field_added c.args.version c.args.more c.args.olds.now c.args.news.now _ c.loop-j.end c.loop-j.i c.loop-j.other_end c.loop-j.j _ _ _ _ c.at-new.ensures w.if-new-version.false
            w.end-is w.i-is c.end_after-other_end.ensures c.loop-j.invariant.so_far;
        old = field_stands c.loop-j.end _ c.args.olds.now c.loop-j.i _ w.end-is w.i-is c.loop-j.invariant.old;
        new = field_goes c.loop-j.other_end _ c.args.news.now c.loop-j.j _ _ c.at-new.ensures c.end_after-other_end.ensures refl c.loop-j.invariant.new;
      }
]

pub returns-then-i-len-2 : goal.returns-then-i-len-2
returns-then-i-len-2 c =
    subst (λ w. IfOk c.at_part-then-i-len-2.result (λ d. d ≡ w))
    (field_missing c.args.version c.args.more c.args.olds.now c.args.news.now _ c.loop-j.end c.loop-j.i c.loop-j.other_end c.loop-j.j _ c.at.ensures (omega arith) c.loop-j.invariant.so_far)
    c.at_part-then-i-len-2.ensures
