use Rattle.std.proofs.Common.{◌≡◌, sym, subst, arith}
use Rattle.std.specs.Prelude.{IfOk}
use Rattle.sbe_types.specs.declared.schema.Level.{out-Level}
use Rattle.version_project.proofs.AddedWalk.{text_is, root_added, early_goes, early_stops, early_new, early_last, early_ends, first_holds, second_holds, none_holds}
use Rattle.version_project.proofs.added.added_at_root.Goals.{then-has_old_group-via-then-has_old_group, then-has_old_group-via-else-has_old_group+then-has_old_part, then-group-version+in_ok-path+in_default, else-group-version+else-has_old_group+else-has_old_part}
use Rattle.version_project.proofs.added.added_at_root.Goals as goal

pub loop-i-init : goal.loop-i-init
loop-i-init c = sym (text_is (root_added c.args.version c.args.level.now))

pub returns-in-Some : goal.returns-in-Some
returns-in-Some c =
    early_stops c.args.version (out-Level c.args.level.now).parts (out-Level c.args.level.now).groups _ c.loop-i.i _ _ _ c.at-group.ensures c.if-group-version.true c.in_ok-path.ensures c.in-Some.is c.loop-i.invariant

pub returns-then-has_old_group : goal.returns-then-has_old_group
returns-then-has_old_group c =
    let found = early_new c.args.version (out-Level c.args.level.now).parts (out-Level c.args.level.now).groups _ c.loop-i.i _ c.at-group.ensures c.if-group-version.false in
    elim c.then-has_old_group.branch [
      | then-has_old_group-via-then-has_old_group w ↦
          subst (λ w. IfOk c.named.result (λ d. d ≡ w)) (found (first_holds _ _ _ c.has_old_group.ensures w.if-has_old_group.true) c.loop-i.invariant) c.named.ensures
      | then-has_old_group-via-else-has_old_group+then-has_old_part w ↦
          subst (λ w. IfOk c.named.result (λ d. d ≡ w))
          (found (second_holds _ _ _ _ c.has_old_group.ensures w.if-has_old_group.false w.has_old_part.ensures w.if-has_old_part.true) c.loop-i.invariant) c.named.ensures
    ]

pub loop-i-preserved : goal.loop-i-preserved
loop-i-preserved c = elim c.if-group-version.branch [
  | then-group-version+in_ok-path+in_default w ↦
      early_goes c.args.version (out-Level c.args.level.now).parts (out-Level c.args.level.now).groups _ c.loop-i.i _ _ c.at-group.ensures w.if-group-version.true w.in_ok-path.ensures w.in_default.is c.loop-i.invariant
  | else-group-version+else-has_old_group+else-has_old_part w ↦
      early_last c.args.version (out-Level c.args.level.now).parts (out-Level c.args.level.now).groups _ c.loop-i.i _ c.at-group.ensures w.if-group-version.false
      (none_holds _ _ _ _ w.has_old_group.ensures w.if-has_old_group.false w.has_old_part.ensures w.if-has_old_part.false) c.loop-i.invariant
]

pub returns : goal.returns
returns c =
    subst (λ w. IfOk c.early_part.result (λ d. d ≡ w))
    (early_ends c.args.version (out-Level c.args.level.now).parts (out-Level c.args.level.now).groups _ c.loop-i.i (omega arith) c.loop-i.invariant) c.early_part.ensures
