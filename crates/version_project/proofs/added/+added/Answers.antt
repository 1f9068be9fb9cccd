use Rattle.std.proofs.Common.{◌≡◌, arith, sym, ◌∙◌, subst}
use Rattle.std.specs.Prelude.{IfOk}
use Rattle.sbe_types.specs.declared.schema.Level.{out-Level}
use Rattle.sbe_types.proofs.schema.Group.TheLaws.{the_size}
use Rattle.version_laws.specs.Forward.{added_part}
use Rattle.version_project.specs.Additions.{added_each}
use Rattle.version_project.proofs.AddedWalk.{group_below, level_added, later_some, later_none, each_goes, each_stops, each_new, text_is}
use Rattle.version_project.proofs.Sizes.{size_at}
use Rattle.version_project.proofs.added.+added.Goals as goal

pub added_below-returns : goal.added_below-returns
added_below-returns t c = subst (λ w. IfOk c.inside.result (λ d. d ≡ w)) (group_below c.args.version c.args.group.now _ c.in_ok-path.ensures) c.inside.ensures

pub added_group-returns-then-group-version : goal.added_group-returns-then-group-version
added_group-returns-then-group-version t c =
    subst (λ w. IfOk c.named.result (λ d. d ≡ w)) (each_new c.args.version c.args.groups.now _ c.loop-i.i _ c.at-group.ensures c.if-group-version.true c.loop-i.invariant) c.named.ensures

pub added_group-added_below-requires : goal.added_group-added_below-requires
added_group-added_below-requires t c = (omega (arith, size_at the_size c.args.groups.now c.loop-i.i c.at-group.result.now c.at-group.ensures), tt)

pub added_group-returns-in-Some : goal.added_group-returns-in-Some
added_group-returns-in-Some t c =
    each_stops c.args.version c.args.groups.now _ c.loop-i.i _ _ _ c.at-group.ensures c.if-group-version.false c.in_ok-path.ensures c.in-Some.is c.loop-i.invariant

pub added_group-loop-i-preserved : goal.added_group-loop-i-preserved
added_group-loop-i-preserved t c =
    each_goes c.args.version c.args.groups.now _ c.loop-i.i _ _ c.at-group.ensures c.if-group-version.false c.in_ok-path.ensures c.in_default.is c.loop-i.invariant

pub added_in-returns-in-Some : goal.added_in-returns-in-Some
added_in-returns-in-Some t c =
    later_some (added_each c.args.version (out-Level c.args.level.now).groups) (added_part c.args.version (out-Level c.args.level.now).parts) _ _ c.in_ok-path.ensures c.in-Some.is
    ∙ sym (text_is (level_added c.args.version c.args.level.now))

pub added_in-returns : goal.added_in-returns
added_in-returns t c =
    subst (λ w. IfOk c.added_part.result (λ d. d ≡ w))
    (later_none (added_each c.args.version (out-Level c.args.level.now).groups) (added_part c.args.version (out-Level c.args.level.now).parts) _ c.in_ok-path.ensures c.in_default.is
    ∙ sym (text_is (level_added c.args.version c.args.level.now)))
    c.added_part.ensures
