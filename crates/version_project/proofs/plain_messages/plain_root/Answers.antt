use Rattle.std.proofs.Common.{sym, ap, ◌∙◌}
use Rattle.std.specs.Prelude.{not, ◌&&◌}
use Rattle.sbe_types.specs.declared.message.Block.{out-Block}
use Rattle.sbe_types.specs.declared.schema.Level.{out-Level}
use Rattle.version_project.proofs.RootWalk.{groups_go, groups_stop}
use Rattle.version_project.proofs.plain_messages.plain_root.Goals as goal

pub returns-then-not-has_old_group : goal.returns-then-not-has_old_group
returns-then-not-has_old_group c =
    sym (ap (λ a. not a && not c.has_old_part-after.result) c.if-not-has_old_group.true)
    ∙ groups_stop c.args.version (out-Level c.args.level.now).parts (out-Block c.args.block.now).parts (out-Level c.args.level.now).groups _ (out-Block c.args.block.now).groups c.loop-i.i _ _ c.plain_group.result
    c.has_old_group.result c.has_old_part-after.result c.as_slice-group-items.ensures c.loop-i-test.true c.group-item.is c.at.ensures c.plain_group.ensures c.if-not-plain_group.true
    c.has_old_group.ensures c.has_old_part-after.ensures c.loop-i.invariant

pub returns-else-not-has_old_group : goal.returns-else-not-has_old_group
returns-else-not-has_old_group c =
    ap (λ a. not a) c.if-not-has_old_group.false ∙ sym (ap (λ a. not a && not c.has_old_part-after.result) c.if-not-has_old_group.false)
    ∙ groups_stop c.args.version (out-Level c.args.level.now).parts (out-Block c.args.block.now).parts (out-Level c.args.level.now).groups _ (out-Block c.args.block.now).groups c.loop-i.i _ _ c.plain_group.result
    c.has_old_group.result c.has_old_part-after.result c.as_slice-group-items.ensures c.loop-i-test.true c.group-item.is c.at.ensures c.plain_group.ensures c.if-not-plain_group.true
    c.has_old_group.ensures c.has_old_part-after.ensures c.loop-i.invariant

pub loop-i-preserved : goal.loop-i-preserved
loop-i-preserved c =
    groups_go c.args.version (out-Level c.args.level.now).parts (out-Block c.args.block.now).parts (out-Level c.args.level.now).groups _ (out-Block c.args.block.now).groups c.loop-i.i _ _ c.plain_group.result
    c.as_slice-group-items.ensures c.loop-i-test.true c.group-item.is c.at.ensures c.plain_group.ensures c.if-not-plain_group.false c.loop-i.invariant
