use Rattle.std.proofs.Common.{Some, ap, sym, ◌∙◌, arith}
use Rattle.tree_codec.specs.declared.first_misfit.FirstMisfit.{FirstMisfit}
use Rattle.tree_codec.specs.Rooms.{place_or_misfit}
use Rattle.tree_codec.specs.Shapes.{misfit_of}
use Rattle.tree_codec.proofs.WholeMisfit.{unknown, of_other_version, of_other_shape, of_parts, root_few, root_shallow}
use Rattle.tree_codec.proofs.sizing.judge_message.Goals as goal

pub returns-then-msg-templates-clause-told : goal.returns-then-msg-templates-clause-told
returns-then-msg-templates-clause-told c =
    unknown c.args.layout.now c.args.msg.now c.args.limit (omega (arith, c.if-msg-templates.true, c.templates.ensures)) ∙ sym (ap (λ (u : FirstMisfit). Some (misfit_of u)) c.tell.ensures)

pub returns-then-msg-version-clause-told : goal.returns-then-msg-version-clause-told
returns-then-msg-version-clause-told c =
    of_other_version c.args.layout.now c.args.msg.now c.args.limit c.message-level.result.now c.message-level.ensures (λ h. c.if-msg-version.true (h ∙ sym c.version.ensures))
    ∙ sym (ap (λ (u : FirstMisfit). Some (misfit_of u)) c.tell-then-msg-version.ensures)

pub shape_block-requires-clause-few : goal.shape_block-requires-clause-few
shape_block-requires-clause-few c = root_few c.args.layout.now c.args.msg.now.template c.message-level.result.now c.requires c.message-level.ensures

pub shape_block-requires-clause-shallow : goal.shape_block-requires-clause-shallow
shape_block-requires-clause-shallow c = root_shallow c.args.layout.now c.args.msg.now.template c.message-level.result.now c.requires c.message-level.ensures

pub returns-then-not-shape_block-clause-told : goal.returns-then-not-shape_block-clause-told
returns-then-not-shape_block-clause-told c =
    of_other_shape c.args.layout.now c.args.msg.now c.args.limit c.message-level.result.now c.message-level.ensures (misfit_of c.shape_block.new.out)
    (omega (arith, c.if-msg-version.false, c.version.ensures)) c.if-not-shape_block.ensures.told

pub returns-clause-told : goal.returns-clause-told
returns-clause-told c =
    of_parts c.args.layout.now c.args.msg.now c.args.limit c.message-level.result.now c.message-level.ensures (place_or_misfit c.take_root.result c.take_root.new.out)
    (omega (arith, c.if-msg-version.false, c.version.ensures)) c.if-not-shape_block.ensures.told c.take_root.ensures
