use Rattle.std.proofs.Common.{rules, refl, ap, sym, ◌∙◌}
use Rattle.schema_facts.specs.Levels.{level_at, root_of}
use Rattle.typed_writer.specs.Held.{Held}
use Rattle.typed_writer.specs.States.{parts_done}
use Rattle.body_walk.proofs.Bodies.{root_level}
use Rattle.tree_codec.proofs.FillSteps.{some_none}
use Rattle.tree_codec.proofs.PutRoots.{begin_never_refused, message_roomy, message_written, root_all_set, root_begun, root_tail_level, root_tail_room, template_there}
use Rattle.tree_codec.proofs.ShapesBelow.{shaped}
use Rattle.tree_codec.proofs.encoding.put_message.Goals as goal

pub message-level-requires : goal.message-level-requires
message-level-requires c = template_there c.args.layout.now c.args.msg.now c.args.buf.now.limit c.requires.fits

pub fill_block-requires-clause-level : goal.fill_block-requires-clause-level
fill_block-requires-clause-level c =
    let schema = c.args.layout.now in
    let m = c.args.msg.now in
    let level = c.message-level.result.now in
    let n = root_of schema m.template in
    let at = root_level schema m.template n level refl c.message-level.ensures in
    ap (level_at schema) (root_begun schema m level c.args.buf.now n c.requires.schema.checked c.message-level.ensures at refl c.requires.fits c.in-Ok.fields.buf.now c.in-Ok.ensures.ok) ∙ at

pub fill_block-requires-clause-many : goal.fill_block-requires-clause-many
fill_block-requires-clause-many c =
    let level = c.message-level.result.now in
    (shaped level c.args.msg.now.block (message_roomy c.args.layout.now c.args.msg.now c.args.buf.now.limit level c.message-level.ensures c.requires.fits).shape).fields

pub fill_block-requires-clause-fits : goal.fill_block-requires-clause-fits
fill_block-requires-clause-fits c = (message_roomy c.args.layout.now c.args.msg.now c.args.buf.now.limit c.message-level.result.now c.message-level.ensures c.requires.fits).fits

pub put_tail-requires-clause-level : goal.put_tail-requires-clause-level
put_tail-requires-clause-level c =
    let schema = c.args.layout.now in
    let m = c.args.msg.now in
    let level = c.message-level.result.now in
    let n = root_of schema m.template in
    let at = root_level schema m.template n level refl c.message-level.ensures in
    root_tail_level schema m level c.args.buf.now n c.requires.schema.checked c.message-level.ensures at refl c.requires.fits c.in-Ok.fields.buf.now c.in-Ok.ensures.ok
    c.fill_block.new.buf c.fill_block.ensures.fills c.in-Ok-done.tail.buf.now c.in-Ok-done.ensures.ok

pub put_tail-requires-clause-at : goal.put_tail-requires-clause-at
put_tail-requires-clause-at c = ap (λ (h : Held). parts_done h.frames) c.in-Ok-done.ensures.ok

pub put_tail-requires-clause-shape : goal.put_tail-requires-clause-shape
put_tail-requires-clause-shape c = (message_roomy c.args.layout.now c.args.msg.now c.args.buf.now.limit c.message-level.result.now c.message-level.ensures c.requires.fits).shape

pub put_tail-requires-clause-room : goal.put_tail-requires-clause-room
put_tail-requires-clause-room c =
    let schema = c.args.layout.now in
    let m = c.args.msg.now in
    let level = c.message-level.result.now in
    let n = root_of schema m.template in
    let at = root_level schema m.template n level refl c.message-level.ensures in
    root_tail_room schema m level c.args.buf.now n c.requires.schema.checked c.message-level.ensures at refl c.requires.fits c.in-Ok.fields.buf.now c.in-Ok.ensures.ok
    c.fill_block.new.buf c.fill_block.ensures.fills c.in-Ok-done.tail.buf.now c.in-Ok-done.ensures.ok

pub unreachable-requires : goal.unreachable-requires
unreachable-requires c =
    let schema = c.args.layout.now in
    let m = c.args.msg.now in
    let level = c.message-level.result.now in
    let n = root_of schema m.template in
    let at = root_level schema m.template n level refl c.message-level.ensures in
    some_none (sym c.in-Err-done.ensures.unset
    ∙ root_all_set schema m level c.args.buf.now n c.requires.schema.checked c.message-level.ensures at refl c.requires.fits c.in-Ok.fields.buf.now c.in-Ok.ensures.ok c.fill_block.new.buf c.fill_block.ensures.fills)

pub unreachable-requires-in-Err : goal.unreachable-requires-in-Err
unreachable-requires-in-Err c =
    let schema = c.args.layout.now in
    let m = c.args.msg.now in
    let level = c.message-level.result.now in
    let n = root_of schema m.template in
    let at = root_level schema m.template n level refl c.message-level.ensures in
    begin_never_refused schema m level c.args.buf.now n c.requires.schema.checked c.message-level.ensures at refl c.requires.fits c.in-Err.field-0 c.in-Err.ensures.refused

pub returns-clause-written : goal.returns-clause-written
returns-clause-written c =
    let schema = c.args.layout.now in
    let m = c.args.msg.now in
    let level = c.message-level.result.now in
    let n = root_of schema m.template in
    let at = root_level schema m.template n level refl c.message-level.ensures in
    message_written schema m level c.args.buf.now n c.requires.schema.checked c.message-level.ensures at refl c.requires.fits c.in-Ok.fields.buf.now c.in-Ok.ensures.ok
    c.fill_block.new.buf c.fill_block.ensures.fills c.in-Ok-done.tail.buf.now c.in-Ok-done.ensures.ok c.put_tail.new.buf c.put_tail.ensures.puts
    ∙ search rules
