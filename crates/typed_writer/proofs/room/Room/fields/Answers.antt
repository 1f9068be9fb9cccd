use Rattle.std.proofs.Common.{arith, rules}
use Rattle.typed_writer.proofs.Rising.{field_within}
use Rattle.typed_writer.proofs.room.Room.fields.Goals as goal

pub field-requires-clause-room : goal.field-requires-clause-room
field-requires-clause-room c =
    let i = c.loop-field.invariant in
    let fits = field_within c.loop-field.end c.args.fields.now c.loop-field.field-index c.field-item.result (search rules) (search rules) i.stand in
    omega (arith, fits.0, fits.1, i.ends, i.long, i.limit, c.requires.room)
