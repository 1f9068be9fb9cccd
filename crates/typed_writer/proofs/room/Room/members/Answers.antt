use Rattle.std.proofs.Common.{arith, rules}
use Rattle.typed_writer.proofs.Rising.{member_within}
use Rattle.typed_writer.proofs.room.Room.members.Goals as goal

pub member-end-requires-clause-room : goal.member-end-requires-clause-room
member-end-requires-clause-room c =
    let i = c.loop-member.invariant in
    let fits = member_within c.loop-member.end c.args.members.now c.loop-member.member-index c.member-item.result (search rules) (search rules) i.stand in
    omega (arith, fits.0, fits.1, i.ends, i.long, i.limit, c.requires.room)
