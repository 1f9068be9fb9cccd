use Rattle.std.proofs.Common.{rules, ◌≡◌, true, pos}
use Rattle.sbe_types.specs.Shown.{admits}
use Rattle.tree_codec.proofs.RoomSteps.{count_few, some_few}
use Rattle.tree_codec.proofs.rooms.take_dim.Goals as goal

pub returns-clause-few : goal.returns-clause-few
returns-clause-few c =
    let told : true ≡ admits c.in-Some.row.count.leaf (pos c.args.count) = search rules in
    some_few c.take_room.result c.args.count (count_few c.args.walk.now.layout.now c.args.n c.row.result.now c.in-Some.row c.args.count c.requires.schema c.row.ensures c.in-Some.is told)
