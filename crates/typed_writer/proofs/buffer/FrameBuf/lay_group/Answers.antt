use Rattle.std.proofs.Common.{◌≡◌, ◌<◌, length, ap, arith, rules}
use Rattle.schema_facts.specs.Levels.{all_nodes, groups_at}
use Rattle.typed_writer.specs.States.{deep_at, level_of}
use Rattle.typed_writer.proofs.Checked.{child_shallow}
use Rattle.typed_writer.proofs.buffer.FrameBuf.lay_group.Goals as goal

pub push-requires : goal.push-requires
push-requires c =
    let schema = c.args.layout.now in
    let level = c.in-Some-Tail.level in
    let low : level < length (all_nodes schema) = search rules in
    let within : c.in-Some-Tail.next < length (groups_at schema level) = search rules in
    let same : level_of c.args.self.now.frames ≡ level = search rules in
    let deep = child_shallow schema level c.group-group.result c.in-Some-Tail.next low within c.group-group.ensures.level in
    let long : length c.replace.new.self ≡ length c.args.self.now.frames = search rules in
    omega (arith, deep, long, c.requires.state.below, ap (deep_at schema) same)
