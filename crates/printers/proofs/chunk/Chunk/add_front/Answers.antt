use Rattle.std.proofs.Common.{rules, ◌≤◌, length, arith}
use Rattle.printers.proofs.Gathered.{front_then}
use Rattle.printers.proofs.chunk.Chunk.add_front.Goals as goal

pub returns : goal.returns
returns c =
    let inside = c.self.inside in
    let near : inside.len ≤ length inside.room = omega (arith, c.self.invariant) in
    let placed = front_then c.args.front.now c.args.after.now c.args.last.now c.requires.run near c.place.ensures c.place-then.ensures c.place-self-inside.ensures in
    search (placed, rules)
