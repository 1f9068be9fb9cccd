use Rattle.std.proofs.Common.{rules, ap, ◌≤◌, ◌∷◌, [], length, arith, length-take-le}
use Rattle.printers.specs.Chunks.{Gathered}
use Rattle.printers.proofs.Gathered.{middle_placed}
use Rattle.printers.proofs.chunk.Chunk.add_front_in_quotes.Goals as goal

pub returns : goal.returns
returns c =
    let inside = c.self.inside in
    let first = c.place-at.ensures in
    let near : c.place-at.result ≤ length c.place-at.new.room = omega (arith, first.moved, first.long, c.self.invariant, c.requires.room, ap (λ (g : Gathered). length g.bytes) c.self.view_is, length-take-le inside.len inside.room) in
    let placed = middle_placed (34 ∷ []) c.args.field.now (34 ∷ []) c.requires.run near first c.place-self-inside.ensures c.place-self-inside-2.ensures in
    search (placed, rules)
