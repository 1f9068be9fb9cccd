use Rattle.std.proofs.Common.{◌≡◌, ◌≤◌, ◌+◌, ◌-◌, ◌∙◌, ap, take, length, arith, rules}
use Rattle.sbe_types.specs.Places.{width}
use Rattle.typed_writer.specs.Held.{Filled, spliced}
use Rattle.typed_writer.proofs.Lists.{middle_put}
use Rattle.typed_writer.proofs.room.Room.put.Goals as goal

pub returns-clause-bytes : goal.returns-clause-bytes
returns-clause-bytes c =
    let n = c.self.inside.len in
    let a = c.args.at + c.args.place in
    let xs = c.deref_mut.result.now in
    let piece = c.put_kind.new.out in
    let front : take n xs ≡ c.args.self.now.bytes = ap (take n) c.deref_mut.ensures.value ∙ ap (λ (h : Filled). h.bytes) c.self.view_is in
    let wide : length piece ≡ width c.args.kind.now = search rules in
    let within : n ≤ length xs = search rules in
    let room : a + length piece ≤ n = search rules in
    let k = c.args.at + c.args.place + c.width_of.result - (c.args.at + c.args.place) in
    let many : length piece ≡ k = omega (arith, wide, c.width_of.ensures) in
    record {
      piece = piece;
      wire = search rules;
      wide = wide;
      bytes = middle_put n _ a k xs piece _ (search rules) within many (omega (arith, room, many)) ∙ ap (λ z. spliced z a piece) front;
    }
