use Rattle.std.proofs.Common.{◌+◌, subst, take, arith, length-take-le, take-take}
use Rattle.byte_places.specs.Places.{IsPlaced}
use Rattle.byte_places.proofs.Placing.{front_placed}
use Rattle.byte_places.proofs.copies.place_within.Goals as goal

pub returns-clause-placed : goal.returns-clause-placed
returns-clause-placed g c =
    let bytes = c.args.bytes.now in
    let front = take g.row.N bytes in
    subst (λ x. IsPlaced c.args.room.now c.place_front.new.room c.args.at x (c.args.at + c.args.count)) (take-take c.args.count g.row.N bytes c.requires.most)
    (front_placed c.args.count front (omega (arith, c.requires.within)) (omega (arith, c.requires.most, length-take-le g.row.N bytes c.requires.enough)) c.place_front.ensures)
