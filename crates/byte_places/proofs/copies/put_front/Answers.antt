use Rattle.std.proofs.Common.{◌≡◌, length, take, arith, length-take-le}
use Rattle.std.proofs.lemmas.Simd.{take_more_put_chunk, length-put_chunk, put_chunk_is}
use Rattle.byte_places.proofs.Placing.{after_chunk}
use Rattle.byte_places.proofs.copies.put_front.Goals as goal

pub returns : goal.returns
returns g c =
    let front = take g.row.N c.args.bytes.now in
    let long : length front ≡ g.row.N = length-take-le g.row.N c.args.bytes.now c.requires.enough in
    record {
      placed = record {
        front = take_more_put_chunk c.args.at c.args.room.now front _ (omega arith) c.requires.within;
        moved = omega arith;
        long = length-put_chunk c.args.at c.args.room.now front;
      };
      rest = after_chunk c.args.at g.row.N c.args.room.now front _ (put_chunk_is c.args.at c.args.room.now front (omega (arith, long, c.requires.within))) long c.requires.within;
    }
