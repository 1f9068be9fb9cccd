use Rattle.std.proofs.Common.{◌≡◌, ◌+◌, ◌-◌, ◌++◌, ◌∙◌, ap, length, take, refl, arith, rules}
use Rattle.std.proofs.lemmas.Slice.{take-put_mid, drop-put_mid}
use Rattle.byte_places.proofs.copies.put_many.Goals as goal

pub returns : goal.returns
returns c =
    let room = c.args.room.now in
    let bytes = c.args.bytes.now in
    let put : c.copy_from_slice.new.self ≡ bytes = search rules in
    let same : length c.copy_from_slice.new.self ≡ length bytes = ap length put in
    let long : length c.copy_from_slice.new.self ≡ c.args.at + length bytes - c.args.at = omega (arith, same) in
    record {
      placed = record {
        front =
            take-put_mid c.args.at (c.args.at + length bytes - c.args.at) room c.copy_from_slice.new.self (c.args.at + length bytes) (omega (arith, same)) (omega (arith, c.requires))
            ∙ ap (λ piece. take c.args.at room ++ piece) put;
        moved = refl;
        long = search (long, rules);
      };
      rest = drop-put_mid c.args.at (c.args.at + length bytes - c.args.at) room c.copy_from_slice.new.self (c.args.at + length bytes) (omega arith) (omega (arith, c.requires)) long;
    }
