use Rattle.std.proofs.Common.{◌≡◌, [], ◌∷◌, length, ap, ◌∙◌, arith, take_all}
use Rattle.tagvalue_codec.specs.Fields.{field_bytes}
use Rattle.tagvalue_codec.specs.Rooms.{sum_of_bytes}
use Rattle.tagvalue_codec.proofs.Judging.{last_bytes}
use Rattle.tagvalue_codec.proofs.Framing.{fewer_placed}
use Rattle.tagvalue_codec.proofs.framed.put_last.Goals as goal

pub returns-clause-last : goal.returns-clause-last
returns-clause-last c =
    let last = field_bytes (sum_of_bytes c.args.sum) in
    let long : length last ≡ 7 = ap length (last_bytes c.args.sum) in
    fewer_placed c.args.memory.now c.place_front.new.room c.args.at _ _ last (0 ∷ []) 7 c.place_front.ensures
    (take_all 8 c.last_field.result (omega (arith, ap length c.last_field.ensures, long)) ∙ c.last_field.ensures) long (omega (arith, c.requires))
