use Rattle.std.proofs.Common.{◌≡◌, ◌≤◌, ◌-◌, ◌++◌, ◌∷◌, [], List, ℕ, length, decimal, subst, ap, ◌∙◌, arith}
use Rattle.std.proofs.lemmas.Fmt.{length-decimal-le}
use Rattle.byte_places.specs.Places.{IsPut}
use Rattle.tagvalue_codec.specs.Fields.{soh}
use Rattle.tagvalue_codec.specs.Rooms.{IsPutBefore}
use Rattle.tagvalue_codec.proofs.Framing.{both_before}
use Rattle.tagvalue_codec.proofs.framed.put_many.Goals as goal

pub returns-clause-put : goal.returns-clause-put
returns-clause-put c =
    let m = c.args.memory.now in
    let digits = c.as_bytes-digits.result.now in
    let are : digits ≡ decimal c.args.count = c.as_bytes-digits.ensures.value ∙ c.format.ensures.text in
    let few : length (decimal c.args.count) ≤ 8 = length-decimal-le 8 c.args.count (omega arith) (omega (arith, c.requires.few)) (omega (arith, c.requires.few)) in
    let long : length digits ≡ length (decimal c.args.count) = ap length are in
    let first = c.put-end.ensures in
    let end : c.put.result ≡ c.args.at = omega (arith, first.placed.moved, c.put.ensures.placed.moved, few, long, c.requires.room) in
    subst (λ (d : List ℕ). IsPutBefore m c.put.new.room c.args.at (d ++ (soh ∷ [])) (c.args.at - 1 - length digits)) are
    (both_before m c.put-end.new.room c.put.new.room (c.args.at - 1 - length digits) c.put-end.result c.args.at digits (soh ∷ []) first (subst (IsPut c.put-end.new.room c.put.new.room c.put-end.result (soh ∷ [])) end c.put.ensures)
    (omega (arith, c.requires.within)) (omega (arith, first.placed.moved, first.placed.long, few, long, c.requires.within, c.requires.room)))

pub returns-clause-short : goal.returns-clause-short
returns-clause-short c =
    let few : length (decimal c.args.count) ≤ 8 = length-decimal-le 8 c.args.count (omega arith) (omega (arith, c.requires.few)) (omega (arith, c.requires.few)) in
    omega (arith, few, ap length (c.as_bytes-digits.ensures.value ∙ c.format.ensures.text), c.requires.room)

pub overflow_sub-from-2 : goal.overflow_sub-from-2
overflow_sub-from-2 c =
    let few : length (decimal c.args.count) ≤ 8 = length-decimal-le 8 c.args.count (omega arith) (omega (arith, c.requires.few)) (omega (arith, c.requires.few)) in
    omega (arith, few, ap length (c.as_bytes-digits.ensures.value ∙ c.format.ensures.text), c.requires.room)

pub put-end-requires : goal.put-end-requires
put-end-requires c =
    let few : length (decimal c.args.count) ≤ 8 = length-decimal-le 8 c.args.count (omega arith) (omega (arith, c.requires.few)) (omega (arith, c.requires.few)) in
    omega (arith, few, ap length (c.as_bytes-digits.ensures.value ∙ c.format.ensures.text), c.requires.room, c.requires.within)

pub put-requires : goal.put-requires
put-requires c =
    let few : length (decimal c.args.count) ≤ 8 = length-decimal-le 8 c.args.count (omega arith) (omega (arith, c.requires.few)) (omega (arith, c.requires.few)) in
    omega (arith, few, ap length (c.as_bytes-digits.ensures.value ∙ c.format.ensures.text), c.requires.room, c.requires.within, c.put-end.ensures.placed.moved, c.put-end.ensures.placed.long)
