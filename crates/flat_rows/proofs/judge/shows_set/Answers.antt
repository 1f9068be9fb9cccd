use Rattle.std.proofs.Common.{◌≡◌, ◌<◌, ◌^◌, ◌∙◌, ap, rules, FitsSigned}
use Rattle.std.specs.Int.{cast_unsigned, w64}
use Rattle.std.proofs.lemmas.Int.{to_z-of_z}
use Rattle.flat_rows.proofs.Bits.{set_kind}
use Rattle.flat_rows.proofs.judge.shows_set.Goals as goal

pub returns-in-Set : goal.returns-in-Set
returns-in-Set c = λ yes known.
    let q = c.args.quick.now in
    let small : FitsSigned w64 q.null = search rules in
    let same : c.cast_unsigned.result ≡ cast_unsigned w64 q.null = c.cast_unsigned.ensures ∙ ap (cast_unsigned w64) (to_z-of_z w64 q.null small) in
    let fits : c.cast_unsigned.result < 2 ^ 64 = search rules in
    set_kind c.args.kind.now q c.in-Set.prim c.in-Set.field-1 known c.args.bytes.now c.set_number.result c.cast_unsigned.result c.requires.bits c.in-Set.is c.requires.wide c.set_number.ensures same fits yes
