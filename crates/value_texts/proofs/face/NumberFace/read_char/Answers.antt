use Rattle.std.proofs.Common.{◌≡◌, ◌∙◌, ◌<◌, length, ap, sym, rules, arith}
use Rattle.std.specs.Prelude.{slice_index}
use Rattle.std.specs.Int.{w64}
use Rattle.std.proofs.lemmas.Int.{to_z_pos}
use Rattle.sbe_types.specs.declared.kind.Order.TheVariants.{Little}
use Rattle.sbe_types.specs.Numbers.{number_of, prim_width}
use Rattle.value_texts.specs.Faces.{is_read}
use Rattle.value_texts.proofs.Faces.{found_is}
use Rattle.value_texts.proofs.Values.{char_number}
use Rattle.value_texts.proofs.face.NumberFace.read_char.Goals as goal

pub returns : goal.returns
returns c =
    let q = c.args.self.now in
    let bytes = c.args.bytes.now in
    let one : length bytes ≡ 1 = search rules in
    let low : slice_index bytes 0 < 256 = omega (arith, c.type_inv.bytes 0) in
    found_is q bytes c.found.result _ (record { read = ap is_read c.requires; wide = one ∙ ap prim_width (sym c.requires) })
    (to_z_pos w64 (slice_index bytes 0) (omega (arith, low)) ∙ char_number Little bytes one (λ i. omega (arith, c.type_inv.bytes i)) ∙ ap (λ p. number_of Little p bytes) (sym c.requires)) c.found.ensures
