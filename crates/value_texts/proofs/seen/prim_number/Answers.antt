use Rattle.std.proofs.Common.{◌≡◌, ◌∙◌, ◌<◌, sym, ap, length, arith}
use Rattle.std.specs.Prelude.{slice_index}
use Rattle.std.specs.Int.{w128}
use Rattle.std.proofs.lemmas.Int.{to_z_pos}
use Rattle.sbe_types.specs.Numbers.{number_of, prim_width}
use Rattle.value_texts.proofs.Values.{char_number, octet_number}
use Rattle.value_texts.proofs.seen.prim_number.Goals as goal

pub returns-in-Char : goal.returns-in-Char
returns-in-Char c =
    let one : length c.args.bytes.now ≡ 1 = c.requires ∙ ap prim_width c.in-Char.is in
    let low : slice_index c.args.bytes.now 0 < 256 = omega (arith, c.type_inv.bytes 0) in
    to_z_pos w128 (slice_index c.args.bytes.now 0) (omega (arith, low)) ∙ char_number c.args.order c.args.bytes.now one (λ i. omega (arith, c.type_inv.bytes i)) ∙ ap (λ p. number_of c.args.order p c.args.bytes.now) (sym c.in-Char.is)

pub returns-in-U8 : goal.returns-in-U8
returns-in-U8 c =
    let one : length c.args.bytes.now ≡ 1 = c.requires ∙ ap prim_width c.in-U8.is in
    let low : slice_index c.args.bytes.now 0 < 256 = omega (arith, c.type_inv.bytes 0) in
    to_z_pos w128 (slice_index c.args.bytes.now 0) (omega (arith, low)) ∙ octet_number c.args.order c.args.bytes.now one (λ i. omega (arith, c.type_inv.bytes i)) ∙ ap (λ p. number_of c.args.order p c.args.bytes.now) (sym c.in-U8.is)
