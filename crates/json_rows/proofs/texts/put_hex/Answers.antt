use Rattle.std.proofs.Common.{◌≡◌, ◌++◌, ap, ◌∙◌, arith}
use Rattle.std.specs.Prelude.{codes}
use Rattle.hex.specs.Hex.{encode_lower}
use Rattle.json_rows.proofs.Hex.{hex_is, three_added}
use Rattle.json_rows.proofs.texts.put_hex.Goals as goal

pub returns : goal.returns
returns c =
    let old = c.args.bytes.now.items in
    let digits : c.as_bytes.result.now ≡ encode_lower c.args.text.now = c.as_bytes.ensures.value ∙ c.in_ok-digits.ensures in
    three_added old (codes "{\"hex\":\"") c.as_bytes.result.now (codes "\"}") _ _ _ c.in_ok-extend_from_slice.ensures.items c.in_ok-extend_from_slice-2.ensures.items c.in_ok-extend_from_slice-3.ensures.items
    ∙ ap (λ d. old ++ (codes "{\"hex\":\"" ++ (d ++ codes "\"}"))) digits ∙ ap (λ l. old ++ l) (hex_is c.args.text.now (λ i. omega (arith, c.type_inv.text i)))
