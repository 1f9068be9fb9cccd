use Rattle.std.proofs.Common.{ℕ, List, ◌∷◌, [], arith, ◌∙◌, sym, append-nil}
use Rattle.hex.specs.Hex.{encode_lower}
use Rattle.printers.proofs.Printing.{then_prints, reprinted}
use Rattle.json_values.proofs.Entries.{list_next_at, list_over, goes_on, ends_so}
use Rattle.json_values.proofs.Plainly.{digits_next, no_digits}
use Rattle.json_values.proofs.texts.put_digits.Goals as goal

pub loop-byte-preserved : goal.loop-byte-preserved
loop-byte-preserved g c =
    let so_far = c.loop-byte.invariant in
    let next = list_next_at (λ (s : Unit {0}) (xs : List ℕ). encode_lower xs) (λ s b. encode_lower (b ∷ [])) (λ s b. s) (λ s x xs. digits_next x xs)
    tt c.loop-byte.byte-index c.args.bytes.now _ (omega arith) in
    (_, then_prints so_far.1 c.put_byte.ensures, goes_on so_far.0 _ _ _ _ next so_far.2)

pub returns : goal.returns
returns g c =
    let so_far = c.loop-byte.invariant in
    let none = no_digits ∙ list_over encode_lower c.loop-byte.byte-index c.args.bytes.now (omega arith) in
    reprinted (sym (append-nil so_far.0) ∙ ends_so so_far.0 [] _ _ none so_far.2) so_far.1
