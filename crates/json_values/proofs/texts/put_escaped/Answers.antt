use Rattle.std.proofs.Common.{ℕ, List, arith, refl}
use Rattle.json.specs.Print.{escape, escape_byte}
use Rattle.printers.proofs.Printing.{then_prints}
use Rattle.json_values.proofs.Entries.{list_next_at, goes_on}
use Rattle.json_values.proofs.texts.put_escaped.Goals as goal

pub loop-byte-preserved : goal.loop-byte-preserved
loop-byte-preserved g c =
    let so_far = c.loop-byte.invariant in
    let next = list_next_at (λ (s : Unit {0}) (xs : List ℕ). escape xs) (λ s b. escape_byte b) (λ s b. s) (λ s x xs. refl)
    tt c.loop-byte.byte-index c.args.bytes.now _ (omega arith) in
    (_, then_prints so_far.1 c.put_escaped_byte.ensures, goes_on so_far.0 _ _ _ _ next so_far.2)
