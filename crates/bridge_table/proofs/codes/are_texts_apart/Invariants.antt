use Rattle.std.proofs.Common.{◌≡◌, ◌≤◌, ℕ, List, true, length, drop}
use Rattle.std.specs.Prelude.{bytes_eq}
use Rattle.std.specs.List.{list_any}
use Rattle.fix_values.specs.Codes.{is_apart, same_text}
use Rattle.bridge_table.proofs.codes.are_texts_apart.Given as goal

abbrev pub invariant-codes : goal.invariant-codes
invariant-codes l =
    (l.i ≤ length l.list) × (is_apart same_text (drop l.i l.list) ≡ true)
    × ((text : List ℕ) → list_any (λ k. bytes_eq text k.now) l.texts.keys ≡ list_any (λ d. bytes_eq text d.text) (drop l.i l.list))

abbrev pub decreases-codes : goal.decreases-codes
decreases-codes l = l.i
