-- The text before the first 00, where each of its bytes stands for itself.
use Rattle.std.proofs.Common.{◌≡◌, ℕ, ◌<◌, ◌≤◌, Bool, true, false, ◌&&◌, List, [], ◌∷◌, length, take, refl, sym, ap, ◌∙◌, arith, length-take-le}
use Rattle.std.proofs.lemmas.Bool.{cond-false}
use Rattle.std.specs.List.{list_all}
use Rattle.serde_json.specs.Data.{null, string}
use Rattle.sbe_types.specs.declared.kind.Leaf.{Leaf}
use Rattle.sbe_types.specs.Shown.{is_optional}
use Rattle.sbe_types.specs.Shows.{is_empty}
use Rattle.field_values.specs.Reports.{before_zero}
use Rattle.json_values.specs.Plain.{plain_text, is_plain_byte}
use Rattle.json_fields.specs.Shown.{text_shown}
use Rattle.json_values.specs.Values.{text_data}
use Rattle.sbe_base.specs.Objects.{Object}
use Rattle.printers.specs.Prints.{Prints}
use Rattle.printers.specs.declared.printer.Printer.{Printer}
use Rattle.printers.proofs.Printing.{reprinted}
use Rattle.json_values.proofs.Plainly.{shows_plain}

not_empty : (s : Bool) (text : List ℕ) → 0 < length text → (s && is_empty text) ≡ false
not_empty s [] h = absurd (omega (arith, h))
not_empty true (b ∷ text) h = refl
not_empty false (b ∷ text) h = refl

-- what is written of such a text is what a leaf shows
pub front_written : {O : Type 0} {state : O → Object (List ℕ)} {a b : Printer O} (leaf : Leaf) (bytes : List ℕ) (run : ℕ) → take run bytes ≡ before_zero bytes → list_all is_plain_byte (take run bytes) ≡ true → run ≤ length bytes → 0 < run
    → Prints state a b (plain_text (string (take run bytes))) → Prints state a b (plain_text (text_shown leaf bytes))
front_written {O} {state} {a} {b} leaf bytes run is plain within some h =
    let text = take run bytes in
    let there : (is_optional leaf.presence && is_empty (before_zero bytes)) ≡ false =
    ap (λ t. is_optional leaf.presence && is_empty t) (sym is) ∙ not_empty (is_optional leaf.presence) text (omega (arith, some, length-take-le run bytes within)) in
    let shown : text_shown leaf bytes ≡ text_data (before_zero bytes) = cond-false (is_optional leaf.presence && is_empty (before_zero bytes)) null (text_data (before_zero bytes)) there in
    reprinted (ap (λ t. plain_text (text_data t)) is ∙ ap plain_text (sym shown)) (shows_plain text plain h)
