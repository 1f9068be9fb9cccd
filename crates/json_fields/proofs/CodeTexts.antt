-- The name of an enum's byte, which is kept as a text.
use Rattle.std.proofs.Common.{◌≡◌, ℕ, ℤ, cond, List, [], ◌∷◌, ◌++◌, length, take, Option, Some, None, pos, refl, sym, ap, ◌∙◌, append-nil}
use Rattle.std.specs.Prelude.{slice_index}
use Rattle.std.specs.Ordering.{int_eq}
use Rattle.serde_json.specs.Data.{null}
use Rattle.sbe_types.specs.declared.kind.Kind.{Kind, Leaf, Enum, Set, Const, Comp'}
use Rattle.sbe_types.specs.declared.kind.Leaf.{Leaf as LeafOf}
use Rattle.sbe_types.specs.declared.kind.Named.{Named}
use Rattle.sbe_types.specs.declared.kind.Order.TheVariants.{Little}
use Rattle.sbe_types.specs.Numbers.{number_of}
use Rattle.schema_facts.specs.InOrder.{IsKindInOrder}
use Rattle.flat_rows.proofs.ValidBytes.{byte_shown}
use Rattle.json_rows.specs.Codes.{first_name, byte_name, between_quotes, IsTextOf}
use Rattle.json_rows.proofs.Coded.{named_byte}
use Rattle.json_values.specs.Names.{AreNamed}
use Rattle.json_values.specs.Plain.{plain_text}
use Rattle.json_fields.specs.Shown.{enum_shown, PrintsShown}
use Rattle.json_values.specs.Values.{enum_data, name_of}
use Rattle.sbe_base.specs.Objects.{Object}
use Rattle.printers.specs.Prints.{Prints}
use Rattle.printers.specs.declared.printer.Printer.{Printer}
use Rattle.json_fields.proofs.FromBytes.{enum_written}
use Rattle.json_fields.proofs.Valid.{name_written}
use Rattle.printers.proofs.Printing.{reprinted}

same_name : (names : List Named) (n : ℤ) → first_name names n ≡ name_of names n
same_name [] n = refl
same_name (v ∷ vs) n = ap (cond (int_eq v.number n) (Some v.name)) (same_name vs n)

enum_coded : {O : Type 0} {state : O → Object (List ℕ)} {a c : Printer O} (leaf : LeafOf) (names : List Named) (bytes name : List ℕ) → AreNamed names → length bytes ≡ 1 → byte_name (Enum leaf names) (slice_index bytes 0) ≡ Some name → Prints state a c (between_quotes name) →
    PrintsShown Little (Enum leaf names) bytes (Prints state a c)
enum_coded leaf names bytes name named one is h =
    let b = slice_index bytes 0 in
    let at = named_byte leaf names b name is in
    let valid = name_written names (pos b) name named (sym at.first ∙ same_name names (pos b)) h in
    let number : number_of Little leaf.prim bytes ≡ pos b = byte_shown leaf.prim bytes at.byte one in
    let shown : enum_shown leaf names (number_of Little leaf.prim bytes) ≡ enum_data names (pos b) =
    ap (enum_shown leaf names) number ∙ ap (λ t. cond t null (enum_data names (pos b))) at.value in
    enum_written Little leaf names bytes (reprinted (ap plain_text (sym shown)) valid)

unnamed : (name : List ℕ) → ◌≡◌ {A = Option (List ℕ)} None (Some name) → ⊥
unnamed name h = cc

-- the text that is kept of a byte is that of the value that it shows
pub code_written : {O : Type 0} {state : O → Object (List ℕ)} {a c : Printer O} (kind : Kind) (bytes slot : List ℕ) (run : ℕ) → IsKindInOrder kind → length bytes ≡ 1 → IsTextOf kind (slice_index bytes 0) slot run → Prints state a c (take run slot ++ []) →
    PrintsShown Little kind bytes (Prints state a c)
code_written (Enum leaf names) bytes slot run order one is h = enum_coded leaf names bytes is.name order.parts.listed.names one is.named (reprinted (append-nil (take run slot) ∙ is.text) h)
code_written (Leaf l) bytes slot run order one is h = absurd (unnamed is.name is.named)
code_written (Set p names) bytes slot run order one is h = absurd (unnamed is.name is.named)
code_written (Const c) bytes slot run order one is h = absurd (unnamed is.name is.named)
code_written (Comp' n members) bytes slot run order one is h = absurd (unnamed is.name is.named)
