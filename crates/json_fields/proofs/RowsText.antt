-- The rows of a table, printed one after another.
use Rattle.std.proofs.Common.{◌≡◌, ◌≤◌, ◌<◌, ◌+◌, ℕ, ℤ, Bool, true, false, cond, List, [], ◌∷◌, ◌++◌, length, map, drop, get_or, refl, sym, ap, ◌∙◌, subst, arith, append_assoc}
use Rattle.std.proofs.lemmas.List.{append-nil}
use Rattle.serde_json.specs.Data.{null}
use Rattle.sbe_types.specs.declared.kind.Kind.{Kind, Leaf}
use Rattle.sbe_types.specs.declared.kind.Order.TheVariants.{Little}
use Rattle.sbe_types.specs.declared.kind.Leaf.{Leaf as LeafOf}
use Rattle.sbe_types.specs.declared.kind.LeafShape.TheVariants.{RangedText}
use Rattle.sbe_types.specs.declared.kind.Primitive.{Primitive}
use Rattle.sbe_types.specs.declared.kind.Primitive.TheVariants.{Char, I8, I16, I32, I64, U8, U16, U32, U64}
use Rattle.sbe_types.specs.Numbers.{number_of}
use Rattle.sbe_types.specs.Shown.{is_null}
use Rattle.sbe_types.specs.Shows.{ShowsLeaf}
use Rattle.json_values.specs.Values.{value_data, is_character, number_data, single_data}
use Rattle.json_values.specs.Plain.{plain_text, shown_text}
use Rattle.json_fields.specs.Shown.{PrintsShown, single_shown, text_shown}
use Rattle.sbe_base.specs.Objects.{Object}
use Rattle.printers.specs.Prints.{Prints}
use Rattle.printers.specs.declared.printer.Printer.{Printer}
use Rattle.printers.proofs.Printing.{then_prints, reprinted, prints_nothing}
use Rattle.json_fields.proofs.FromBytes.{single_written, text_written, leaf_written, written_as}
use Rattle.flat_rows.specs.declared.rows.Quick.{Quick}
use Rattle.flat_rows.specs.Quick.{is_word, is_none, KeepsNumber, KeepsText, IsQuickNumber}
use Rattle.flat_rows.proofs.Looks.{null_is}
use Rattle.flat_rows.proofs.RowsJudged.{there}
use Rattle.json_rows.specs.declared.rows.TextRow.{TextRow}
use Rattle.json_rows.specs.Pieces.{Slot}
use Rattle.flat_rows.specs.BlockChecks.{bytes_there}
use Rattle.json_rows.specs.Tables.{value_of, AreTextRows, IsTextRow, TextsFit}
use Rattle.json_fields.specs.Printed.{SlotsText}

-- of all values those before the rest were printed, whichever values their bytes show
pub record Goes (all rest : List Slot) (block : List ℕ) (prints : List ℕ → Type 0) : Type 0 where
  pub goes : (known : Bool) (text : List ℕ) → SlotsText Little known all block text →
      (more : List ℕ) × (done : List ℕ) × SlotsText Little known rest block more × prints done × (done ++ more ≡ text)

pub goes_first : {all rest : List Slot} {block : List ℕ} {O : Type 0} {state : O → Object (List ℕ)} {a : Printer O} → rest ≡ all → Goes all rest block (Prints state a a)
goes_first {all} {rest} {block} is = record { goes = λ known text h. (text, [], subst (λ ss. SlotsText Little known ss block text) (sym is) h, prints_nothing, refl) }

pub goes_next : {all : List Slot} {block : List ℕ} {O : Type 0} {state : O → Object (List ℕ)} {start now literal next : Printer O} (before rest : List Slot) (s : Slot) → before ≡ s ∷ rest → Goes all before block (Prints state start now) →
    Prints state now literal s.before → PrintsShown Little s.kind (bytes_there s.kind s.place block) (Prints state literal next) → Goes all rest block (Prints state start next)
goes_next {all} {block} {O} {state} {start} {now} {literal} {next} before rest s is g k w = record { goes = step }
  where
    on : (known : Bool) (text more done : List ℕ) → SlotsText Little known (s ∷ rest) block more → Prints state start now done → done ++ more ≡ text →
        (after : List ℕ) × (all_done : List ℕ) × SlotsText Little known rest block after × Prints state start next all_done × (all_done ++ after ≡ text)
    on known text more done h d same =
        let value = shown_text (value_data s.kind h.0) in (
          h.1,
          done ++ (s.before ++ value),
          h.4,
          then_prints d (then_prints k (w.text known h.0 h.2)),
          append_assoc done (s.before ++ value) h.1 ∙ ap (λ l. done ++ l) (append_assoc s.before value h.1 ∙ sym h.3) ∙ same,
        )

    step : (known : Bool) (text : List ℕ) → SlotsText Little known all block text →
        (more : List ℕ) × (done : List ℕ) × SlotsText Little known rest block more × Prints state start next done × (done ++ more ≡ text)
    step known text h =
        let so_far = g.goes known text h in
        on known text so_far.0 so_far.1 (subst (λ ss. SlotsText Little known ss block so_far.0) is so_far.2) so_far.3 so_far.4

-- all values, and what follows them
pub goes_over : {all : List Slot} {block : List ℕ} {O : Type 0} {state : O → Object (List ℕ)} {start now next : Printer O} (rest : List Slot) (last : List ℕ) → rest ≡ [] → Goes all rest block (Prints state start now) → Prints state now next last →
    (known : Bool) (text front : List ℕ) → SlotsText Little known all block front → text ≡ front ++ last → Prints state start next text
goes_over {all} {block} {O} {state} {start} {now} {next} rest last is g k known text front h same =
    let so_far = g.goes known front h in
    let none : so_far.0 ≡ [] = subst (λ ss. SlotsText Little known ss block so_far.0) is so_far.2 in
    let done : so_far.1 ≡ front = sym (append-nil so_far.1) ∙ ap (λ l. so_far.1 ++ l) (sym none) ∙ so_far.4 in
    reprinted (ap (λ l. l ++ last) done ∙ sym same) (then_prints so_far.3 k)

-- ---- rows

-- what is known of the rows from number i on, of which this is the first
pub record RowHere (n k i : ℕ) (rows : List TextRow) (r : TextRow) : Type 0 where
  pub next : drop i rows ≡ r ∷ drop (i + 1) rows
  pub text : IsTextRow n (value_of r) r
  pub fits : r.value.end ≤ k
  pub are : AreTextRows n (map value_of (drop (i + 1) rows)) (drop (i + 1) rows)
  pub fit : TextsFit k (drop (i + 1) rows)

pub row_here : (n k i : ℕ) (rows : List TextRow) (r : TextRow) → i < length rows → r ≡ get_or rows i r → AreTextRows n (map value_of (drop i rows)) (drop i rows) → TextsFit k (drop i rows) → RowHere n k i rows r
row_here n k i rows r low is are fit =
    let next = there rows i r low is in
    let here = subst (λ rs. AreTextRows n (map value_of rs) rs) next are in
    let room = subst (TextsFit k) next fit in
    record { next = next; text = here.0; fits = room.0; are = here.1; fit = room.1 }

-- ---- numbers

no_char : (prim : Primitive) → is_word prim ≡ true → is_character prim ≡ false
no_char Char h = cc
no_char I8 h = refl
no_char I16 h = refl
no_char I32 h = refl
no_char I64 h = refl
no_char U8 h = refl
no_char U16 h = refl
no_char U32 h = refl
no_char U64 h = cc

word_text : (prim : Primitive) (q : Quick) (leaf : LeafOf) (n m : ℤ) → is_word prim ≡ true → IsQuickNumber prim q leaf → n ≡ m →
    plain_text (cond (is_none q n) null (number_data n)) ≡ plain_text (single_shown leaf m)
word_text prim q leaf n m word is same =
    let char : is_character leaf.prim ≡ false = ap is_character is.prim_is ∙ no_char prim word in
    ap (λ k. plain_text (cond (is_none q k) null (number_data k))) same
    ∙ ap (λ t. plain_text (cond t null (number_data m))) (sym (null_is prim q leaf m is))
    ∙ ap (λ c. plain_text (cond (is_null leaf m) null (single_data c m))) (sym char)

-- a number that was printed by what is kept of it
pub word_written : {O : Type 0} {state : O → Object (List ℕ)} {a c : Printer O} (kind : Kind) (prim : Primitive) (q : Quick) (b : List ℕ) (n : ℤ) → is_word prim ≡ true → KeepsNumber prim q kind → n ≡ number_of Little prim b →
    Prints state a c (plain_text (cond (is_none q n) null (number_data n))) → PrintsShown Little kind b (Prints state a c)
word_written {O} {state} {a} {c} kind prim q b n word is same w =
    let number : n ≡ number_of Little is.0.prim b = same ∙ ap (λ p. number_of Little p b) (sym is.2.prim_is) in
    let written : Prints state a c (plain_text (single_shown is.0 (number_of Little is.0.prim b))) = reprinted (word_text prim q is.0 n _ word is.2 number) w in
    written_as Little kind (Leaf is.0) b is.1 (leaf_written Little is.0 b (λ v h. single_written Little is.0 b written v (subst (λ s. ShowsLeaf Little s is.0 v b) is.2.shape h)))

leaf_is : {k l : LeafOf} → ◌≡◌ {A = Kind} (Leaf k) (Leaf l) → k ≡ l
leaf_is h = cc

-- a text that was printed as one of its leaf
pub text_kept : {O : Type 0} {state : O → Object (List ℕ)} {a c : Printer O} (kind : Kind) (q : Quick) (leaf : LeafOf) (b : List ℕ) → KeepsText q kind → kind ≡ Leaf leaf → Prints state a c (plain_text (text_shown leaf b)) → PrintsShown Little kind b (Prints state a c)
text_kept {O} {state} {a} {c} kind q leaf b keeps is w =
    let same : keeps.0 ≡ leaf = leaf_is (sym keeps.1 ∙ is) in
    let shape : leaf.shape ≡ RangedText = sym (ap (λ (l : LeafOf). l.shape) same) ∙ keeps.2.shape in
    written_as Little kind (Leaf leaf) b is (leaf_written Little leaf b (λ v h. text_written Little leaf b w v (subst (λ s. ShowsLeaf Little s leaf v b) shape h)))

-- the same of bytes in another form
pub shown_at : {O : Type 0} {state : O → Object (List ℕ)} {a c : Printer O} (kind : Kind) {b d : List ℕ} → b ≡ d → PrintsShown Little kind b (Prints state a c) → PrintsShown Little kind d (Prints state a c)
shown_at {O} {state} {a} {c} kind {b} {d} same w = subst (λ x. PrintsShown Little kind x (Prints state a c)) same w
