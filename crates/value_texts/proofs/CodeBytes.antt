-- Texts of one byte.
use Rattle.std.proofs.Common.{◌≡◌, ◌∷◌, ◌++◌, ℕ, zero, suc, List, [], length, take, Option, Some, None, Ok, refl, sym, ap, ◌∙◌, subst, arith}
use Rattle.std.specs.Prelude.{slice_get, slice_index, IfSome}
use Rattle.sbe_types.specs.declared.message.Value.{Value}
use Rattle.bridge_rules.proofs.OptionLemmas.{none_some, some_is}
use Rattle.bridge_rules.specs.Texts.{text_if_any}
use Rattle.fix_values.specs.declared.rule.NumRule.{NumRule}
use Rattle.fix_values.specs.Values.{text_of}
use Rattle.value_texts.specs.declared.face.NumberFace.{NumberFace}
use Rattle.value_texts.specs.declared.fronts.FrontText.{FrontText}
use Rattle.value_texts.specs.declared.row.TextRule.TheVariants as row
use Rattle.value_texts.specs.Coded.{AreCodesOf, IsByteText, IsCodeFront}
use Rattle.value_texts.specs.Faces.{number_by, IsRead}
use Rattle.value_texts.specs.Fronts.{IsFrontText}
use Rattle.value_texts.specs.Rows.{row_text, Reads}

-- the byte of a value of one byte
pub one_byte : (bytes : List ℕ) → length bytes ≡ 1 → bytes ≡ slice_index bytes 0 ∷ []
one_byte [] one = absurd (omega (arith, one))
one_byte (b ∷ []) one = refl
one_byte (b ∷ d ∷ bs) one = absurd (omega (arith, one))

-- what holds of each item at its place, and of one more
more_at : (P : ℕ → List ℕ → Type 0) (xs : List (List ℕ)) (x : List ℕ) → ((b : ℕ) (t : List ℕ) → slice_get xs b ≡ Some t → P b t) → P (length xs) x
    → (b : ℕ) (t : List ℕ) → slice_get (xs ++ x ∷ []) b ≡ Some t → P b t
more_at P [] x all own zero t there = subst (P zero) (some_is there) own
more_at P [] x all own (suc b) t there = none_some there
more_at P (y ∷ ys) x all own zero t there = all zero t there
more_at P (y ∷ ys) x all own (suc b) t there = more_at (λ b. P (suc b)) ys x (λ b t there. all (suc b) t there) own b t there

-- one more text in a table
pub one_more : (rule : NumRule) (q : NumberFace) (codes new : List (List ℕ)) (at : ℕ) (text : List ℕ) → new ≡ codes ++ text ∷ [] → length codes ≡ at → AreCodesOf rule q codes → IsByteText rule q at text
    → AreCodesOf rule q new
one_more rule q codes new at text is long all own =
    subst (AreCodesOf rule q) (sym is) (more_at (IsByteText rule q) codes text all (subst (λ k. IsByteText rule q k text) (sym long) own))

-- the text at a place of a table, as it is found
pub found_there : (o : Option FrontText) (bytes : List ℕ) (codes : List (List ℕ)) (b : ℕ) (text : List ℕ) → bytes ≡ b ∷ [] → slice_get codes b ≡ Some text → IfSome o IsFrontText
    → IfSome o (λ f. take f.count f.bytes.now ≡ text) → IfSome o (λ f. IsCodeFront f bytes codes)
found_there None bytes codes b text one there value same = tt
found_there (Some f) bytes codes b text one there value same = record { value = value; byte = b; one = one; there = there ∙ ap Some (sym same) }

pub found_ready : (o : Option FrontText) (bytes : List ℕ) (codes : List (List ℕ)) → IfSome o (λ f. IsCodeFront f bytes codes) → IfSome o IsFrontText
found_ready None bytes codes found = tt
found_ready (Some f) bytes codes found = found.value

-- it is the text of each value that the byte shows
pub found_told : (o : Option FrontText) (rule : NumRule) (q : NumberFace) (bytes : List ℕ) (codes : List (List ℕ)) → IfSome o (λ f. IsCodeFront f bytes codes)
    → IfSome o (λ f. (v : Value) → Reads (row.Number rule) q v bytes → AreCodesOf rule q codes → row_text (row.Number rule) v ≡ Ok (Some (take f.count f.bytes.now)))
found_told None rule q bytes codes found = tt
found_told (Some f) rule q bytes codes found = λ v reads all.
    let own = all found.byte (take f.count f.bytes.now) found.there found.value.value.some in
    let number = reads (subst (IsRead q) (sym found.one) own.read) ∙ ap (number_by q) found.one ∙ own.shown in
    ap (λ o. text_if_any o (λ n. text_of rule n)) number ∙ own.text_is
