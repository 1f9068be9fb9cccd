-- The pieces of a run.
use Rattle.std.proofs.Common.{◌≡◌, ◌≤◌, ◌+◌, inl, inr, ℕ, suc, Bool, true, false, cond, List, [], ◌∷◌, ◌++◌, take, drop, length, slice_get, Option, Some, None, refl, sym, ap, ◌∙◌, arith}
use Rattle.std.specs.Prelude.{◌==◌}
use Rattle.tagvalue_codec.specs.Fields.{Field}
use Rattle.bridge_rules.proofs.BoolLemmas.{either}
use Rattle.bridge_rules.proofs.OptionLemmas.{none_some}
use Rattle.bridge_terms.specs.Parts.{Pieces, in_piece, of_piece, pieces_of}
use Rattle.bridge_terms.specs.WayBack.{Refusal, first}
use Rattle.field_judge.specs.declared.field.AppField.{AppField}
use Rattle.field_judge.specs.Fields.{field_of, fields_of}
use Rattle.field_judge.proofs.SliceLemmas.{drop_got, dropped, ends_alike, fields_on}

cut_of : (d : ℕ) (xs : List AppField) (i : ℕ) (x : AppField) (t : Bool) → slice_get xs i ≡ Some x → (x.tag == d) ≡ t
    → pieces_of d (fields_of (drop i xs)) ≡ cond t (of_piece (field_of x) (pieces_of d (fields_of (drop (i + 1) xs)))) (in_piece (field_of x) (pieces_of d (fields_of (drop (i + 1) xs))))
cut_of d xs i x t at is =
    ap (λ ys. pieces_of d (fields_of ys)) (drop_got xs i x at)
    ∙ ap (λ b. cond b (of_piece (field_of x) (pieces_of d (fields_of (drop (i + 1) xs)))) (in_piece (field_of x) (pieces_of d (fields_of (drop (i + 1) xs))))) is

-- ---- before the first delimiter

-- so many fields are before the first delimiter so far
abbrev pub IsFrontSoFar : ℕ → List AppField → ℕ → Type 0
IsFrontSoFar d run i =
    (fields_of (take i run) ++ (pieces_of d (fields_of (drop i run))).front ≡ (pieces_of d (fields_of run)).front)
    × ((pieces_of d (fields_of (drop i run))).pieces ≡ (pieces_of d (fields_of run)).pieces)

-- the fields before the first delimiter, and the pieces after them
abbrev pub IsFront : ℕ → List AppField → ℕ → Type 0
IsFront d run n =
    ((pieces_of d (fields_of run)).front ≡ fields_of (take n run))
    × ((pieces_of d (fields_of run)).pieces ≡ (pieces_of d (fields_of (drop n run))).pieces)
    × ((pieces_of d (fields_of (drop n run))).front ≡ [])

joined : (xs : List Field) (f : Field) (ys : List Field) → (xs ++ f ∷ []) ++ ys ≡ xs ++ f ∷ ys
joined [] f ys = refl
joined (z ∷ zs) f ys = ap (λ ws. z ∷ ws) (joined zs f ys)

nothing_added : (xs : List Field) → xs ++ [] ≡ xs
nothing_added [] = refl
nothing_added (x ∷ xs) = ap (λ ys. x ∷ ys) (nothing_added xs)

pub front_on : (d : ℕ) (run : List AppField) (i : ℕ) (x : AppField) → slice_get run i ≡ Some x → (x.tag == d) ≡ false → IsFrontSoFar d run i → IsFrontSoFar d run (i + 1)
front_on d run i x at other so_far =
    let more = pieces_of d (fields_of (drop (i + 1) run)) in
    let left = cut_of d run i x false at other in (
      ap (λ fs. fs ++ more.front) (fields_on run i x at) ∙ joined (fields_of (take i run)) (field_of x) more.front
          ∙ ap (λ (p : Pieces). fields_of (take i run) ++ p.front) (sym left) ∙ so_far.0,
      ap (λ (p : Pieces). p.pieces) (sym left) ∙ so_far.1,
    )

ended : (d : ℕ) (run : List AppField) (i : ℕ) → (pieces_of d (fields_of (drop i run))).front ≡ [] → IsFrontSoFar d run i → IsFront d run i
ended d run i none so_far = (
  sym so_far.0 ∙ ap (λ front. fields_of (take i run) ++ front) none ∙ nothing_added (fields_of (take i run)),
  sym so_far.1,
  none,
)

pub front_ended : (d : ℕ) (run : List AppField) (i : ℕ) (x : AppField) → slice_get run i ≡ Some x → (x.tag == d) ≡ true → IsFrontSoFar d run i → IsFront d run i
front_ended d run i x at same so_far = ended d run i (ap (λ (p : Pieces). p.front) (cut_of d run i x true at same)) so_far

pub front_whole : (d : ℕ) (run : List AppField) (i : ℕ) → length run ≤ i → IsFrontSoFar d run i → IsFront d run (length run)
front_whole d run i beyond so_far =
    let alike = ends_alike run i beyond in
    let none : drop (length run) run ≡ [] = dropped run (length run) (omega arith) in
    ended d run (length run) (ap (λ ys. (pieces_of d (fields_of ys)).front) none) (
      ap (λ ys. fields_of ys ++ (pieces_of d (fields_of (drop (length run) run))).front) (sym alike.0)
          ∙ ap (λ ys. fields_of (take i run) ++ (pieces_of d (fields_of ys)).front) (sym alike.1) ∙ so_far.0,
      ap (λ ys. (pieces_of d (fields_of ys)).pieces) (sym alike.1) ∙ so_far.1,
    )

-- ---- how many pieces

pub counted_more : (d : ℕ) (run : List AppField) (i count whole : ℕ) (x : AppField) → slice_get run i ≡ Some x → (x.tag == d) ≡ true
    → count + length (pieces_of d (fields_of (drop i run))).pieces ≡ whole → count + 1 + length (pieces_of d (fields_of (drop (i + 1) run))).pieces ≡ whole
counted_more d run i count whole x at same h =
    let left : length (pieces_of d (fields_of (drop i run))).pieces ≡ suc (length (pieces_of d (fields_of (drop (i + 1) run))).pieces)
    = ap (λ (p : Pieces). length p.pieces) (cut_of d run i x true at same) in
    omega (arith, left, h)

pub counted_on : (d : ℕ) (run : List AppField) (i count whole : ℕ) (x : AppField) → slice_get run i ≡ Some x → (x.tag == d) ≡ false
    → count + length (pieces_of d (fields_of (drop i run))).pieces ≡ whole → count + length (pieces_of d (fields_of (drop (i + 1) run))).pieces ≡ whole
counted_on d run i count whole x at other h =
    let left : length (pieces_of d (fields_of (drop i run))).pieces ≡ length (pieces_of d (fields_of (drop (i + 1) run))).pieces
    = ap (λ (p : Pieces). length p.pieces) (cut_of d run i x false at other) in
    omega (arith, left, h)

pub counted_next : (d : ℕ) (run : List AppField) (i count next whole : ℕ) (x : AppField) → slice_get run i ≡ Some x → ((x.tag == d) ≡ true → next ≡ count + 1) → ((x.tag == d) ≡ false → next ≡ count)
    → count + length (pieces_of d (fields_of (drop i run))).pieces ≡ whole → next + length (pieces_of d (fields_of (drop (i + 1) run))).pieces ≡ whole
counted_next d run i count next whole x at some none h = elim (either (x.tag == d)) [
  | inl t ↦ ap (λ n. n + length (pieces_of d (fields_of (drop (i + 1) run))).pieces) (some t) ∙ counted_more d run i count whole x at t h
  | inr f ↦ ap (λ n. n + length (pieces_of d (fields_of (drop (i + 1) run))).pieces) (none f) ∙ counted_on d run i count whole x at f h
]

pub counted_whole : (d : ℕ) (run : List AppField) (i count whole : ℕ) → drop i run ≡ [] → count + length (pieces_of d (fields_of (drop i run))).pieces ≡ whole → count ≡ whole
counted_whole d run i count whole none h =
    let left : length (pieces_of d (fields_of (drop i run))).pieces ≡ 0 = ap (λ ys. length (pieces_of d (fields_of ys)).pieces) none in
    omega (arith, left, h)

-- ---- one piece after another

-- a run that begins with a piece
pub piece_next : (d : ℕ) (left : List AppField) (x : AppField) (n : ℕ) → slice_get left 0 ≡ Some x → (pieces_of d (fields_of left)).front ≡ [] → IsFront d (drop 1 left) n
    → (pieces_of d (fields_of left)).pieces ≡ fields_of (take (1 + n) left) ∷ (pieces_of d (fields_of (drop (1 + n) left))).pieces
piece_next d [] x n at front is = none_some at
piece_next d (y ∷ ys) x n at front is = elim (either (y.tag == d)) [
  | inl t ↦ ap (λ (p : Pieces). p.pieces) (cut_of d (y ∷ ys) 0 y true refl t)
      ∙ ap (λ front. (field_of y ∷ front) ∷ (pieces_of d (fields_of ys)).pieces) is.0
      ∙ ap (λ pieces. (field_of y ∷ fields_of (take n ys)) ∷ pieces) is.1
      ∙ ap (λ (k : ℕ). fields_of (take k (y ∷ ys)) ∷ (pieces_of d (fields_of (drop k (y ∷ ys)))).pieces) (next n)
  | inr f ↦ absurd (some (ap (λ (p : Pieces). p.front) (sym (cut_of d (y ∷ ys) 0 y false refl f)) ∙ front))
]
  where
    next : (n : ℕ) → suc n ≡ 1 + n
    next n = omega arith

    some : {f : Field} {fs : List Field} → f ∷ fs ≡ [] → ⊥
    some k = cc

pub no_pieces : (d : ℕ) (f : List Field → Option Refusal) (left : List AppField) → length left ≤ 0 → first f (pieces_of d (fields_of left)).pieces ≡ None
no_pieces d f [] none = refl
no_pieces d f (x ∷ xs) none = absurd (some none)
  where
    some : suc (length xs) ≤ 0 → ⊥
    some k = omega (arith, k)
