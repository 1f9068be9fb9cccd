-- Two lists, compared item by item.
use Rattle.std.proofs.Common.{◌≡◌, ◌≢◌, ◌≤◌, ◌+◌, ℕ, suc, Bool, true, false, List, [], ◌∷◌, length, drop, Some, refl, sym, ap, ◌∙◌}
use Rattle.std.specs.Prelude.{◌&&◌, slice_get}
use Rattle.std.proofs.lemmas.List.{drop_all}
use Rattle.sbe_types.specs.declared.kind.Kind.{Comp, Row_of-Member, end_of-Member, more_of-Member, items-the_row-Member, items_hidden-the_row-Member-0}
use Rattle.sbe_types.specs.declared.kind.Member.{Member}
use Rattle.sbe_types.specs.declared.kind.Named.{Named}
use Rattle.version_laws.specs.Same.{same_named, same_names, same_kind, same_row, same_members}
use Rattle.sbe_types.proofs.KindRows.{row_in}
use Rattle.version_project.specs.Pairwise.{all_alike, is_member}
use Rattle.version_project.proofs.Items.{drop_at}

pub unlike_long : {X : Type 0} (test : X → X → Bool) (xs ys : List X) → length xs ≢ length ys → false ≡ all_alike test xs ys
unlike_long test [] [] h = absurd (h refl)
unlike_long test [] (y ∷ ys) h = refl
unlike_long test (x ∷ xs) [] h = refl
unlike_long test (x ∷ xs) (y ∷ ys) h = let rest = unlike_long test xs ys (λ k. h (ap suc k)) in either (test x y) rest
  where
    either : (t : Bool) → false ≡ all_alike test xs ys → false ≡ (t && all_alike test xs ys)
    either true k = k
    either false k = refl

pub alike_step : {X : Type 0} (test : X → X → Bool) (xs ys : List X) (i : ℕ) (x y : X) → slice_get xs i ≡ Some x → slice_get ys i ≡ Some y →
    all_alike test (drop i xs) (drop i ys) ≡ (test x y && all_alike test (drop (i + 1) xs) (drop (i + 1) ys))
alike_step test xs ys i x y h k = ap (λ l. all_alike test l (drop i ys)) (drop_at xs i x h) ∙ ap (all_alike test (x ∷ drop (i + 1) xs)) (drop_at ys i y k)

pub alike_goes : {X : Type 0} (test : X → X → Bool) (xs ys : List X) (i : ℕ) (x y : X) (r : Bool) → slice_get xs i ≡ Some x → slice_get ys i ≡ Some y → r ≡ test x y → r ≡ true →
    all_alike test (drop i xs) (drop i ys) ≡ all_alike test xs ys → all_alike test (drop (i + 1) xs) (drop (i + 1) ys) ≡ all_alike test xs ys
alike_goes test xs ys i x y r h k e t so_far =
    sym (alike_step test xs ys i x y h k ∙ ap (λ b. b && all_alike test (drop (i + 1) xs) (drop (i + 1) ys)) (sym e ∙ t)) ∙ so_far

pub alike_stops : {X : Type 0} (test : X → X → Bool) (xs ys : List X) (i : ℕ) (x y : X) (r : Bool) → slice_get xs i ≡ Some x → slice_get ys i ≡ Some y → r ≡ test x y → r ≡ false →
    all_alike test (drop i xs) (drop i ys) ≡ all_alike test xs ys → false ≡ all_alike test xs ys
alike_stops test xs ys i x y r h k e t so_far =
    sym (alike_step test xs ys i x y h k ∙ ap (λ b. b && all_alike test (drop (i + 1) xs) (drop (i + 1) ys)) (sym e ∙ t)) ∙ so_far

pub alike_ends : {X : Type 0} (test : X → X → Bool) (xs ys : List X) (n : ℕ) → length xs ≤ n → length ys ≤ n → all_alike test (drop n xs) (drop n ys) ≡ all_alike test xs ys → true ≡ all_alike test xs ys
alike_ends test xs ys n h k so_far = sym (ap (λ l. all_alike test l (drop n ys)) (drop_all n xs h) ∙ ap (all_alike test []) (drop_all n ys k)) ∙ so_far

-- ---- the lists that are compared so

pub names_alike : (xs ys : List Named) → same_names xs ys ≡ all_alike same_named xs ys
names_alike [] [] = refl
names_alike [] (y ∷ ys) = refl
names_alike (x ∷ xs) [] = refl
names_alike (x ∷ xs) (y ∷ ys) = ap (λ t. same_named x y && t) (names_alike xs ys)

pub members_alike : (xs ys : List Member) → same_members xs ys ≡ all_alike (is_member false) xs ys
members_alike [] [] = refl
members_alike [] (y ∷ ys) = refl
members_alike (x ∷ xs) [] = refl
members_alike (x ∷ xs) (y ∷ ys) = ap (λ t. is_member false x y && t) (members_alike xs ys)

rows_alike : (more : Bool) (n : _) (old : Row_of-Member n) (k : _) (new : Row_of-Member k) → same_row more old new ≡ all_alike (is_member more) (items-the_row-Member _ old) (items-the_row-Member _ new)
rows_alike more n end_of-Member k end_of-Member = refl
rows_alike more n end_of-Member k (more_of-Member name offset kind rest) = refl
rows_alike more n (more_of-Member name offset kind rest) k end_of-Member = refl
rows_alike more n (more_of-Member name offset kind rest) k (more_of-Member name' offset' kind' rest') =
    ap (λ t. is_member more (record { name = name; offset = offset; kind = kind }) (record { name = name'; offset = offset'; kind = kind' }) && t) (rows_alike more _ rest _ rest')

pub composites_alike : (more : Bool) (old new : List Member) → same_kind more (Comp old) (Comp new) ≡ all_alike (is_member more) old new
composites_alike more old new =
    let row = row_in (Comp old) in
    let other = row_in (Comp new) in
    rows_alike more row.0 row.1 other.0 other.1
    ∙ ap (λ l. all_alike (is_member more) l (items-the_row-Member _ other.1)) (items_hidden-the_row-Member-0 old)
    ∙ ap (all_alike (is_member more) old) (items_hidden-the_row-Member-0 new)
