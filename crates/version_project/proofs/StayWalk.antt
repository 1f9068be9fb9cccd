-- Two lists of members, compared pair by pair at the places where they begin.
use Rattle.std.proofs.Common.{◌≡◌, ◌≢◌, ◌≤◌, ◌+◌, ℕ, suc, Bool, true, false, List, [], ◌∷◌, length, drop, Some, refl, sym, ap, ◌∙◌}
use Rattle.std.specs.Prelude.{◌&&◌, slice_get}
use Rattle.std.proofs.lemmas.List.{drop_all}
use Rattle.sbe_types.specs.declared.kind.Kind.{Comp, Row_of-Member, end_of-Member, more_of-Member, items-the_row-Member, items_hidden-the_row-Member-0}
use Rattle.sbe_types.specs.declared.kind.Member.{Member}
use Rattle.sbe_types.specs.Places.{end_past}
use Rattle.version_laws.specs.Same.{same_places, same_row_places, same_header}
use Rattle.version_laws.specs.Differ.{Ends}
use Rattle.sbe_types.proofs.KindRows.{row_in}
use Rattle.version_project.specs.Pairwise.{ends_at, all_stay, member_stays, is_header_member}
use Rattle.version_project.proofs.Items.{drop_at}

abbrev Test : Type 0
Test = Ends → Member → Member → Bool

module _ (rest : Bool) (test : Test) where
  abbrev left : ℕ → ℕ → List Member → List Member → Bool
  left e d xs ys = all_stay rest test (ends_at e d) xs ys

  stay_step : (e d i : ℕ) (xs ys : List Member) (x y : Member) → slice_get xs i ≡ Some x → slice_get ys i ≡ Some y →
      left e d (drop i xs) (drop i ys) ≡ (test (ends_at e d) x y && left (end_past e x.offset x.kind) (end_past d y.offset y.kind) (drop (i + 1) xs) (drop (i + 1) ys))
  stay_step e d i xs ys x y h k = ap (λ l. left e d l (drop i ys)) (drop_at xs i x h) ∙ ap (left e d (x ∷ drop (i + 1) xs)) (drop_at ys i y k)

  pub stay_goes : (e d e' d' i : ℕ) (xs ys : List Member) (x y : Member) (r whole : Bool) → slice_get xs i ≡ Some x → slice_get ys i ≡ Some y → r ≡ test (ends_at e d) x y → r ≡ true →
      e' ≡ end_past e x.offset x.kind → d' ≡ end_past d y.offset y.kind → left e d (drop i xs) (drop i ys) ≡ whole → left e' d' (drop (i + 1) xs) (drop (i + 1) ys) ≡ whole
  stay_goes e d e' d' i xs ys x y r whole h k is t end other so_far =
      ap (λ n. left n d' (drop (i + 1) xs) (drop (i + 1) ys)) end
      ∙ ap (λ n. left (end_past e x.offset x.kind) n (drop (i + 1) xs) (drop (i + 1) ys)) other
      ∙ sym (stay_step e d i xs ys x y h k ∙ ap (λ b. b && left (end_past e x.offset x.kind) (end_past d y.offset y.kind) (drop (i + 1) xs) (drop (i + 1) ys)) (sym is ∙ t)) ∙ so_far

  pub stay_stops : (e d i : ℕ) (xs ys : List Member) (x y : Member) (r whole : Bool) → slice_get xs i ≡ Some x → slice_get ys i ≡ Some y → r ≡ test (ends_at e d) x y → r ≡ false →
      left e d (drop i xs) (drop i ys) ≡ whole → false ≡ whole
  stay_stops e d i xs ys x y r whole h k is t so_far =
      sym (stay_step e d i xs ys x y h k ∙ ap (λ b. b && left (end_past e x.offset x.kind) (end_past d y.offset y.kind) (drop (i + 1) xs) (drop (i + 1) ys)) (sym is ∙ t)) ∙ so_far

  pub stay_ends : (e d n : ℕ) (xs ys : List Member) (whole : Bool) → length xs ≤ n → length ys ≤ n → left e d (drop n xs) (drop n ys) ≡ whole → true ≡ whole
  stay_ends e d n xs ys whole h k so_far = sym (ap (λ l. left e d l (drop n ys)) (drop_all n xs h) ∙ ap (left e d []) (drop_all n ys k)) ∙ so_far

none_old : (test : Test) (e d : ℕ) (ys : List Member) → all_stay true test (ends_at e d) [] ys ≡ true
none_old test e d [] = refl
none_old test e d (y ∷ ys) = refl

none_new : (test : Test) (e d : ℕ) (xs : List Member) → all_stay true test (ends_at e d) xs [] ≡ true
none_new test e d [] = refl
none_new test e d (x ∷ xs) = refl

pub old_ends : (test : Test) (e d n : ℕ) (xs ys : List Member) (whole : Bool) → length xs ≤ n → all_stay true test (ends_at e d) (drop n xs) (drop n ys) ≡ whole → true ≡ whole
old_ends test e d n xs ys whole h so_far = sym (ap (λ l. all_stay true test (ends_at e d) l (drop n ys)) (drop_all n xs h) ∙ none_old test e d (drop n ys)) ∙ so_far

pub new_ends : (test : Test) (e d n : ℕ) (xs ys : List Member) (whole : Bool) → length ys ≤ n → all_stay true test (ends_at e d) (drop n xs) (drop n ys) ≡ whole → true ≡ whole
new_ends test e d n xs ys whole h so_far = sym (ap (all_stay true test (ends_at e d) (drop n xs)) (drop_all n ys h) ∙ none_new test e d (drop n xs)) ∙ so_far

abbrev headers_left : ℕ → ℕ → List Member → List Member → Bool
headers_left e d xs ys = all_stay false is_header_member (ends_at e d) xs ys

pub unlike_header : (e d : ℕ) (xs ys : List Member) → length xs ≢ length ys → false ≡ headers_left e d xs ys
unlike_header e d [] [] h = absurd (h refl)
unlike_header e d [] (y ∷ ys) h = refl
unlike_header e d (x ∷ xs) [] h = refl
unlike_header e d (x ∷ xs) (y ∷ ys) h =
    either (is_header_member (ends_at e d) x y) (unlike_header (end_past e x.offset x.kind) (end_past d y.offset y.kind) xs ys (λ k. h (ap suc k)))
  where
    either : (t : Bool) → false ≡ headers_left (end_past e x.offset x.kind) (end_past d y.offset y.kind) xs ys → false ≡ (t && headers_left (end_past e x.offset x.kind) (end_past d y.offset y.kind) xs ys)
    either true k = k
    either false k = refl

-- ---- the lists that are compared so

pub headers_stay : (e d : ℕ) (xs ys : List Member) → same_header e xs d ys ≡ headers_left e d xs ys
headers_stay e d [] [] = refl
headers_stay e d [] (y ∷ ys) = refl
headers_stay e d (x ∷ xs) [] = refl
headers_stay e d (x ∷ xs) (y ∷ ys) = ap (λ t. is_header_member (ends_at e d) x y && t) (headers_stay (end_past e x.offset x.kind) (end_past d y.offset y.kind) xs ys)

rows_stay : (e d : ℕ) (n : _) (old : Row_of-Member n) (k : _) (new : Row_of-Member k) → same_row_places e old d new ≡ all_stay true member_stays (ends_at e d) (items-the_row-Member _ old) (items-the_row-Member _ new)
rows_stay e d n end_of-Member k end_of-Member = refl
rows_stay e d n end_of-Member k (more_of-Member name offset kind rest) = refl
rows_stay e d n (more_of-Member name offset kind rest) k end_of-Member = refl
rows_stay e d n (more_of-Member name offset kind rest) k (more_of-Member name' offset' kind' rest') =
    ap (λ t. member_stays (ends_at e d) (record { name = name; offset = offset; kind = kind }) (record { name = name'; offset = offset'; kind = kind' }) && t)
    (rows_stay (end_past e offset kind) (end_past d offset' kind') _ rest _ rest')

pub composites_stay : (old new : List Member) → same_places (Comp old) (Comp new) ≡ all_stay true member_stays (ends_at 0 0) old new
composites_stay old new =
    let row = row_in (Comp old) in
    let other = row_in (Comp new) in
    rows_stay 0 0 row.0 row.1 other.0 other.1
    ∙ ap (λ l. all_stay true member_stays (ends_at 0 0) l (items-the_row-Member _ other.1)) (items_hidden-the_row-Member-0 old)
    ∙ ap (all_stay true member_stays (ends_at 0 0) old) (items_hidden-the_row-Member-0 new)
