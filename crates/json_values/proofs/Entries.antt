-- Steps of the loops over lists of members.
use Rattle.std.proofs.Common.{◌≡◌, ℕ, zero, suc, ◌+◌, ◌<◌, ◌≤◌, min, Bool, true, List, [], ◌∷◌, ◌++◌, length, drop, get_or, Option, Some, None, refl, sym, ap, ap₂, ◌∙◌, arith, append_assoc, length-drop, drop-cons, add-one}
use Rattle.std.proofs.lemmas.List.{drop_all}
use Rattle.std.specs.Prelude.{codes, slice_get, unwrap_or}
use Rattle.serde_json.specs.Data.{Data, Items, item}
use Rattle.serde_json.specs.Written.{comma_if}
use Rattle.json_values.specs.Values.{Entry, zipped}
use Rattle.json_values.specs.Plain.{key_text, plain_text, plain_items, entry_text, entries_text, later_behind}

-- the list from a place on, with the item there
pub there : {A : Type 0} (xs : List A) (i : ℕ) (x : A) → i < length xs → x ≡ get_or xs i x → drop i xs ≡ x ∷ drop (i + 1) xs
there xs i x h is = rw add-one (drop-cons xs i x h ∙ ap (λ y. y ∷ drop (suc i) xs) (sym is))

-- the text of a member, and then of those after it
pub entry_next : (later : Bool) (name : List ℕ) (o : Option Data) (es : List Entry)
    → entries_text later ((name, o) ∷ es) ≡ entry_text later (name, o) ++ entries_text (later_behind later o) es
entry_next later name None es = refl
entry_next later name (Some d) es =
    sym (append_assoc (comma_if later) (key_text name ++ plain_text d) _ ∙ ap (λ r. comma_if later ++ r) (append_assoc (key_text name) (plain_text d) _))

-- one step of a loop over two lists
pub zip_next : {A B : Type 0} (f : A → B → Entry) (later : Bool) (i : ℕ) (xs : List A) (ys : List B) (x : A) (y : B)
    → i < length xs → i < length ys → x ≡ get_or xs i x → y ≡ get_or ys i y
    → entry_text later (f x y) ++ entries_text (later_behind later (f x y).1) (zipped f (drop (i + 1) xs) (drop (i + 1) ys))
    ≡ entries_text later (zipped f (drop i xs) (drop i ys))
zip_next f later i xs ys x y h k x_is y_is =
    sym (ap₂ (λ us vs. entries_text later (zipped f us vs)) (there xs i x h x_is) (there ys i y k y_is) ∙ entry_next later (f x y).0 (f x y).1 (zipped f (drop (i + 1) xs) (drop (i + 1) ys)))

zip_end : {A B : Type 0} (f : A → B → Entry) (xs : List A) (ys : List B) → min (length xs) (length ys) ≤ 0 → zipped f xs ys ≡ []
zip_end f [] ys h = refl
zip_end f (x ∷ xs) [] h = refl
zip_end f (x ∷ xs) (y ∷ ys) h = absurd (omega (arith, h))

-- the end of a loop over two lists
pub zip_over : {A B : Type 0} (f : A → B → Entry) (later : Bool) (i : ℕ) (xs : List A) (ys : List B)
    → min (length xs) (length ys) ≤ i → codes "}" ≡ entries_text later (zipped f (drop i xs) (drop i ys))
zip_over f later i xs ys h = sym (ap (entries_text later) (zip_end f (drop i xs) (drop i ys) (omega (arith, length-drop i xs, length-drop i ys, h))))

-- ---- one list

-- one step of a loop over a list, whose text depends on a state
pub list_next : {S A : Type 0} (F : S → List A → List ℕ) (text : S → A → List ℕ) (next : S → A → S)
    → ((s : S) (x : A) (xs : List A) → F s (x ∷ xs) ≡ text s x ++ F (next s x) xs)
    → (s : S) (i : ℕ) (xs : List A) (x : A) → i < length xs → x ≡ get_or xs i x → text s x ++ F (next s x) (drop (i + 1) xs) ≡ F s (drop i xs)
list_next F text next step s i xs x h is = sym (ap (F s) (there xs i x h is) ∙ step s x (drop (i + 1) xs))

-- the same where the item is read by its place
pub list_next_at : {S A : Type 0} (F : S → List A → List ℕ) (text : S → A → List ℕ) (next : S → A → S)
    → ((s : S) (x : A) (xs : List A) → F s (x ∷ xs) ≡ text s x ++ F (next s x) xs)
    → (s : S) (i : ℕ) (xs : List A) (d : A) → i < length xs → text s (get_or xs i d) ++ F (next s (get_or xs i d)) (drop (i + 1) xs) ≡ F s (drop i xs)
list_next_at F text next step s i xs d h =
    let split : drop i xs ≡ get_or xs i d ∷ drop (i + 1) xs = rw add-one (drop-cons xs i d h) in
    sym (ap (F s) split ∙ step s (get_or xs i d) (drop (i + 1) xs))

-- the end of a loop over a list
pub list_over : {A : Type 0} (F : List A → List ℕ) (i : ℕ) (xs : List A) → length xs ≤ i → F [] ≡ F (drop i xs)
list_over F i xs h = sym (ap F (drop_all i xs h))

-- ---- loops

-- what is written so far, then what one step writes, and then the text of the rest
pub goes_on : (done piece rest before all : List ℕ) → piece ++ rest ≡ before → done ++ before ≡ all → (done ++ piece) ++ rest ≡ all
goes_on done piece rest before all h k = append_assoc done piece rest ∙ ap (λ r. done ++ r) h ∙ k

-- what is written so far, and then the end
pub ends_so : (done piece before all : List ℕ) → piece ≡ before → done ++ before ≡ all → done ++ piece ≡ all
ends_so done piece before all h k = ap (λ r. done ++ r) h ∙ k

-- ---- items

-- one item of an array, and then those after it
pub item_next : (later : Bool) (d : Data) (rest : Items) → plain_items later (item d rest) ≡ (comma_if later ++ plain_text d) ++ plain_items true rest
item_next later d rest = sym (append_assoc (comma_if later) (plain_text d) (plain_items true rest))

-- an item that was found at its place
pub got : {A : Type 0} (xs : List A) (i : ℕ) (x : A) → slice_get xs i ≡ Some x → x ≡ get_or xs i x
got [] i x h = absurd cc
got (y ∷ ys) zero x h = sym (ap (λ o. unwrap_or o x) h)
got (y ∷ ys) (suc i) x h = got ys i x h
