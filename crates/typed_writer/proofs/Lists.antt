-- Lists that are written in place.
use Rattle.std.specs.Prelude.{slice_get}
use Rattle.std.proofs.Common.{◌≡◌, ℕ, zero, suc, ◌+◌, ◌≤◌, ◌<◌, List, [], ◌∷◌, ◌++◌, length, take, drop, replicate, slice_set, Option, Some, None, refl, sym, ap, ◌∙◌, arith, append_assoc, length-append, length-drop, take-take, get_or, drop-drop, ◌-◌}
use Rattle.std.proofs.Math.Seq.{take-append_seam, take-append-add}
use Rattle.std.proofs.lemmas.List.{append-nil, length-take-le, take-append-le}
use Rattle.sbe_types.specs.Wire.{both}
use Rattle.kind_bytes.specs.Members.{followed_by}
use Rattle.typed_writer.specs.Held.{spliced}

pub take_set : {X : Type 0} (xs : List X) (n i : ℕ) (x : X) → take n (slice_set xs i x) ≡ slice_set (take n xs) i x
take_set [] zero i x = refl
take_set [] (suc n) i x = refl
take_set (y ∷ ys) zero i x = refl
take_set (y ∷ ys) (suc n) zero x = refl
take_set (y ∷ ys) (suc n) (suc i) x = ap (λ z. y ∷ z) (take_set ys n i x)

pub take_same : {X : Type 0} (m n : ℕ) (x : X) → m ≤ n → take m (replicate n x) ≡ replicate m x
take_same zero n x h = refl
take_same (suc m) zero x h = absurd (omega (arith, h))
take_same (suc m) (suc n) x h = ap (λ z. x ∷ z) (take_same m n x (omega (arith, h)))

-- a front of a list whose end was written
pub front_put : (m n : ℕ) (front piece after more : List ℕ) → length front + length piece ≡ m → m ≤ n → take m (take n (front ++ (piece ++ after) ++ more)) ≡ front ++ piece
front_put m n front piece after more is within =
    let long : length (front ++ piece) ≡ m = length-append front piece ∙ is in
    let shape : front ++ (piece ++ after) ++ more ≡ (front ++ piece) ++ (after ++ more) =
    ap (λ z. z ++ more) (sym (append_assoc front piece after)) ∙ append_assoc (front ++ piece) after more in
    take-take m n (front ++ (piece ++ after) ++ more) within ∙ ap (take m) shape ∙ ap (λ k. take k ((front ++ piece) ++ (after ++ more))) (sym long)
    ∙ take-append_seam (front ++ piece) (after ++ more)

-- ---- bytes after bytes

none_is : (bytes : List ℕ) → ◌≡◌ {A = Option (List ℕ)} None (Some bytes) → ⊥
none_is bytes h = cc

some_is : (a b : List ℕ) → Some a ≡ Some b → a ≡ b
some_is a b h = cc

-- one piece after another
pub behind_both : (xs ys zs : List ℕ) (a b : Option (List ℕ)) → followed_by xs a ≡ Some ys → followed_by ys b ≡ Some zs → followed_by xs (both a b) ≡ Some zs
behind_both xs ys zs None b h k = absurd (none_is ys h)
behind_both xs ys zs (Some a) None h k = absurd (none_is zs k)
behind_both xs ys zs (Some a) (Some b) h k =
    ap Some (sym (append_assoc xs a b)) ∙ ap (λ w. Some (w ++ b)) (some_is (xs ++ a) ys h) ∙ k

-- what is left after a piece, and what is left after all
pub behind_next : (xs ys : List ℕ) (a b : Option (List ℕ)) → followed_by xs a ≡ Some ys → followed_by xs (both a b) ≡ followed_by ys b
behind_next xs ys None b h = absurd (none_is ys h)
behind_next xs ys (Some a) None h = refl
behind_next xs ys (Some a) (Some b) h = ap Some (sym (append_assoc xs a b)) ∙ ap (λ w. Some (w ++ b)) (some_is (xs ++ a) ys h)

pub behind_none : (xs : List ℕ) → followed_by xs (Some []) ≡ Some xs
behind_none xs = ap Some (append-nil xs)

-- ---- a piece in the midst

take_nil : {X : Type 0} (k : ℕ) → take {A = X} k [] ≡ []
take_nil zero = refl
take_nil (suc k) = refl

drop_take : {X : Type 0} (i n : ℕ) (xs : List X) → drop i (take n xs) ≡ take (n - i) (drop i xs)
drop_take zero n xs = let all : n ≡ n - 0 = omega arith in ap (λ k. take k xs) all
drop_take (suc i) zero xs = let none : 0 ≡ zero - suc i = omega arith in ap (λ k. take k (drop (suc i) xs)) none
drop_take (suc i) (suc n) [] = sym (take_nil (suc n - suc i))
drop_take (suc i) (suc n) (x ∷ xs) = let less : n - i ≡ suc n - suc i = omega arith in drop_take i n xs ∙ ap (λ k. take k (drop i xs)) less

-- the front of a list, where a part of the front was written
pub middle_put : (n m a k : ℕ) (xs piece more : List ℕ) → n ≤ m → n ≤ length xs → length piece ≡ k → a + k ≤ n →
    take n (take m (take a xs ++ (piece ++ drop k (drop a xs)) ++ more)) ≡ spliced (take n xs) a piece
middle_put n m a k xs piece more low within wide room =
    let front : length (take a xs) ≡ a = length-take-le a xs (omega (arith, room, within)) in
    let long : length (take a xs ++ piece) ≡ a + k = length-append (take a xs) piece ∙ ap (λ z. z + length piece) front ∙ ap (λ z. a + z) wide in
    let rest = drop (a + k) xs in
    let after : drop k (drop a xs) ≡ rest = drop-drop k a xs in
    let shape : take a xs ++ (piece ++ drop k (drop a xs)) ++ more ≡ (take a xs ++ piece) ++ (rest ++ more) =
    ap (λ z. take a xs ++ (piece ++ z) ++ more) after ∙ ap (λ z. z ++ more) (sym (append_assoc (take a xs) piece rest)) ∙ append_assoc (take a xs ++ piece) rest more in
    let split : n ≡ length (take a xs ++ piece) + (n - (a + k)) = omega (arith, long, room) in
    let left : length rest ≡ length xs - (a + k) = length-drop (a + k) xs in
    let ends : take (n - (a + k)) (rest ++ more) ≡ drop (a + k) (take n xs) =
    take-append-le (n - (a + k)) rest more (omega (arith, left, within, room)) ∙ sym (drop_take (a + k) n xs) in
    take-take n m (take a xs ++ (piece ++ drop k (drop a xs)) ++ more) low
    ∙ ap (take n) shape
    ∙ ap (λ z. take z ((take a xs ++ piece) ++ (rest ++ more))) split
    ∙ take-append-add (take a xs ++ piece) (rest ++ more) (n - (a + k))
    ∙ ap (λ z. (take a xs ++ piece) ++ z) ends
    ∙ ap (λ z. (z ++ piece) ++ drop (a + k) (take n xs)) (sym (take-take a n xs (omega (arith, room))))
    ∙ ap (λ z. (take a (take n xs) ++ piece) ++ drop (a + z) (take n xs)) (sym wide)

-- ---- an item

got_at : {X : Type 0} (xs : List X) (i : ℕ) (x : X) → i < length xs → x ≡ get_or xs i x → slice_get xs i ≡ Some x
got_at [] i x low is = absurd (omega (arith, low))
got_at (y ∷ ys) zero x low is = ap Some (sym is)
got_at (y ∷ ys) (suc i) x low is = got_at ys i x (omega (arith, low)) is

-- an item of a list that is another one
pub got : {X : Type 0} (xs ys : List X) (i : ℕ) (x : X) → xs ≡ ys → i < length ys → x ≡ get_or xs i x → slice_get ys i ≡ Some x
got xs ys i x same low is = got_at ys i x low (is ∙ ap (λ zs. get_or zs i x) same)
