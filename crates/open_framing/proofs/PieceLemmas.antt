-- Bytes are cut in one way, and a reader of the first piece finds it.
use Rattle.std.proofs.Common.{◌≡◌, ◌+◌, ◌<◌, ◌∷◌, append_assoc, ℕ, zero, suc, ◌≤◌, List, [], ◌++◌, length, drop, Option, Some, None, refl, sym, ap, ◌∙◌, subst, arith, length-append}
use Rattle.std.specs.Prelude.{nat_lt}
use Rattle.std.proofs.lemmas.Bool.Decides.{nat_tests}
use Rattle.std.proofs.lemmas.List.{append_cancel_left}
use Rattle.std.proofs.Math.Seq.{drop-append_seam}
use Rattle.open_framing.specs.Pieces.{concat_pieces, Pieces, then_pieces, pieces_in, rest_of}

-- A reader of the first piece: it tells pieces, on good bytes, and it tells every piece.
pub record FindsPieces {X : Type 0} (IsGood : List ℕ → Type 0) (IsPiece : X → Type 0) (bytes_of : X → List ℕ) (first : List ℕ → Option X) : Type 0 where
  pub sound : (bytes : List ℕ) (x : X) → IsGood bytes → first bytes ≡ Some x → IsPiece x × ((more : List ℕ) × (bytes ≡ bytes_of x ++ more))
  pub complete : (x : X) (more : List ℕ) → IsPiece x → first (bytes_of x ++ more) ≡ Some x
  pub filled : (x : X) → IsPiece x → 0 < length (bytes_of x)
  pub after : (front back : List ℕ) → IsGood (front ++ back) → IsGood back

-- what is found: a cut into these pieces
abbrev Found : {X : Type 0} → (X → Type 0) → (X → List ℕ) → List ℕ → List X → Type 0
Found IsPiece bytes_of bytes pieces = (rest : List ℕ) × Pieces IsPiece bytes_of bytes pieces rest

none_more : {X : Type 0} {G : List ℕ → Type 0} {P : X → Type 0} {b : X → List ℕ} {first : List ℕ → Option X} → FindsPieces G P b first →
    (bytes : List ℕ) → first bytes ≡ None → Found P b bytes []
none_more {X} {G} {P} {b} {first} reads bytes none =
    (bytes, record { whole = refl; each = tt; longest = λ x more piece e. let told : first bytes ≡ Some x = ap first e ∙ reads.complete x more piece in cc })

-- nothing is cut of no bytes
none_left : {X : Type 0} {G : List ℕ → Type 0} {P : X → Type 0} {b : X → List ℕ} {first : List ℕ → Option X} → FindsPieces G P b first →
    (bytes : List ℕ) → length bytes ≤ 0 → Found P b bytes []
none_left {X} {G} {P} {b} {first} reads bytes short =
    (bytes, record { whole = refl; each = tt; longest = λ x more piece e. let some = reads.filled x piece in absurd (omega (arith, ap length e, length-append (b x) more)) })

-- one piece and then what is found after it
one_more : {X : Type 0} {G : List ℕ → Type 0} {P : X → Type 0} {b : X → List ℕ} {first : List ℕ → Option X} → FindsPieces G P b first →
    (n : ℕ) (later : List ℕ → List X) → ((bytes : List ℕ) → G bytes → length bytes ≤ n → Found P b bytes (later bytes)) →
    (bytes : List ℕ) → G bytes → length bytes ≤ suc n → (o : Option X) → first bytes ≡ o → Found P b bytes (then_pieces b later bytes o)
one_more reads n later found bytes good size None told = none_more reads bytes told
one_more {X} {G} {P} {b} {first} reads n later found bytes good size (Some x) told =
    let read = reads.sound bytes x good told in
    let more = read.1.0 in
    let e : bytes ≡ b x ++ more = read.1.1 in
    let filled : 0 < length (b x) = reads.filled x read.0 in
    let shorter : length more ≤ n = omega (arith, ap length e, length-append (b x) more) in
    let left : drop (length (b x)) bytes ≡ more = ap (drop (length (b x))) e ∙ drop-append_seam (b x) more in
    let next : Found P b more (later more) = found more (reads.after (b x) more (subst G e good)) shorter in
    let cut = next.1 in (
      next.0,
      record {
        whole = rw left (e ∙ ap (λ back. b x ++ back) cut.whole ∙ sym (append_assoc (b x) (concat_pieces b (later more)) next.0));
        each = rw left ((read.0, cut.each));
        longest = cut.longest;
      },
    )

-- the reader's pieces are the cut
pub pieces_found : {X : Type 0} {G : List ℕ → Type 0} {P : X → Type 0} {b : X → List ℕ} {first : List ℕ → Option X} → FindsPieces G P b first →
    (n : ℕ) (bytes : List ℕ) → G bytes → length bytes ≤ n → Found P b bytes (pieces_in first b n bytes)
unfolding pieces_in
pieces_found reads zero bytes good size = none_left reads bytes size
pieces_found {b = b} {first = first} reads (suc n) bytes good size = one_more reads n (pieces_in first b n) (pieces_found reads n) bytes good size (first bytes) refl

-- so is the rest
pub rest_found : {X : Type 0} {P : X → Type 0} {b : X → List ℕ} {bytes : List ℕ} {pieces : List X} {rest : List ℕ} → Pieces P b bytes pieces rest → rest_of b bytes pieces ≡ rest
rest_found {b = b} {pieces = pieces} {rest = rest} cut = ap (drop (length (concat_pieces b pieces))) cut.whole ∙ drop-append_seam (concat_pieces b pieces) rest

-- a cut is the only one
pub pieces_once : {X : Type 0} {G : List ℕ → Type 0} {P : X → Type 0} {b : X → List ℕ} {first : List ℕ → Option X} → FindsPieces G P b first →
    (bytes : List ℕ) (xs ys : List X) (r s : List ℕ) → Pieces P b bytes xs r → Pieces P b bytes ys s → (xs ≡ ys) × (r ≡ s)
pieces_once reads bytes [] [] r s c d = (refl, sym c.whole ∙ d.whole)
pieces_once {b = b} reads bytes [] (y ∷ ys) r s c d = absurd (c.longest y (concat_pieces b ys ++ s) d.each.0 (sym c.whole ∙ d.whole ∙ append_assoc (b y) (concat_pieces b ys) s))
pieces_once {b = b} reads bytes (x ∷ xs) [] r s c d = absurd (d.longest x (concat_pieces b xs ++ r) c.each.0 (sym d.whole ∙ c.whole ∙ append_assoc (b x) (concat_pieces b xs) r))
pieces_once {X} {G} {P} {b} {first} reads bytes (x ∷ xs) (y ∷ ys) r s c d =
    let at_x : bytes ≡ b x ++ (concat_pieces b xs ++ r) = c.whole ∙ append_assoc (b x) (concat_pieces b xs) r in
    let at_y : bytes ≡ b y ++ (concat_pieces b ys ++ s) = d.whole ∙ append_assoc (b y) (concat_pieces b ys) s in
    let first_x : first bytes ≡ Some x = ap first at_x ∙ reads.complete x (concat_pieces b xs ++ r) c.each.0 in
    let first_y : first bytes ≡ Some y = ap first at_y ∙ reads.complete y (concat_pieces b ys ++ s) d.each.0 in
    let same : x ≡ y = cc in
    let later : concat_pieces b xs ++ r ≡ concat_pieces b ys ++ s = append_cancel_left (b x) (concat_pieces b xs ++ r) (concat_pieces b ys ++ s) (sym at_x ∙ at_y ∙ ap (λ z. b z ++ (concat_pieces b ys ++ s)) (sym same)) in
    let rest = pieces_once reads (concat_pieces b xs ++ r) xs ys r s (record { whole = refl; each = c.each.1; longest = c.longest }) (record { whole = later; each = d.each.1; longest = d.longest }) in
    (let more : xs ≡ ys = rest.0 in cc, rest.1)

-- whether a stream goes on after the input doesn't hang on what stands at its front
pub more_behind : (front stream : List ℕ) (input : ℕ) → nat_lt (length front + input) (length (front ++ stream)) ≡ nat_lt input (length stream)
more_behind front stream input = let all = length-append front stream in grind (arith, nat_tests, all)
