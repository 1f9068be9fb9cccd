-- Parts of a body that stand one after another.
use Rattle.std.proofs.Common.{◌≡◌, ℕ, zero, suc, ◌+◌, ◌-◌, ◌≤◌, ◌<◌, List, [], ◌∷◌, ◌++◌, length, drop, get_or, Option, Some, refl, sym, ap, ◌∙◌, subst, arith, append_assoc, length-append}
use Rattle.std.proofs.lemmas.List.{drop-drop, drop_more, drop_all, drop_at}
use Rattle.sbe_types.specs.Wire.{both}
use Rattle.sbe_wire.specs.Canonical.{all_bytes}
use Rattle.sbe_wire.specs.Lays.{IsConcatenation}
use Rattle.clean_bodies.specs.Whole.{IsWhole, Chain, Times}

-- the bytes end there, and are these
abbrev pub Ends : ℕ → ℕ → List ℕ → Option (List ℕ) → Type 0
Ends at next front o = (next ≡ at + length front) × (o ≡ Some front)

pub whole_of : (X : Type 0) (lies : X → List ℕ → Type 0) (own : X → Option (List ℕ)) (body : List ℕ) (at next : ℕ) →
    ((x : X) (front rest : List ℕ) → drop at body ≡ front ++ rest → lies x front → Ends at next front (own x)) → IsWhole X lies own body at next
whole_of X lies own body at next each = record {
  ends = λ x front rest there h. (each x front rest there h).0;
  is = λ x front rest there h. (each x front rest there h).1;
}

-- what follows the first of two pieces
pub after : (body : List ℕ) (at : ℕ) (f r : List ℕ) → drop at body ≡ f ++ r → drop (at + length f) body ≡ r
after body at f r there = sym (drop-drop (length f) at body) ∙ ap (drop (length f)) there ∙ drop_at f r (length f) refl

-- two pieces, one after the other
pub two_pieces : (body : List ℕ) (at mid next : ℕ) (front f b rest : List ℕ) (first second : Option (List ℕ))
    → drop at body ≡ front ++ rest → front ≡ f ++ b → ((r : List ℕ) → drop at body ≡ f ++ r → Ends at mid f first)
    → (drop mid body ≡ b ++ rest → Ends mid next b second) → Ends at next front (both first second)
two_pieces body at mid next front f b rest first second there split one two =
    let there_f : drop at body ≡ f ++ (b ++ rest) = there ∙ ap (λ z. z ++ rest) split ∙ append_assoc f b rest in
    let here = one (b ++ rest) there_f in
    let there_b : drop mid body ≡ b ++ rest = ap (λ n. drop n body) here.0 ∙ after body at f (b ++ rest) there_f in
    let last = two there_b in (
      omega (arith, here.0, last.0, ap length split, length-append f b),
      ap (λ o. both o second) here.1 ∙ ap (both (Some f)) last.1 ∙ ap Some (sym split),
    )

-- ---- over a list

-- what the rest of a list gives from here on, the whole gives from where it began
abbrev pub Leads : (X : Type 0) → (X → ℕ → ℕ → Type 0) → List X → ℕ → ℕ → ℕ → Type 0
Leads X S xs i at begin = (next : ℕ) → Chain X S (drop i xs) at next → Chain X S xs begin next

pub chain_more : (X : Type 0) (S : X → ℕ → ℕ → Type 0) (xs : List X) (i at mid begin : ℕ) (x : X)
    → Leads X S xs i at begin → i < length xs → x ≡ get_or xs i x → S x at mid → Leads X S xs (i + 1) mid begin
chain_more X S xs i at mid begin x leads below is here next rest =
    let split : drop i xs ≡ x ∷ drop (i + 1) xs = drop_more xs i x below ∙ ap (λ y. y ∷ drop (i + 1) xs) (sym is) in
    leads next (subst (λ ys. Chain X S ys at next) (sym split) (mid, here, rest))

pub chain_done : (X : Type 0) (S : X → ℕ → ℕ → Type 0) (xs : List X) (i at begin : ℕ) → Leads X S xs i at begin
    → length xs ≤ i → Chain X S xs begin at
chain_done X S xs i at begin leads past = leads at (subst (λ ys. Chain X S ys at at) (sym (drop_all i xs past)) refl)

-- ---- so many times

-- what the steps that are left give from here on, all give from where they began
abbrev pub LeadsTimes : (ℕ → ℕ → Type 0) → ℕ → ℕ → ℕ → ℕ → Type 0
LeadsTimes S count i at begin = (next : ℕ) → Times S (count - i) at next → Times S count begin next

pub times_more : (S : ℕ → ℕ → Type 0) (count i at mid begin : ℕ) → LeadsTimes S count i at begin → i < count → S at mid
    → LeadsTimes S count (i + 1) mid begin
times_more S count i at mid begin leads below here next rest =
    let one : count - i ≡ suc (count - (i + 1)) = omega (arith, below) in
    leads next (subst (λ n. Times S n at next) (sym one) (mid, here, rest))

pub times_done : (S : ℕ → ℕ → Type 0) (count i at begin : ℕ) → LeadsTimes S count i at begin → count ≤ i → Times S count begin at
times_done S count i at begin leads past =
    let none : count - i ≡ 0 = omega (arith, past) in
    leads at (subst (λ n. Times S n at at) (sym none) refl)

-- items that lie one after another, each of which is whole
pub times_whole : (X : Type 0) (R : X → List ℕ → Type 0) (own : X → Option (List ℕ)) (body : List ℕ) (xs : List X) (n at next : ℕ)
    → length xs ≡ n → Times (λ a m. IsWhole X R own body a m) n at next → (front rest : List ℕ)
    → drop at body ≡ front ++ rest → IsConcatenation R xs front → Ends at next front (all_bytes own xs)
times_whole X R own body [] zero at next many chain front rest there h = (omega (arith, chain, ap length h), ap Some (sym h))
times_whole X R own body [] (suc n) at next many chain front rest there h = absurd (omega (arith, many))
times_whole X R own body (x ∷ xs) zero at next many chain front rest there h = absurd (omega (arith, many))
times_whole X R own body (x ∷ xs) (suc n) at next many chain front rest there h =
    two_pieces body at chain.0 next front h.0 h.1 rest (own x) (all_bytes own xs) there h.2
    (λ r t. (chain.1.ends x h.0 r t h.3, chain.1.is x h.0 r t h.3))
    (λ t. times_whole X R own body xs n chain.0 next (omega (arith, many)) chain.2 h.1 rest t h.4)
