-- What is seen of the children of an element.
use Rattle.std.proofs.Common.{◌≡◌, ◌≢◌, ℕ, zero, suc, ◌+◌, ◌<◌, ◌≤◌, get_or, List, [], ◌∷◌, ◌++◌, length, refl, sym, ap, ◌∙◌, arith, append_assoc, drop, add-one}
use Rattle.std.specs.Prelude.{Ok, Err}
use Rattle.serde_json.specs.Data.{Data, item, depth, items_depth}
use Rattle.json_data.specs.Trees.{data_of, items_of}
use Rattle.json_data.specs.declared.data.Json.{Json}
use Rattle.json_elements.specs.declared.refusal.Cause.TheVariants.{Shape}
use Rattle.json_elements.specs.Reading.{Reading, ◌>>=◌, refuse, at_child}
use Rattle.json_elements.specs.Elements.{items_count, no_children, each}

pub items_seen : (vs : List Json) → items_count (items_of vs) ≡ length vs
items_seen [] = refl
items_seen (v ∷ vs) = ap suc (items_seen vs)

pub childless : (vs : List Json) → length vs ≡ 0 → no_children (items_of vs) ≡ Ok tt
childless [] h = refl
childless (v ∷ vs) h = absurd (omega arith)

pub with_child : (vs : List Json) → length vs ≢ 0 → no_children (items_of vs) ≡ at_child 0 (refuse Shape)
with_child [] h = absurd (h refl)
with_child (v ∷ vs) h = refl

-- ---- a list that is read child by child

-- what is read so far, in front of what is read of the rest
abbrev pub with_front : {A : Type 0} → List A → Reading (List A) → Reading (List A)
with_front front read = read >>= (λ xs. Ok (front ++ xs))

front_more : {A : Type 0} (front : List A) (x : A) (r : Reading (List A)) → with_front (front ++ x ∷ []) r ≡ with_front front (r >>= (λ ys. Ok (x ∷ ys)))
front_more front x (Ok ys) = ap Ok (append_assoc front (x ∷ []) ys)
front_more front x (Err e) = refl

there_next : (vs : List Json) (i : ℕ) (v : Json) → i < length vs → v ≡ get_or vs i v → items_of (drop i vs) ≡ item (data_of v) (items_of (drop (suc i) vs))
there_next [] i v h is = absurd (omega arith)
there_next (w ∷ vs) zero v h is = ap (λ (x : Json). item (data_of x) (items_of vs)) (sym is)
there_next (w ∷ vs) (suc i) v h is = there_next vs i v (omega arith) is

there : (vs : List Json) (i : ℕ) (v : Json) → i < length vs → v ≡ get_or vs i v → items_of (drop i vs) ≡ item (data_of v) (items_of (drop (i + 1) vs))
there vs i v h is = there_next vs i v h is ∙ ap (λ (n : ℕ). item (data_of v) (items_of (drop n vs))) (sym (add-one i))

-- one child more is read
pub each_more : {A : Type 0} (by : Data → Reading A) (front new : List A) (vs : List Json) (i : ℕ) (v : Json) (x : A) →
    new ≡ front ++ x ∷ [] → i < length vs → v ≡ get_or vs i v → at_child i (by (data_of v)) ≡ Ok x →
    with_front new (each by (i + 1) (items_of (drop (i + 1) vs))) ≡ with_front front (each by i (items_of (drop i vs)))
each_more {A} by front new vs i v x is h at read =
    let rest : Reading (List A) = each by (i + 1) (items_of (drop (i + 1) vs)) in
    ap (λ (n : List A). with_front n rest) is
    ∙ front_more front x rest
    ∙ ap (with_front front) (sym (ap (each by i) (there vs i v h at) ∙ ap (λ (r : Reading A). r >>= (λ first. rest >>= (λ others. Ok (first ∷ others)))) read))

-- ---- what lies deeper

pub item_within : (vs : List Json) (i : ℕ) (v : Json) → i < length vs → v ≡ get_or vs i v → depth (data_of v) ≤ items_depth (items_of vs)
item_within [] i v h is = absurd (omega arith)
item_within (w ∷ vs) zero v h is = let e : depth (data_of v) ≡ depth (data_of w) = ap (λ x. depth (data_of x)) is in omega arith
item_within (w ∷ vs) (suc i) v h is = omega (arith, item_within vs i v (omega arith) is)
