-- What tables of tags tell of lists of tags.
use Rattle.std.proofs.Common.{◌≡◌, ℕ, ◌+◌, Bool, true, false, List, [], ◌∷◌, Option, Some, None, map, is_some, refl, sym, ap, ◌∙◌}
use Rattle.std.specs.Prelude.{slice_get, nat_eq, ◌||◌, ◌==◌, if◌then◌else◌}
use Rattle.std.specs.List.{list_any}
use Rattle.id_tables.specs.Places.{place_by, place_of}
use Rattle.tagvalue_codec.specs.declared.data_tags.Pair.{Pair}
use Rattle.bridge_terms.specs.Plans.{is_in}
use Rattle.bridge_terms.specs.MessageFields.{length_in}
use Rattle.bridge_mapping.specs.Mapped.{tags_in}
use Rattle.bridge_mapping.proofs.Typing.{nat_turned, sought, sought_none, sought_at, if_by}

or_by : (p q a b : Bool) → p ≡ q → a ≡ b → (p || a) ≡ (q || b)
or_by p q a b e f = λ j. e j || f j

-- a tag is among others, whichever way they are compared
pub among : (tag : ℕ) (all : List ℕ) → list_any (nat_eq tag) all ≡ is_in tag all
among tag [] = refl
among tag (x ∷ xs) = or_by (nat_eq tag x) (x == tag) (list_any (nat_eq tag) xs) (is_in tag xs) (nat_turned tag x) (among tag xs)

any_step : (p : Bool) (k : ℕ) (more : Option ℕ) (rest : Bool) → rest ≡ is_some more → (p || rest) ≡ is_some (if p then Some k else more)
any_step true k more rest h = refl
any_step false k more rest h = h

placed : (tag k : ℕ) (all : List ℕ) → list_any (nat_eq tag) all ≡ is_some (place_by (nat_eq tag) k all)
placed tag k [] = refl
placed tag k (x ∷ xs) = any_step (nat_eq tag x) k (place_by (nat_eq tag) (k + 1) xs) (list_any (nat_eq tag) xs) (placed tag (k + 1) xs)

-- a tag has a place where it is among the others
pub place_among : (tag : ℕ) (all : List ℕ) → is_some (place_of tag all) ≡ is_in tag all
place_among tag all = sym (placed tag 0 all) ∙ among tag all

pub both_maps : {X Y Z : Type 0} (f : Y → Z) (g : X → Y) (xs : List X) → map (λ x. f (g x)) xs ≡ map f (map g xs)
both_maps f g [] = refl
both_maps f g (x ∷ xs) = ap (λ ys. f (g x) ∷ ys) (both_maps f g xs)

abbrev tag_in : Pair → ℕ
tag_in p = p.tag

abbrev length_tag_in : Pair → Option ℕ
length_tag_in p = Some p.length_tag

length_sought : (tag : ℕ) (pairs : List Pair) → length_in tag (map tags_in pairs) ≡ sought (nat_eq tag) tag_in length_tag_in None pairs
length_sought tag [] = refl
length_sought tag (p ∷ ps) =
    if_by (p.tag == tag) (nat_eq tag p.tag) (Some p.length_tag) (length_in tag (map tags_in ps)) (sought (nat_eq tag) tag_in length_tag_in None ps) (nat_turned p.tag tag)
    (length_sought tag ps)

pub length_none : (tag : ℕ) (pairs : List Pair) → place_of tag (map tag_in pairs) ≡ None → length_in tag (map tags_in pairs) ≡ None
length_none tag pairs h = length_sought tag pairs ∙ sought_none (nat_eq tag) tag_in length_tag_in None 0 pairs h

pub length_at : (tag i : ℕ) (pairs : List Pair) → place_of tag (map tag_in pairs) ≡ Some i → (own : Pair) → slice_get pairs i ≡ Some own →
    length_in tag (map tags_in pairs) ≡ Some own.length_tag
length_at tag i pairs h own at = length_sought tag pairs ∙ sought_at (nat_eq tag) tag_in length_tag_in None i pairs h own at
