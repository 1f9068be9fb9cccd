-- The tags of parts that were passed, and what is free beside them.
use Rattle.std.proofs.Common.{◌≡◌, ℕ, Bool, true, false, List, [], ◌∷◌, ◌++◌, map, Option, Some, None, refl, sym, ap, ◌∙◌, inl, inr}
use Rattle.std.specs.Prelude.{nat_eq, ◌&&◌, ◌||◌, ◌==◌, not, is_some, option_map}
use Rattle.std.specs.List.{list_any}
use Rattle.std.proofs.lemmas.Bool.{eqb-true}
use Rattle.sbe_types.specs.declared.schema.Field.{Field}
use Rattle.reference_graph.specs.Expansion.{Structure}
use Rattle.reference_graph.specs.Walking.{Inserts}
use Rattle.bridge_rules.proofs.BoolLemmas.{either}
use Rattle.bridge_terms.specs.Parts.{TagLists}
use Rattle.bridge_terms.specs.Plans.{is_in}
use Rattle.bridge_plan.specs.Mappings.{Mapping}
use Rattle.bridge_plan.specs.Covers.{is_free, length_tags, data_tags}
use Rattle.bridge_mapping.specs.Tables.{HaveSameTags}
use Rattle.bridge_mapping.proofs.TagLists.{among}
use Rattle.bridge_cover.specs.declared.level.LevelMap.{LevelMap}
use Rattle.bridge_cover.specs.Parts.{ids_of, Sees}

-- ---- two tests

or_swapped : (a b c : Bool) → (a || (b || c)) ≡ (b || (a || c))
or_swapped true true c = refl
or_swapped true false c = refl
or_swapped false true c = refl
or_swapped false false c = refl

or_joined : (a b c : Bool) → (a || (b || c)) ≡ ((a || b) || c)
or_joined true b c = refl
or_joined false b c = refl

-- a test that fails early fails
pub and_fails : (a b c : Bool) → (a && b) ≡ false → false ≡ (a && (b && c))
and_fails true true c h = cc
and_fails true false c h = refl
and_fails false b c h = refl

-- one that doesn't is the rest of it
pub and_rest : (a b c rest : Bool) → (a && b) ≡ true → rest ≡ c → rest ≡ (a && (b && c))
and_rest true true c rest h e = e
and_rest true false c rest h e = cc
and_rest false b c rest h e = cc

pub there_too : {X Y : Type 0} (f : X → Y) (o : Option X) (p : Option Y) → option_map f o ≡ p → is_some o ≡ is_some p
there_too f None p h = ap is_some h
there_too f (Some x) p h = ap is_some h

-- ---- tags among others

-- of two lists, one after the other
pub in_both : (tag : ℕ) (xs ys : List ℕ) → is_in tag (xs ++ ys) ≡ (is_in tag xs || is_in tag ys)
in_both tag [] ys = refl
in_both tag (x ∷ xs) ys = ap (λ b. (x == tag) || b) (in_both tag xs ys) ∙ or_joined (x == tag) (is_in tag xs) (is_in tag ys)

in_swapped : (tag x : ℕ) (xs ys : List ℕ) → is_in tag (xs ++ (x ∷ ys)) ≡ is_in tag (x ∷ (xs ++ ys))
in_swapped tag x [] ys = refl
in_swapped tag x (y ∷ xs) ys = ap (λ b. (y == tag) || b) (in_swapped tag x xs ys) ∙ or_swapped (y == tag) (x == tag) (is_in tag (xs ++ ys))

in_nothing : (tag : ℕ) (xs : List ℕ) → is_in tag (xs ++ []) ≡ is_in tag xs
in_nothing tag [] = refl
in_nothing tag (x ∷ xs) = ap (λ b. (x == tag) || b) (in_nothing tag xs)

in_end : (tag x : ℕ) (xs : List ℕ) → is_in tag (xs ++ x ∷ []) ≡ is_in tag (x ∷ xs)
in_end tag x [] = refl
in_end tag x (y ∷ xs) = ap (λ b. (y == tag) || b) (in_end tag x xs) ∙ or_swapped (y == tag) (x == tag) (is_in tag xs)

-- a tag that was there adds nothing
in_again : (tag x : ℕ) (xs : List ℕ) → is_in x xs ≡ true → is_in tag xs ≡ is_in tag (x ∷ xs)
in_again tag x xs h = elim (either (x == tag)) [
  | inl same ↦ ap (λ t. is_in t xs) (sym (eqb-true x tag same)) ∙ h ∙ sym (ap (λ b. b || is_in tag xs) same)
  | inr other ↦ sym (ap (λ b. b || is_in tag xs) other)
]

inserted : (old : List ℕ) (x : ℕ) (now : List ℕ) (new : Bool) → Inserts old (Some x) now new → (tag : ℕ) →
    is_in tag now ≡ is_in tag (x ∷ old)
inserted old x now true h tag = ap (is_in tag) h.1 ∙ in_end tag x old
inserted old x now false h tag = ap (is_in tag) h.1 ∙ in_again tag x old (sym (among x old) ∙ h.0)

-- ---- a level

module _ (m : Mapping) (s : Structure) (before : List ℕ) (here : LevelMap) (sees : Sees m s before here) where
  -- past a part
  pub passed : (x : ℕ) (now : List ℕ) (new : Bool) → Inserts here.before (Some x) now new →
      Sees m s (x ∷ before) (record here { before = now })
  passed x now new h = record {
    tables = sees.tables;
    places = sees.places;
    passed = λ tag. inserted here.before x now new h tag ∙ ap (λ b. (x == tag) || b) (sees.passed tag);
  }

  -- the tags of the parts so far may be listed otherwise
  pub listed_as : (other : List ℕ) → ((tag : ℕ) → is_in tag before ≡ is_in tag other) → Sees m s other here
  listed_as other same = record { tables = sees.tables; places = sees.places; passed = λ tag. sees.passed tag ∙ same tag }

  -- a tag that was passed
  pub was_passed : (tag : ℕ) (b : Bool) → b ≡ list_any (nat_eq tag) here.before → b ≡ is_in tag before
  was_passed tag b h = h ∙ among tag here.before ∙ sees.passed tag

-- past a field, whose tag is one of the level's fields
pub field_listed : (f : Field) (left : List Field) (earlier all : List ℕ) →
    ((tag : ℕ) → is_in tag (ids_of (f ∷ left) ++ earlier) ≡ is_in tag all) →
    (tag : ℕ) → is_in tag (ids_of left ++ (f.id ∷ earlier)) ≡ is_in tag all
field_listed f left earlier all h tag = in_swapped tag f.id (ids_of left) earlier ∙ h tag

pub none_listed : (fields : List Field) (tag : ℕ) → is_in tag (ids_of fields ++ []) ≡ is_in tag (ids_of fields)
none_listed fields tag = in_nothing tag (ids_of fields)

-- ---- what is free

both : (a b c d e f : Bool) → a ≡ b → c ≡ d → e ≡ f → (not a && (not c && not e)) ≡ (not b && (not d && not f))
both a b c d e f p q r = λ i. not (p i) && (not (q i) && not (r i))

pub free_is : (m : Mapping) (before : List ℕ) (tags : TagLists) (tag : ℕ) (header length taken : Bool) → HaveSameTags tags m.lists →
    header ≡ is_in tag tags.header → length ≡ is_in tag (length_tags tags) → taken ≡ is_in tag before
    → (not header && (not length && not taken)) ≡ is_free m before tag
free_is m before tags tag header length taken same h l t =
    both header (is_in tag m.lists.header) length (is_in tag (length_tags m.lists)) taken (is_in tag before) (h ∙ same.header tag)
    (l ∙ ap (λ (pairs : List (ℕ × ℕ)). is_in tag (map (λ pair. pair.0) pairs)) same.lengths) t

-- a tag of data
pub data_is : (m : Mapping) (tags : TagLists) (tag : ℕ) → HaveSameTags tags m.lists →
    is_in tag (data_tags tags) ≡ is_in tag (data_tags m.lists)
data_is m tags tag same = ap (λ (pairs : List (ℕ × ℕ)). is_in tag (map (λ pair. pair.1) pairs)) same.lengths

-- one of data, or among others
pub taken_is : (m : Mapping) (before : List ℕ) (tags : TagLists) (tag : ℕ) (was raw : Bool) → HaveSameTags tags m.lists →
    was ≡ is_in tag before → raw ≡ is_in tag (data_tags tags) →
    (was || raw) ≡ is_in tag (before ++ data_tags m.lists)
taken_is m before tags tag was raw same p d =
    (λ i. p i || (d ∙ data_is m tags tag same) i) ∙ sym (in_both tag before (data_tags m.lists))

-- a field has the tag
pub field_among : (tag : ℕ) (fields : List Field) → list_any (λ (f : Field). f.id == tag) fields ≡ is_in tag (ids_of fields)
field_among tag [] = refl
field_among tag (f ∷ fs) = ap (λ b. (f.id == tag) || b) (field_among tag fs)
