-- The first field of each part of a level.
use Rattle.std.proofs.Common.{◌≡◌, ◌≤◌, ◌+◌, inl, inr, ℕ, zero, suc, Bool, true, false, List, [], ◌∷◌, drop, length, get_or, replicate, map, slice_get, Option, Some, None, refl, sym, ap, ◌∙◌, subst, arith}
use Rattle.std.specs.Prelude.{◌==◌, ◌||◌, ◌&&◌}
use Rattle.std.proofs.lemmas.Bool.{eqb-true, eq-eqb}
use Rattle.id_tables.specs.Places.{place_of}
use Rattle.bridge_rules.proofs.BoolLemmas.{true_false, either, or_left, or_right, same_self, if_true, if_false}
use Rattle.bridge_rules.proofs.OptionLemmas.{some_is, none_some}
use Rattle.bridge_terms.specs.Parts.{Part, part_at, parts_of, rest_of, run_of}
use Rattle.bridge_terms.specs.PlanFacts.{IsPlaced}
use Rattle.bridge_terms.specs.Plans.{Plan, done, single, group, is_in, owns, tags}
use Rattle.bridge_terms.specs.WayBack.{Refusal, first, missing_in, or_else}
use Rattle.bridge_terms.proofs.Cursor.{parts_step}
use Rattle.field_judge.specs.declared.field.AppField.{AppField}
use Rattle.field_judge.specs.declared.level.BackLevel.{BackLevel}
use Rattle.field_judge.specs.declared.level.BackRow.{BackRow}
use Rattle.field_judge.specs.Fields.{field_of, fields_of, part_with}
use Rattle.field_judge.specs.Heads.{head_missing, head_owns, head_tag, heads, located, part_from, placed, slot_head, group_head, AreLocated, Head, IsHeadRow}
use Rattle.field_judge.specs.Levels.{AreRows, IsNumbered}
use Rattle.field_judge.proofs.Finding.{not_there, tag_at}
use Rattle.field_judge.proofs.Rows.{after_numbered, not_owner, rest_numbered, zero_owns}
use Rattle.field_judge.proofs.RunLemmas.{no_run, same_run}
use Rattle.field_judge.proofs.SliceLemmas.{drop_got}

pub tags_are : (p : Plan) → tags p ≡ map head_tag (heads p)
tags_are done = refl
tags_are (single s rest) = ap (λ ts. s.tag ∷ ts) (tags_are rest)
tags_are (group g inner rest) = ap (λ ts. g.tag ∷ ts) (tags_are rest)

pub missing_first : (p : Plan) (parts : List Part) → missing_in p parts ≡ first (λ h. head_missing h (part_at (head_tag h) parts)) (heads p)
missing_first done parts = refl
missing_first (single s rest) parts = ap (λ o. or_else (head_missing (slot_head s) (part_at s.tag parts)) o) (missing_first rest parts)
missing_first (group g inner rest) parts = ap (λ o. or_else (head_missing (group_head g inner) (part_at g.tag parts)) o) (missing_first rest parts)

pub head_row : (levels : List BackLevel) (p : Plan) (rows : List BackRow) (k : ℕ) (h : Head) (r : BackRow) → IsNumbered p → AreRows levels p rows
    → slice_get (heads p) k ≡ Some h → slice_get rows k ≡ Some r → IsHeadRow levels h r
head_row levels done rows k h r numbered are at there = none_some at
head_row levels (single s rest) rows zero h r numbered are at there =
    subst (λ h. IsHeadRow levels h r) (some_is at) (subst (IsHeadRow levels (slot_head s)) (some_is (sym (ap (λ ws. slice_get ws 0) are.2) ∙ there)) are.3)
head_row levels (single s rest) rows (suc k) h r numbered are at there =
    head_row levels rest are.1 k h r (rest_numbered s rest numbered) are.4 at (sym (ap (λ ws. slice_get ws (suc k)) are.2) ∙ there)
head_row levels (group g inner rest) rows zero h r numbered are at there =
    subst (λ h. IsHeadRow levels h r) (some_is at) (subst (IsHeadRow levels (group_head g inner)) (some_is (sym (ap (λ ws. slice_get ws 0) are.4) ∙ there))
    (are.1, are.2, are.5, are.6, record { tags = are.7; rows = are.8 }, (after_numbered g inner rest numbered).0))
head_row levels (group g inner rest) rows (suc k) h r numbered are at there =
    head_row levels rest are.3 k h r (after_numbered g inner rest numbered).1 are.9 at (sym (ap (λ ws. slice_get ws (suc k)) are.4) ∙ there)

-- a part's tag is among the level's
pub head_in : (p : Plan) (k : ℕ) (h : Head) → slice_get (heads p) k ≡ Some h → is_in (head_tag h) (tags p) ≡ true
head_in done k h at = none_some at
head_in (single s rest) zero h at = or_left (s.tag == head_tag h) (is_in (head_tag h) (tags rest)) (eq-eqb s.tag (head_tag h) (ap head_tag (some_is at)))
head_in (single s rest) (suc k) h at = or_right (s.tag == head_tag h) (is_in (head_tag h) (tags rest)) (head_in rest k h at)
head_in (group g inner rest) zero h at = or_left (g.tag == head_tag h) (is_in (head_tag h) (tags rest)) (eq-eqb g.tag (head_tag h) (ap head_tag (some_is at)))
head_in (group g inner rest) (suc k) h at = or_right (g.tag == head_tag h) (is_in (head_tag h) (tags rest)) (head_in rest k h at)

first_alone : (tag k : ℕ) (rest : Plan) (h g : Head) → is_in tag (tags rest) ≡ false → tag ≡ head_tag h → slice_get (heads rest) k ≡ Some g → head_tag h ≡ head_tag g → zero ≡ suc k
first_alone tag k rest h g alone is at same = true_false (ap (λ n. is_in n (tags rest)) (is ∙ same) ∙ head_in rest k g at) alone

-- no two parts have one tag
pub one_place : (p : Plan) (j k : ℕ) (h g : Head) → IsPlaced p → slice_get (heads p) j ≡ Some h → slice_get (heads p) k ≡ Some g → head_tag h ≡ head_tag g → j ≡ k
one_place done j k h g placed a b same = none_some a
one_place (single s rest) zero zero h g placed a b same = refl
one_place (single s rest) zero (suc k) h g placed a b same = first_alone s.tag k rest h g placed.0 (ap head_tag (some_is a)) b same
one_place (single s rest) (suc j) zero h g placed a b same = sym (first_alone s.tag j rest g h placed.0 (ap head_tag (some_is b)) a (sym same))
one_place (single s rest) (suc j) (suc k) h g placed a b same = ap suc (one_place rest j k h g placed.1 a b same)
one_place (group r inner rest) zero zero h g placed a b same = refl
one_place (group r inner rest) zero (suc k) h g placed a b same = first_alone r.tag k rest h g placed.0 (ap head_tag (some_is a)) b same
one_place (group r inner rest) (suc j) zero h g placed a b same = sym (first_alone r.tag j rest g h placed.0 (ap head_tag (some_is b)) a (sym same))
one_place (group r inner rest) (suc j) (suc k) h g placed a b same = ap suc (one_place rest j k h g placed.2 a b same)

or_none : (b : Bool) → b || false ≡ b
or_none true = refl
or_none false = refl

-- what a part of a level owns
pub owns_as : (p : Plan) (k : ℕ) (h : Head) (tag : ℕ) → IsPlaced p → slice_get (heads p) k ≡ Some h → owns p (head_tag h) tag ≡ head_owns h 0 tag
owns_as done k h tag placed at = none_some at
owns_as (single s rest) zero h tag placed at =
    subst (λ h. owns rest (head_tag h) tag ≡ head_owns h 0 tag) (some_is at) (not_owner rest s.tag tag placed.0)
owns_as (single s rest) (suc k) h tag placed at = owns_as rest k h tag placed.1 at
owns_as (group g inner rest) zero h tag placed at =
    subst (λ h. owns (group g inner rest) (head_tag h) tag ≡ head_owns h 0 tag) (some_is at)
    (ap (λ b. (b && is_in tag g.owned) || owns rest g.tag tag) (same_self g.tag) ∙ ap (λ b. is_in tag g.owned || b) (not_owner rest g.tag tag placed.0) ∙ or_none (is_in tag g.owned))
owns_as (group g inner rest) (suc k) h tag placed at =
    ap (λ b. (b && is_in tag g.owned) || owns rest (head_tag h) tag) (apart (g.tag == head_tag h) refl) ∙ owns_as rest k h tag placed.2 at
  where
    apart : (b : Bool) → (g.tag == head_tag h) ≡ b → (g.tag == head_tag h) ≡ false
    apart false e = e
    apart true e = true_false (ap (λ n. is_in n (tags rest)) (eqb-true g.tag (head_tag h) e) ∙ head_in rest k h at) placed.0

-- the part at the place of a tag
pub head_at : (p : Plan) (tag k : ℕ) → place_of tag (tags p) ≡ Some k → (h : Head) × (slice_get (heads p) k ≡ Some h) × (head_tag h ≡ tag)
head_at p tag k at = mapped (heads p) k (ap (λ ts. slice_get ts k) (sym (tags_are p)) ∙ tag_at tag (tags p) k at)
  where
    mapped : (hs : List Head) (k : ℕ) → slice_get (map head_tag hs) k ≡ Some tag → (h : Head) × (slice_get hs k ≡ Some h) × (head_tag h ≡ tag)
    mapped [] k e = none_some e
    mapped (h ∷ hs) zero e = (h, refl, some_is e)
    mapped (h ∷ hs) (suc k) e = mapped hs k e

-- what is missing at a part
abbrev pub told_at : Plan → List AppField → Head → Option Refusal
told_at p fields h = head_missing h (part_at (head_tag h) (parts_of (owns p) (fields_of fields)))

-- ---- places

-- the first of two parts
abbrev pub or_part : Option Part → Option Part → Option Part
or_part None y = y
or_part (Some x) y = Some x

-- the places so far, and the fields that are left, have all parts
abbrev pub LocatesSoFar : Plan → List ℕ → List AppField → ℕ → Type 0
LocatesSoFar p places fields i = (k : ℕ) (h : Head) → slice_get (heads p) k ≡ Some h
    → or_part (located h fields (get_or places k 0)) (part_at (head_tag h) (parts_of (owns p) (fields_of (drop i fields)))) ≡ part_at (head_tag h) (parts_of (owns p) (fields_of fields))

pub unplaced : (n k : ℕ) → ◌≡◌ {A = ℕ} (get_or (replicate n 0) k 0) 0
unplaced zero k = refl
unplaced (suc n) zero = refl
unplaced (suc n) (suc k) = unplaced n k

pub none_located : (p : Plan) (n : ℕ) (fields : List AppField) → LocatesSoFar p (replicate n 0) fields 0
none_located p n fields k h at = ap (λ place. or_part (located h fields place) (part_at (head_tag h) (parts_of (owns p) (fields_of fields)))) (unplaced n k)

pub all_located : (p : Plan) (places : List ℕ) (fields : List AppField) (i : ℕ) → drop i fields ≡ [] → LocatesSoFar p places fields i → AreLocated p places fields
all_located p places fields i none so_far k h at =
    sym (alone (located h fields (get_or places k 0))) ∙ ap (λ fs. or_part (located h fields (get_or places k 0)) (part_at (head_tag h) (parts_of (owns p) (fields_of fs)))) (sym none) ∙ so_far k h at
  where
    alone : (o : Option Part) → or_part o None ≡ o
    alone None = refl
    alone (Some x) = refl

-- the part that begins with field i
abbrev part_here : Plan → List AppField → ℕ → AppField → Part
part_here p fields i f = part_with f.tag f.text.now (run_of (owns p) f.tag (fields_of (drop (i + 1) fields)))

parts_here : (p : Plan) (fields : List AppField) (i n : ℕ) (f : AppField) → IsNumbered p → slice_get fields i ≡ Some f
    → fields_of (drop n (drop (i + 1) fields)) ≡ rest_of (owns p) f.tag (fields_of (drop (i + 1) fields))
    → parts_of (owns p) (fields_of (drop i fields)) ≡ part_here p fields i f ∷ parts_of (owns p) (fields_of (drop n (drop (i + 1) fields)))
parts_here p fields i n f numbered at rest =
    ap (λ fs. parts_of (owns p) (fields_of fs)) (drop_got fields i f at)
    ∙ parts_step (owns p) (zero_owns p numbered) (field_of f) (fields_of (drop (i + 1) fields))
    ∙ ap (λ fs. part_here p fields i f ∷ parts_of (owns p) fs) (sym rest)

-- a field whose tag isn't a part's
passed : (p : Plan) (fields : List AppField) (i n place : ℕ) (f : AppField) (h : Head) → IsNumbered p → slice_get fields i ≡ Some f
    → fields_of (drop n (drop (i + 1) fields)) ≡ rest_of (owns p) f.tag (fields_of (drop (i + 1) fields)) → (f.tag == head_tag h) ≡ false
    → or_part (located h fields place) (part_at (head_tag h) (parts_of (owns p) (fields_of (drop n (drop (i + 1) fields)))))
    ≡ or_part (located h fields place) (part_at (head_tag h) (parts_of (owns p) (fields_of (drop i fields))))
passed p fields i n place f h numbered at rest other =
    ap (or_part (located h fields place))
    (sym (ap (part_at (head_tag h)) (parts_here p fields i n f numbered at rest)
    ∙ if_false (f.tag == head_tag h) (Some (part_here p fields i f)) (part_at (head_tag h) (parts_of (owns p) (fields_of (drop n (drop (i + 1) fields))))) other))

here : (p : Plan) (fields : List AppField) (i n place k : ℕ) (f : AppField) (h : Head) → IsNumbered p → slice_get fields i ≡ Some f
    → fields_of (drop n (drop (i + 1) fields)) ≡ rest_of (owns p) f.tag (fields_of (drop (i + 1) fields)) → slice_get (heads p) k ≡ Some h → head_tag h ≡ f.tag
    → or_part (located h fields (placed place (suc i))) (part_at (head_tag h) (parts_of (owns p) (fields_of (drop n (drop (i + 1) fields)))))
    ≡ or_part (located h fields place) (part_at (head_tag h) (parts_of (owns p) (fields_of (drop i fields))))
here p fields i n (suc j) k f h numbered at rest there tagged = refl
here p fields i n zero k f h numbered at rest there tagged =
    ap Some (ap (part_from h) (drop_got fields i f at) ∙ same)
    ∙ sym (ap (part_at (head_tag h)) (parts_here p fields i n f numbered at rest)
    ∙ if_true (f.tag == head_tag h) (Some (part_here p fields i f)) (part_at (head_tag h) (parts_of (owns p) (fields_of (drop n (drop (i + 1) fields))))) (eq-eqb f.tag (head_tag h) (sym tagged)))
  where
    same : part_with (head_tag h) f.text.now (run_of (head_owns h) 0 (fields_of (drop (i + 1) fields))) ≡ part_here p fields i f
    same =
        ap (part_with (head_tag h) f.text.now) (sym (same_run (owns p) (head_owns h) (head_tag h) 0 (λ tag. owns_as p k h tag numbered.placed there) (fields_of (drop (i + 1) fields))).0)
        ∙ ap (λ t. part_with t f.text.now (run_of (owns p) t (fields_of (drop (i + 1) fields)))) tagged

drop_more : {X : Type 0} (n i : ℕ) (xs : List X) → drop n (drop i xs) ≡ drop (i + n) xs
drop_more n zero xs = ap (λ k. drop k xs) (zeros n)
  where
    zeros : (n : ℕ) → n ≡ 0 + n
    zeros n = omega arith
drop_more n (suc i) [] = none n ∙ sym (none (suc i + n))
  where
    none : {X : Type 0} (k : ℕ) → ◌≡◌ {A = List X} (drop k []) []
    none zero = refl
    none (suc k) = refl
drop_more n (suc i) (x ∷ xs) = drop_more n i xs ∙ ap (λ k. drop k (x ∷ xs)) (next i n)
  where
    next : (i n : ℕ) → suc (i + n) ≡ suc i + n
    next i n = omega arith

pub locate_passed : (p : Plan) (places : List ℕ) (fields : List AppField) (i : ℕ) (f : AppField) → IsNumbered p → slice_get fields i ≡ Some f → place_of f.tag (tags p) ≡ None
    → LocatesSoFar p places fields i → LocatesSoFar p places fields (i + 1)
locate_passed p places fields i f numbered at none so_far k h there =
    let unknown = not_there f.tag (tags p) 0 none in
    let rest : fields_of (drop 0 (drop (i + 1) fields)) ≡ rest_of (owns p) f.tag (fields_of (drop (i + 1) fields))
    = sym (no_run (owns p) f.tag (λ tag. not_owner p f.tag tag unknown) (fields_of (drop (i + 1) fields))).1 in
    passed p fields i 0 (get_or places k 0) f h numbered at rest (other (f.tag == head_tag h) refl unknown) ∙ so_far k h there
  where
    other : (b : Bool) → (f.tag == head_tag h) ≡ b → is_in f.tag (tags p) ≡ false → (f.tag == head_tag h) ≡ false
    other false e unknown = e
    other true e unknown = true_false (ap (λ n. is_in n (tags p)) (eqb-true f.tag (head_tag h) e) ∙ head_in p k h there) unknown

pub locate_next : (p : Plan) (places others : List ℕ) (fields : List AppField) (i n k : ℕ) (f : AppField) → IsNumbered p → slice_get fields i ≡ Some f → place_of f.tag (tags p) ≡ Some k
    → fields_of (drop n (drop (i + 1) fields)) ≡ rest_of (owns p) f.tag (fields_of (drop (i + 1) fields))
    → get_or others k 0 ≡ placed (get_or places k 0) (suc i) → ((j : ℕ) → (j == k) ≡ false → get_or others j 0 ≡ get_or places j 0)
    → LocatesSoFar p places fields i → LocatesSoFar p others fields (i + 1 + n)
locate_next p places others fields i n k f numbered at place rest own same so_far j h there =
    ap (λ fs. or_part (located h fields (get_or others j 0)) (part_at (head_tag h) (parts_of (owns p) (fields_of fs)))) (sym (drop_more n (i + 1) fields))
    ∙ by_place (j == k) refl
  where
    own_head : (h : Head) × (slice_get (heads p) k ≡ Some h) × (head_tag h ≡ f.tag)
    own_head = head_at p f.tag k place

    by_place : (b : Bool) → (j == k) ≡ b
        → or_part (located h fields (get_or others j 0)) (part_at (head_tag h) (parts_of (owns p) (fields_of (drop n (drop (i + 1) fields))))) ≡ part_at (head_tag h) (parts_of (owns p) (fields_of fields))
    by_place true e =
        let is : j ≡ k = eqb-true j k e in
        let tagged : head_tag h ≡ f.tag = ap head_tag (some_is (sym there ∙ ap (slice_get (heads p)) is ∙ own_head.1)) ∙ own_head.2 in
        ap (λ place. or_part (located h fields place) (part_at (head_tag h) (parts_of (owns p) (fields_of (drop n (drop (i + 1) fields))))))
        (ap (λ m. get_or others m 0) is ∙ own ∙ ap (λ m. placed (get_or places m 0) (suc i)) (sym is))
        ∙ here p fields i n (get_or places j 0) j f h numbered at rest there tagged ∙ so_far j h there
    by_place false e =
        ap (λ place. or_part (located h fields place) (part_at (head_tag h) (parts_of (owns p) (fields_of (drop n (drop (i + 1) fields)))))) (same j e)
        ∙ passed p fields i n (get_or places j 0) f h numbered at rest (other (f.tag == head_tag h) refl) ∙ so_far j h there
      where
        other : (b : Bool) → (f.tag == head_tag h) ≡ b → (f.tag == head_tag h) ≡ false
        other false q = q
        other true q = true_false (eq-eqb j k (one_place p j k h own_head.0 numbered.placed there own_head.1 (sym (eqb-true f.tag (head_tag h) q) ∙ sym own_head.2))) e

-- ---- the parts one by one

pub heads_many : (p : Plan) → length (heads p) ≡ length (tags p)
heads_many done = refl
heads_many (single s rest) = ap suc (heads_many rest)
heads_many (group g inner rest) = ap suc (heads_many rest)

-- what is told of a part, and then of the later ones
pub heads_step : (p : Plan) (fields : List AppField) (i place : ℕ) (h : Head) (told : Option Refusal) → slice_get (heads p) i ≡ Some h
    → told ≡ head_missing h (located h fields place) → located h fields place ≡ part_at (head_tag h) (parts_of (owns p) (fields_of fields))
    → first (told_at p fields) (drop i (heads p)) ≡ or_else told (first (told_at p fields) (drop (i + 1) (heads p)))
heads_step p fields i place h told at is same =
    ap (first (told_at p fields)) (drop_got (heads p) i h at)
    ∙ ap (λ o. or_else o (first (told_at p fields) (drop (i + 1) (heads p)))) (sym (is ∙ ap (head_missing h) same))

pub placed_within : (place next most : ℕ) → place ≤ most → next ≤ most → placed place next ≤ most
placed_within zero next most a b = b
placed_within (suc j) next most a b = a

-- each place is kept within a bound
pub places_within : (places others : List ℕ) (k next most : ℕ) → get_or others k 0 ≡ placed (get_or places k 0) next → ((j : ℕ) → (j == k) ≡ false → get_or others j 0 ≡ get_or places j 0)
    → ((j : ℕ) → get_or places j 0 ≤ most) → next ≤ most → (j : ℕ) → get_or others j 0 ≤ most
places_within places others k next most own same all small j = elim (either (j == k)) [
  | inl t ↦ subst (λ n. n ≤ most) (sym (ap (λ m. get_or others m 0) (eqb-true j k t) ∙ own)) (placed_within (get_or places k 0) next most (all k) small)
  | inr f ↦ subst (λ n. n ≤ most) (sym (same j f)) (all j)
]

pub as_many_places : (n : ℕ) → length {A = ℕ} (replicate n 0) ≡ n
as_many_places zero = refl
as_many_places (suc n) = ap suc (as_many_places n)
