-- The row that has a tag.
use Rattle.std.proofs.Common.{◌≡◌, inl, inr, ℕ, suc, Bool, true, false, List, [], ◌∷◌, ◌++◌, slice_get, length, Some, refl, sym, ap, ◌∙◌, subst, ◌+◌, arith}
use Rattle.std.specs.Prelude.{◌==◌, ◌||◌, ◌&&◌, nat_eq}
use Rattle.std.proofs.lemmas.Bool.{eqb-true, eq-eqb}
use Rattle.fix_values.specs.Numerals.{integer_of}
use Rattle.id_tables.specs.Places.{place_by, place_of}
use Rattle.bridge_rules.specs.Values.{value_by}
use Rattle.bridge_rules.proofs.BoolLemmas.{either, or_false, none_of, same_self, if_true, if_false}
use Rattle.bridge_rules.proofs.OptionLemmas.{some_is, none_some}
use Rattle.bridge_terms.specs.Parts.{Part}
use Rattle.bridge_terms.specs.Plans.{Plan, Repeat, Slot, done, single, group, all_tags, is_in, owns, tags}
use Rattle.bridge_terms.specs.WayBack.{count_read, group_wrong, text_wrong, unknown, wrong_at}
use Rattle.field_judge.specs.declared.level.BackGroup.{BackGroup}
use Rattle.field_judge.specs.declared.level.BackLevel.{BackLevel}
use Rattle.field_judge.specs.declared.level.BackRow.{BackRow}
use Rattle.field_judge.specs.Levels.{piece_wrong, AreRows, IsGroupRow, IsLevel, IsNumbered, IsRowOf, IsSlotRow, of_slot, of_group}
use Rattle.field_judge.proofs.Finding.{eqb_turned}

-- a tag that no part of the level has owns nothing
pub not_owner : (p : Plan) (owner tag : ℕ) → is_in owner (tags p) ≡ false → owns p owner tag ≡ false
not_owner done owner tag h = refl
not_owner (single s rest) owner tag h = not_owner rest owner tag (or_false (s.tag == owner) (is_in owner (tags rest)) h).1
not_owner (group g inner rest) owner tag h =
    let parts = or_false (g.tag == owner) (is_in owner (tags rest)) h in
    none_of ((g.tag == owner) && is_in tag g.owned) (owns rest owner tag) (ap (λ b. b && is_in tag g.owned) parts.0) (not_owner rest owner tag parts.1)

in_both : (tag : ℕ) (xs ys : List ℕ) → is_in tag (xs ++ ys) ≡ false → (is_in tag xs ≡ false) × (is_in tag ys ≡ false)
in_both tag [] ys h = (refl, h)
in_both tag (x ∷ xs) ys h =
    let parts = or_false (x == tag) (is_in tag (xs ++ ys)) h in
    let more = in_both tag xs ys parts.1 in
    (none_of (x == tag) (is_in tag xs) parts.0 more.0, more.1)

-- a level's tags are some of all
all_cover : (p : Plan) (tag : ℕ) → is_in tag (all_tags p) ≡ false → is_in tag (tags p) ≡ false
all_cover done tag h = refl
all_cover (single s rest) tag h =
    let parts = or_false (s.tag == tag) (is_in tag (all_tags rest)) h in
    none_of (s.tag == tag) (is_in tag (tags rest)) parts.0 (all_cover rest tag parts.1)
all_cover (group g inner rest) tag h =
    let parts = or_false (g.tag == tag) (is_in tag (all_tags inner ++ all_tags rest)) h in
    none_of (g.tag == tag) (is_in tag (tags rest)) parts.0 (all_cover rest tag (in_both tag (all_tags inner) (all_tags rest) parts.1).1)

-- 0 owns nothing
pub zero_owns : (p : Plan) → IsNumbered p → (tag : ℕ) → owns p 0 tag ≡ false
zero_owns p is tag = not_owner p 0 tag (all_cover p 0 is.numbered)

pub rest_numbered : (s : Slot) (rest : Plan) → IsNumbered (single s rest) → IsNumbered rest
rest_numbered s rest is = record { placed = is.placed.1; numbered = (or_false (s.tag == 0) (is_in 0 (all_tags rest)) is.numbered).1 }

pub after_numbered : (g : Repeat) (inner rest : Plan) → IsNumbered (group g inner rest) → IsNumbered inner × IsNumbered rest
after_numbered g inner rest is =
    let both = in_both 0 (all_tags inner) (all_tags rest) (or_false (g.tag == 0) (is_in 0 (all_tags inner ++ all_tags rest)) is.numbered).1 in
    (record { placed = is.placed.1; numbered = both.0 }, record { placed = is.placed.2; numbered = both.1 })

-- ---- the row at the place of a tag

-- the row of the part with a tag, at its place among rows
pub record IsFound (levels : List BackLevel) (p : Plan) (rows : List BackRow) (tag k i : ℕ) : Type 0 where
  pub place : ℕ
  pub is : k ≡ i + place
  pub row : BackRow
  pub there : slice_get rows place ≡ Some row
  pub tagged : row.tag ≡ tag
  pub found : IsRowOf levels p row

same_test : (a b c : ℕ) (t : Bool) → b ≡ c → (a == c) ≡ t → (a == b) ≡ t
same_test a b c t same h = ap (λ n. a == n) same ∙ h

-- what is found among the later parts is found among all
past_slot : (levels : List BackLevel) (s : Slot) (rest : Plan) (r : BackRow) → (s.tag == r.tag) ≡ false → IsRowOf levels rest r → IsRowOf levels (single s rest) r
past_slot levels s rest r other (of_slot t is wrong owned) = of_slot t is
    (λ x same. if_false (s.tag == x.tag) (text_wrong x.tag (value_by s.rule x.text)) (wrong_at rest x) (same_test s.tag x.tag r.tag false same other) ∙ wrong x same)
    owned
past_slot levels s rest r other (of_group g inner b own is there level numbered wrong owned) = of_group g inner b own is there level numbered
    (λ x same. if_false (s.tag == x.tag) (text_wrong x.tag (value_by s.rule x.text)) (wrong_at rest x) (same_test s.tag x.tag r.tag false same other) ∙ wrong x same)
    owned

-- the same after a group
other_group : (g : Repeat) (inner rest : Plan) (x : Part) (tag : ℕ) → (g.tag == tag) ≡ false → x.tag ≡ tag → wrong_at (group g inner rest) x ≡ wrong_at rest x
other_group g inner rest x tag other same =
    if_false (g.tag == x.tag) (group_wrong g (piece_wrong inner) x (count_read g.count (integer_of x.text))) (wrong_at rest x) (same_test g.tag x.tag tag false same other)

other_owner : (g : Repeat) (inner rest : Plan) (owner tag : ℕ) → (g.tag == owner) ≡ false → owns (group g inner rest) owner tag ≡ owns rest owner tag
other_owner g inner rest owner tag other = ap (λ b. (b && is_in tag g.owned) || owns rest owner tag) other

past_group : (levels : List BackLevel) (h : Repeat) (deep rest : Plan) (r : BackRow) → (h.tag == r.tag) ≡ false → IsRowOf levels rest r → IsRowOf levels (group h deep rest) r
past_group levels h deep rest r other (of_slot t is wrong owned) = of_slot t is
    (λ x same. other_group h deep rest x r.tag other same ∙ wrong x same)
    (λ tag. other_owner h deep rest r.tag tag other ∙ owned tag)
past_group levels h deep rest r other (of_group g inner b own is there level numbered wrong owned) = of_group g inner b own is there level numbered
    (λ x same. other_group h deep rest x r.tag other same ∙ wrong x same)
    (λ tag. other_owner h deep rest r.tag tag other ∙ owned tag)

zeros : (i k : ℕ) → i ≡ k → k ≡ i + 0
zeros i k h = omega (arith, h)

next : (i j k : ℕ) → k ≡ i + 1 + j → k ≡ i + suc j
next i j k h = omega (arith, h)

slot_first : (levels : List BackLevel) (s : Slot) (rest : Plan) (r : BackRow) → IsNumbered (single s rest) → IsSlotRow s r → IsRowOf levels (single s rest) r
slot_first levels s rest r numbered is = of_slot s is
    (λ x same. if_true (s.tag == x.tag) (text_wrong x.tag (value_by s.rule x.text)) (wrong_at rest x) (eq-eqb s.tag x.tag (sym (same ∙ is.tag))))
    (λ tag. ap (λ n. owns rest n tag) is.tag ∙ not_owner rest s.tag tag numbered.placed.0)

group_first : (levels : List BackLevel) (g : Repeat) (inner rest : Plan) (r : BackRow) (b : BackGroup) (own : BackLevel) → IsNumbered (group g inner rest) → IsGroupRow g b r
    → slice_get levels b.level ≡ Some own → IsLevel levels inner own → IsRowOf levels (group g inner rest) r
group_first levels g inner rest r b own numbered is there level = of_group g inner b own is there level (after_numbered g inner rest numbered).0
    (λ x same. if_true (g.tag == x.tag) (group_wrong g (piece_wrong inner) x (count_read g.count (integer_of x.text))) (wrong_at rest x) (eq-eqb g.tag x.tag (sym (same ∙ is.tag))))
    (λ tag. ap (λ n. owns (group g inner rest) n tag) is.tag
    ∙ ap (λ b. (b && is_in tag g.owned) || owns rest g.tag tag) (same_self g.tag)
    ∙ ap (λ b. is_in tag g.owned || b) (not_owner rest g.tag tag numbered.placed.0)
    ∙ or_none (is_in tag g.owned))
  where
    or_none : (b : Bool) → b || false ≡ b
    or_none true = refl
    or_none false = refl

later : (levels : List BackLevel) (p rest : Plan) (rows : List BackRow) (r : BackRow) (others : List BackRow) (tag i k : ℕ) → rows ≡ r ∷ others
    → ((w : BackRow) → w.tag ≡ tag → IsRowOf levels rest w → IsRowOf levels p w) → IsFound levels rest others tag k (i + 1) → IsFound levels p rows tag k i
later levels p rest rows r others tag i k split past found = record {
  place = suc found.place;
  is = next i found.place k found.is;
  row = found.row;
  there = ap (λ ws. slice_get ws (suc found.place)) split ∙ found.there;
  tagged = found.tagged;
  found = past found.row found.tagged found.found;
}

pub found_at : (levels : List BackLevel) (p : Plan) (rows : List BackRow) (tag i k : ℕ) → IsNumbered p → AreRows levels p rows → place_by (nat_eq tag) i (tags p) ≡ Some k → IsFound levels p rows tag k i
found_at levels done rows tag i k numbered are h = none_some h
found_at levels (single s rest) rows tag i k numbered are h = elim (either (nat_eq tag s.tag)) [
  | inl t ↦ record {
    place = 0;
    is = zeros i k (some_is (sym (if_true (nat_eq tag s.tag) (Some i) (place_by (nat_eq tag) (i + 1) (tags rest)) t) ∙ h));
    row = are.0;
    there = ap (λ ws. slice_get ws 0) are.2;
    tagged = are.3.tag ∙ sym (eqb-true tag s.tag t);
    found = slot_first levels s rest are.0 numbered are.3;
  }
  | inr f ↦ later levels (single s rest) rest rows are.0 are.1 tag i k are.2
      (λ w tagged found. past_slot levels s rest w (same_test s.tag w.tag tag false tagged (eqb_turned tag s.tag false f)) found)
      (found_at levels rest are.1 tag (i + 1) k (rest_numbered s rest numbered) are.4 (sym (if_false (nat_eq tag s.tag) (Some i) (place_by (nat_eq tag) (i + 1) (tags rest)) f) ∙ h))
]
found_at levels (group g inner rest) rows tag i k numbered are h = elim (either (nat_eq tag g.tag)) [
  | inl t ↦ record {
    place = 0;
    is = zeros i k (some_is (sym (if_true (nat_eq tag g.tag) (Some i) (place_by (nat_eq tag) (i + 1) (tags rest)) t) ∙ h));
    row = are.0;
    there = ap (λ ws. slice_get ws 0) are.4;
    tagged = are.5.tag ∙ sym (eqb-true tag g.tag t);
    found = group_first levels g inner rest are.0 are.1 are.2 numbered are.5 are.6 (record { tags = are.7; rows = are.8 });
  }
  | inr f ↦ later levels (group g inner rest) rest rows are.0 are.3 tag i k are.4
      (λ w tagged found. past_group levels g inner rest w (same_test g.tag w.tag tag false tagged (eqb_turned tag g.tag false f)) found)
      (found_at levels rest are.3 tag (i + 1) k (after_numbered g inner rest numbered).1 are.9 (sym (if_false (nat_eq tag g.tag) (Some i) (place_by (nat_eq tag) (i + 1) (tags rest)) f) ∙ h))
]

-- the row at the place that a level has for a tag
pub row_found : (levels : List BackLevel) (p : Plan) (rows : List BackRow) (tag k : ℕ) (r : BackRow) → IsNumbered p → AreRows levels p rows → place_of tag (tags p) ≡ Some k
    → slice_get rows k ≡ Some r → (r.tag ≡ tag) × IsRowOf levels p r
row_found levels p rows tag k r numbered are h there =
    let at = found_at levels p rows tag 0 k numbered are h in
    let same : at.row ≡ r = some_is (sym at.there ∙ sym (ap (slice_get rows) (at.is ∙ none at.place)) ∙ there) in
    (ap (λ w. w.tag) (sym same) ∙ at.tagged, subst (IsRowOf levels p) same at.found)
  where
    none : (n : ℕ) → 0 + n ≡ n
    none n = omega arith

-- a tag without a place is unknown
pub wrong_unknown : (p : Plan) (x : Part) → is_in x.tag (tags p) ≡ false → wrong_at p x ≡ Some (unknown x.tag)
wrong_unknown done x h = refl
wrong_unknown (single s rest) x h =
    let parts = or_false (s.tag == x.tag) (is_in x.tag (tags rest)) h in
    if_false (s.tag == x.tag) (text_wrong x.tag (value_by s.rule x.text)) (wrong_at rest x) parts.0 ∙ wrong_unknown rest x parts.1
wrong_unknown (group g inner rest) x h =
    let parts = or_false (g.tag == x.tag) (is_in x.tag (tags rest)) h in
    other_group g inner rest x x.tag parts.0 refl ∙ wrong_unknown rest x parts.1

-- there are as many rows as tags
pub as_many : (levels : List BackLevel) (p : Plan) (rows : List BackRow) → AreRows levels p rows → length (tags p) ≡ length rows
as_many levels done rows are = ap length (sym are)
as_many levels (single s rest) rows are = ap suc (as_many levels rest are.1 are.4) ∙ ap length (sym are.2)
as_many levels (group g inner rest) rows are = ap suc (as_many levels rest are.3 are.9) ∙ ap length (sym are.4)
