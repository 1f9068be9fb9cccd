-- The rows of a place go in front of those of the places after it.
use Rattle.std.proofs.Common.{◌≡◌, ℕ, ◌<◌, true, false, List, [], ◌∷◌, ◌++◌, length, Option, Some, None, is_some, refl, sym, ap, ◌∙◌, subst, arith, append_assoc}
use Rattle.std.specs.Prelude.{codes}
use Rattle.std.proofs.lemmas.Option.{same_Some}
use Rattle.sbe_types.specs.declared.kind.Leaf.{Leaf as LeafOf}
use Rattle.sbe_types.specs.declared.schema.Group.{Group, out-Group}
use Rattle.sbe_types.specs.declared.schema.Level.{Level}
use Rattle.sbe_wire.specs.Named.{Spot, spot_named}
use Rattle.reference_graph.specs.Expansion.{Structure, ended, plain, counted, structure_tags}
use Rattle.structure_rows.specs.declared.row.PlaceRow.{PlaceRow}
use Rattle.structure_rows.specs.Rows.{rows_of}
use Rattle.level_places.specs.Places.{FirstPlace, a_field, a_group}
use Rattle.bridge_rules.specs.Rules.{Rule}
use Rattle.bridge_rules.specs.Members.{and_then}
use Rattle.bridge_terms.specs.MessageFields.{length_in}
use Rattle.bridge_terms.specs.Parts.{TagLists}
use Rattle.bridge_terms.specs.Plans.{Plan, Slot, Repeat, group}
use Rattle.bridge_plan.specs.Mappings.{Mapping, delimiter_of}
use Rattle.bridge_plan.specs.Covers.{count_leaf, group_before, group_of, groups_in, level_in, or_slot, plan_of, repeat_before, repeat_of, slot_before, slot_of}
use Rattle.message_walk.specs.declared.plan.PlanRow.{PlanRow}
use Rattle.message_walk.specs.Rows.{AreRows}
use Rattle.plan_rows.specs.declared.found.Found.{Found as FoundRow}
use Rattle.plan_rows.specs.declared.found.Found.TheVariants as found
use Rattle.plan_rows.specs.Found.{found_rows, group_front, AreFront, AreGroupRows, Goes, IsFound}

module _ {R : Type 0} (follows : R → Rule → Type 0) (lists : TagLists) where
  -- ---- a field, or else data

  pub field_first : (a b : Option Slot) (r : PlanRow R) → IsFound follows lists a (found.Row r) → IsFound follows lists (or_slot a b) (found.Row r)
  field_first a b r is = (is.0, ap (λ o. or_slot o b) is.1, is.2, is.3)

  pub data_second : (a b : Option Slot) (f : FoundRow R) → a ≡ None → IsFound follows lists b f → IsFound follows lists (or_slot a b) f
  data_second a b f none is = subst (λ o. IsFound follows lists (or_slot o b) f) (sym none) is

  -- ---- fronts

  no_rows : (p : Plan) → Goes follows lists p p []
  no_rows p = record { front = λ others h. h }

  pub goes_on : (whole middle rest : Plan) (rows more : List (PlanRow R)) → Goes follows lists whole middle rows → Goes follows lists middle rest more →
      Goes follows lists whole rest (rows ++ more)
  goes_on whole middle rest rows more first second = record {
    front = λ others h. subst (AreRows follows lists whole) (sym (append_assoc rows more others)) (first.front (more ++ others) (second.front others h));
  }

  slot_none : (o : Option Slot) → o ≡ None → (p : Plan) → Goes follows lists (slot_before o p) p []
  slot_none o none p = subst (λ o. Goes follows lists (slot_before o p) p []) (sym none) (no_rows p)

  slot_some : (o : Option Slot) (r : PlanRow R) → IsFound follows lists o (found.Row r) → (p : Plan) → Goes follows lists (slot_before o p) p (r ∷ [])
  slot_some o r is p =
      subst (λ o. Goes follows lists (slot_before o p) p (r ∷ [])) (sym is.1) (record { front = λ others h. (r, others, refl, is.2, is.3, h) })

  -- the row of a field or data goes in front
  pub slot_front : (o : Option Slot) (f : FoundRow R) (rows : List (PlanRow R)) → IsFound follows lists o f → found_rows f ≡ Some rows → AreFront follows lists (slot_before o) rows
  slot_front o found.Nothing rows is h = λ p. subst (Goes follows lists (slot_before o p) p) (same_Some [] rows h) (slot_none o is p)
  slot_front o (found.Row r) rows is h = λ p. subst (Goes follows lists (slot_before o p) p) (same_Some (r ∷ []) rows h) (slot_some o r is p)
  slot_front o found.Unmade rows is h = λ p. cc

-- ---- groups

-- what a repeat says of its place
record IsRepeat (tag number : ℕ) (g : Repeat) : Type 0 where
  tagged : g.tag ≡ tag
  placed : g.place ≡ number

-- a group's repeat, by its delimiter and the type of its count
abbrev repeat_by : ℕ → ℕ → Structure → Group → Option ℕ → Option LeafOf → Option Repeat
repeat_by tag number inner g d c =
    and_then d (λ delimiter. and_then c (λ count. Some (record { tag = tag; level = level_in g; place = number; delimiter = delimiter; count = count; owned = structure_tags inner })))

repeat_some : (tag number : ℕ) (inner : Structure) (g : Group) → is_some (delimiter_of inner) ≡ true → is_some (count_leaf g) ≡ true →
    (r : Repeat) × (repeat_of tag number inner g ≡ Some r) × IsRepeat tag number r
repeat_some tag number inner g = by_both (delimiter_of inner) (count_leaf g)
  where
    by_both : (d : Option ℕ) (c : Option LeafOf) → is_some d ≡ true → is_some c ≡ true →
        (r : Repeat) × (repeat_by tag number inner g d c ≡ Some r)
        × IsRepeat tag number r
    by_both None c h k = cc
    by_both (Some d) None h k = cc
    by_both (Some d) (Some c) h k = (
      record { tag = tag; level = level_in g; place = number; delimiter = d; count = c; owned = structure_tags inner },
      refl,
      record { tagged = refl; placed = refl },
    )

no_delimiter : (tag number : ℕ) (inner : Structure) (g : Group) → is_some (delimiter_of inner) ≡ false → repeat_of tag number inner g ≡ None
no_delimiter tag number inner g = by_delimiter (delimiter_of inner)
  where
    by_delimiter : (d : Option ℕ) → is_some d ≡ false →
        repeat_by tag number inner g d (count_leaf g) ≡ None
    by_delimiter None h = refl
    by_delimiter (Some d) h = cc

no_count : (tag number : ℕ) (inner : Structure) (g : Group) → is_some (count_leaf g) ≡ false → repeat_of tag number inner g ≡ None
no_count tag number inner g = by_both (delimiter_of inner) (count_leaf g)
  where
    by_both : (d : Option ℕ) (c : Option LeafOf) → is_some c ≡ false →
        repeat_by tag number inner g d c ≡ None
    by_both None c h = refl
    by_both (Some d) None h = refl
    by_both (Some d) (Some c) h = cc

-- the dimension has a count where it has such a member that is a number
pub count_there : (g : Group) → is_some (count_leaf g) ≡ is_some (spot_named 0 (codes "numInGroup") (out-Group g).dim)
count_there g = by_spot (spot_named 0 (codes "numInGroup") (out-Group g).dim)
  where
    by_spot : (o : Option Spot) → is_some (and_then o (λ spot. Some spot.leaf)) ≡ is_some o
    by_spot None = refl
    by_spot (Some s) = refl

module _ {R : Type 0} (follows : R → Rule → Type 0) (m : Mapping) (tag : ℕ) (inner : Structure) (level : Level) where
  -- a level without the group has no row of it
  pub no_group : group_of tag 0 (groups_in level) ≡ None → AreFront follows m.lists (group_front m tag inner level) []
  no_group none = λ p.
      subst (λ o. Goes follows m.lists (group_before o tag inner (λ below. plan_of m inner below) p) p []) (sym none) (no_rows follows m.lists p)

  -- nor has one whose group isn't a repeat
  no_repeat : (number : ℕ) (g : Group) → group_of tag 0 (groups_in level) ≡ Some (number, g) → repeat_of tag number inner g ≡ None →
      AreFront follows m.lists (group_front m tag inner level) []
  no_repeat number g there none = λ p.
      subst (λ o. Goes follows m.lists (group_before o tag inner (λ below. plan_of m inner below) p) p []) (sym there)
      (subst (λ o. Goes follows m.lists (repeat_before o (plan_of m inner (level_in g)) p) p []) (sym none) (no_rows follows m.lists p))

  pub undelimited : (number : ℕ) (g : Group) → group_of tag 0 (groups_in level) ≡ Some (number, g) → is_some (delimiter_of inner) ≡ false →
      AreFront follows m.lists (group_front m tag inner level) []
  undelimited number g there none = no_repeat number g there (no_delimiter tag number inner g none)

  pub uncounted : (number : ℕ) (g : Group) → group_of tag 0 (groups_in level) ≡ Some (number, g) → is_some (count_leaf g) ≡ false →
      AreFront follows m.lists (group_front m tag inner level) []
  uncounted number g there none = no_repeat number g there (no_count tag number inner g none)

  group_rows_front : (number : ℕ) (g : Repeat) (entries rows : List (PlanRow R)) (inside p : Plan) → IsRepeat tag number g → AreGroupRows m.lists tag number entries rows →
      AreRows follows m.lists inside entries → Goes follows m.lists (group g inside p) p rows
  group_rows_front number g entries rows inside p repeat own deeper = record {
    front = λ others h. (
      own.own,
      entries,
      others,
      ap (λ rs. rs ++ others) own.whole,
      own.tagged ∙ sym repeat.tagged,
      own.numbered ∙ sym repeat.placed,
      ap (λ t. length_in t m.lists.lengths) repeat.tagged ∙ own.unpaired,
      own.size,
      deeper,
      h,
    );
  }

  -- the row of a group and those of its entries go in front
  pub group_there : (number : ℕ) (g : Group) (entries rows : List (PlanRow R)) → group_of tag 0 (groups_in level) ≡ Some (number, g) →
      is_some (delimiter_of inner) ≡ true → is_some (count_leaf g) ≡ true → AreGroupRows m.lists tag number entries rows → AreRows follows m.lists (plan_of m inner (level_in g)) entries →
      AreFront follows m.lists (group_front m tag inner level) rows
  group_there number g entries rows there delimited counts own deeper = λ p.
      let repeat = repeat_some tag number inner g delimited counts in
      subst (λ o. Goes follows m.lists (group_before o tag inner (λ below. plan_of m inner below) p) p rows) (sym there)
      (subst (λ o. Goes follows m.lists (repeat_before o (plan_of m inner (level_in g)) p) p rows) (sym repeat.1)
      (group_rows_front number repeat.0 entries rows (plan_of m inner (level_in g)) p repeat.2 own deeper))

-- ---- the first place of a structure

module _ {R : Type 0} (follows : R → Rule → Type 0) (m : Mapping) (s : Structure) (level : Level) (tag : ℕ) (after : List PlaceRow) (rows : List (PlanRow R)) where
  -- the places after the first one, and the rows that go in front of theirs
  abbrev pub Leads : Type 0
  Leads = (more : Structure) × (after ≡ rows_of more) × Goes follows m.lists (plan_of m s level) (plan_of m more level) rows

  pub leads_slot : FirstPlace s tag None after → AreFront follows m.lists (slot_before (slot_of m tag level)) rows → Leads
  leads_slot (a_field more is none rest) front =
      (more, rest, subst (λ t. Goes follows m.lists (plan_of m t level) (plan_of m more level) rows) (sym is) (front (plan_of m more level)))
  leads_slot (a_group inner more is some rest) front = cc

  pub leads_group : (own : List PlaceRow) → FirstPlace s tag (Some own) after →
      ((inner : Structure) → own ≡ rows_of inner → AreFront follows m.lists (group_front m tag inner level) rows) → Leads
  leads_group own (a_field more is none rest) front = cc
  leads_group own (a_group inner more is some rest) front = (
    more,
    rest,
    subst (λ t. Goes follows m.lists (plan_of m t level) (plan_of m more level) rows) (sym is) (front inner (same_Some own (rows_of inner) some) (plan_of m more level)),
  )

-- ---- the end

no_more : {R : Type 0} (xs : List R) → xs ++ [] ≡ xs
no_more [] = refl
no_more (x ∷ xs) = ap (λ zs. x ∷ zs) (no_more xs)

-- where no places are left, all rows are there
pub all_rows : {R : Type 0} (follows : R → Rule → Type 0) (m : Mapping) (level : Level) (whole : Plan) (left : Structure) (rows : List (PlanRow R)) →
    length (rows_of left) < 1 → Goes follows m.lists whole (plan_of m left level) rows → AreRows follows m.lists whole rows
all_rows follows m level whole ended rows h goes = subst (AreRows follows m.lists whole) (no_more rows) (goes.front [] refl)
all_rows follows m level whole (plain tag more) rows h goes = absurd (omega arith)
all_rows follows m level whole (counted tag inner more) rows h goes = absurd (omega arith)
