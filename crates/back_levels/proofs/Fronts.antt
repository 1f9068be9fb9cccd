-- The row of a place precedes those of the places after it.
use Rattle.std.proofs.Common.{◌≡◌, ◌<◌, ℕ, zero, suc, true, false, map, List, [], ◌∷◌, ◌++◌, length, slice_get, Option, Some, None, Result, Ok, Err, is_some, refl, sym, ap, ◌∙◌, subst, arith, append_assoc}
use Rattle.std.specs.Prelude.{OnOk}
use Rattle.std.proofs.lemmas.Option.{same_Some}
use Rattle.sbe_types.specs.declared.kind.Leaf.{Leaf as LeafOf}
use Rattle.sbe_types.specs.declared.schema.Group.{Group}
use Rattle.sbe_types.specs.declared.schema.Level.{Level}
use Rattle.reference_graph.specs.Expansion.{Structure, ended, plain, counted, structure_tags}
use Rattle.structure_rows.specs.declared.row.PlaceRow.{PlaceRow}
use Rattle.structure_rows.specs.Rows.{rows_of}
use Rattle.level_places.specs.Places.{FirstPlace, a_field, a_group}
use Rattle.bridge_rules.specs.Members.{and_then}
use Rattle.bridge_terms.specs.Plans.{Plan, Repeat, Slot, done, single, group, tags}
use Rattle.bridge_plan.specs.Mappings.{Mapping, delimiter_of}
use Rattle.bridge_plan.specs.Covers.{count_leaf, group_before, group_of, groups_in, level_in, or_slot, plan_of, repeat_before, repeat_of, slot_before, slot_of}
use Rattle.plan_rows.specs.Found.{group_front}
use Rattle.field_judge.specs.declared.level.BackGroup.{BackGroup}
use Rattle.field_judge.specs.declared.level.BackLevel.{BackLevel}
use Rattle.field_judge.specs.declared.level.BackPart.TheVariants as part
use Rattle.field_judge.specs.declared.level.BackRow.{BackRow}
use Rattle.field_judge.specs.Levels.{AreRows, IsGroupRow, IsLevel}
use Rattle.back_levels.specs.declared.found.Found.{Found as FoundRow}
use Rattle.back_levels.specs.declared.found.Found.TheVariants as found
use Rattle.back_levels.specs.Found.{AreFront, AreKept, Goes, GoesFound, IsFound}

-- ---- levels

pub kept_all : (levels : List BackLevel) → AreKept levels levels
kept_all levels = λ i own h. h

pub on_ok_kept : {X E : Type 0} (r : Result X E) (levels : List BackLevel) → OnOk r (AreKept levels levels)
on_ok_kept (Ok x) levels = kept_all levels
on_ok_kept (Err e) levels = tt

pub kept_on : (levels more most : List BackLevel) → AreKept levels more → AreKept more most → AreKept levels most
kept_on levels more most a b = λ i own h. b i own (a i own h)

-- a level that is added after others has their number
pub kept_more : (levels : List BackLevel) (own : BackLevel) → AreKept levels (levels ++ own ∷ [])
kept_more [] own i x h = cc
kept_more (l ∷ ls) own zero x h = h
kept_more (l ∷ ls) own (suc i) x h = kept_more ls own i x h

pub at_end : (levels : List BackLevel) (own : BackLevel) → slice_get (levels ++ own ∷ []) (length levels) ≡ Some own
at_end [] own = refl
at_end (l ∷ ls) own = at_end ls own

-- rows are those of a plan, whatever levels are added
pub rows_kept : (levels more : List BackLevel) → AreKept levels more → (p : Plan) (rows : List BackRow) → AreRows levels p rows → AreRows more p rows
rows_kept levels more kept done rows are = are
rows_kept levels more kept (single s rest) rows are = (are.0, are.1, are.2, are.3, rows_kept levels more kept rest are.1 are.4)
rows_kept levels more kept (group g inner rest) rows are = (
  are.0,
  are.1,
  are.2,
  are.3,
  are.4,
  are.5,
  kept are.1.level are.2 are.6,
  are.7,
  rows_kept levels more kept inner are.2.rows are.8,
  rows_kept levels more kept rest are.3 are.9,
)

-- the tags of a level's rows are the plan's
pub row_tags : (levels : List BackLevel) (p : Plan) (rows : List BackRow) → AreRows levels p rows → map (λ (r : BackRow). r.tag) rows ≡ tags p
row_tags levels done rows are = ap (map (λ (r : BackRow). r.tag)) are
row_tags levels (single s rest) rows are =
    ap (map (λ (r : BackRow). r.tag)) are.2 ∙ ap (λ n. n ∷ map (λ (r : BackRow). r.tag) are.1) are.3.tag ∙ ap (λ ts. s.tag ∷ ts) (row_tags levels rest are.1 are.4)
row_tags levels (group g inner rest) rows are =
    ap (map (λ (r : BackRow). r.tag)) are.4 ∙ ap (λ n. n ∷ map (λ (r : BackRow). r.tag) are.3) are.5.tag ∙ ap (λ ts. g.tag ∷ ts) (row_tags levels rest are.3 are.9)

-- ---- fronts

pub no_rows : (levels : List BackLevel) (p : Plan) → Goes levels p p []
no_rows levels p = record { front = λ more kept others h. h }

pub goes_on : (levels more : List BackLevel) (whole middle rest : Plan) (rows others : List BackRow) → AreKept levels more
    → Goes levels whole middle rows → Goes more middle rest others → Goes more whole rest (rows ++ others)
goes_on levels more whole middle rest rows others kept first second = record {
  front = λ most above last h.
      subst (AreRows most whole) (sym (append_assoc rows others last))
      (first.front most (kept_on levels more most kept above) (others ++ last) (second.front most above last h));
}

-- the row of a field or data comes first
pub slot_front : (levels : List BackLevel) (o : Option Slot) (f : FoundRow) → IsFound o f → AreFront levels (slot_before o) f
slot_front levels o found.Nothing is = λ p made. subst (λ o. Goes levels (slot_before o p) p []) (sym is) (no_rows levels p)
slot_front levels o (found.Row r) is = λ p made.
    subst (λ o. Goes levels (slot_before o p) p (r ∷ [])) (sym is.1) (record { front = λ more kept others h. (r, others, refl, is.2, h) })
slot_front levels o found.Unmade is = λ p made. cc

-- a field, or else data
pub field_first : (a b : Option Slot) (r : BackRow) → IsFound a (found.Row r) → IsFound (or_slot a b) (found.Row r)
field_first a b r is = (is.0, ap (λ o. or_slot o b) is.1, is.2)

pub data_second : (a b : Option Slot) (f : FoundRow) → a ≡ None → IsFound b f → IsFound (or_slot a b) f
data_second a b f none is = subst (λ o. IsFound (or_slot o b) f) (sym none) is

-- ---- groups

-- a level without a repeat of the group has no row of it
pub no_group : (levels : List BackLevel) (m : Mapping) (tag : ℕ) (inner : Structure) (level : Level) → group_of tag 0 (groups_in level) ≡ None
    → AreFront levels (group_front m tag inner level) found.Nothing
no_group levels m tag inner level none = λ p made.
    subst (λ o. Goes levels (group_before o tag inner (λ below. plan_of m inner below) p) p []) (sym none) (no_rows levels p)

pub no_repeat : (levels : List BackLevel) (m : Mapping) (tag : ℕ) (inner : Structure) (level : Level) (number : ℕ) (g : Group)
    → group_of tag 0 (groups_in level) ≡ Some (number, g) → repeat_of tag number inner g ≡ None → AreFront levels (group_front m tag inner level) found.Nothing
no_repeat levels m tag inner level number g there none = λ p made.
    subst (λ o. Goes levels (group_before o tag inner (λ below. plan_of m inner below) p) p []) (sym there)
    (subst (λ o. Goes levels (repeat_before o (plan_of m inner (level_in g)) p) p []) (sym none) (no_rows levels p))

pub no_delimiter : (tag number : ℕ) (inner : Structure) (g : Group) → delimiter_of inner ≡ None → repeat_of tag number inner g ≡ None
no_delimiter tag number inner g none =
    ap (λ d. and_then d (λ delimiter. and_then (count_leaf g) (λ count.
    Some (record { tag = tag; level = level_in g; place = number; delimiter = delimiter; count = count; owned = structure_tags inner })))) none

pub no_count : (tag number d : ℕ) (inner : Structure) (g : Group) → delimiter_of inner ≡ Some d → count_leaf g ≡ None → repeat_of tag number inner g ≡ None
no_count tag number d inner g begins none =
    ap (λ d. and_then d (λ delimiter. and_then (count_leaf g) (λ count.
    Some (record { tag = tag; level = level_in g; place = number; delimiter = delimiter; count = count; owned = structure_tags inner })))) begins
    ∙ ap (λ c. and_then c (λ count. Some (record { tag = tag; level = level_in g; place = number; delimiter = d; count = count; owned = structure_tags inner }))) none

-- the repeat of a group with this delimiter and count
abbrev made_repeat : ℕ → ℕ → ℕ → Structure → Group → LeafOf → Repeat
made_repeat tag number d inner g leaf = record { tag = tag; level = level_in g; place = number; delimiter = d; count = leaf; owned = structure_tags inner }

repeat_is : (tag number d : ℕ) (inner : Structure) (g : Group) (leaf : LeafOf) → delimiter_of inner ≡ Some d → count_leaf g ≡ Some leaf
    → repeat_of tag number inner g ≡ Some (made_repeat tag number d inner g leaf)
repeat_is tag number d inner g leaf begins counts =
    ap (λ d. and_then d (λ delimiter. and_then (count_leaf g) (λ count.
    Some (record { tag = tag; level = level_in g; place = number; delimiter = delimiter; count = count; owned = structure_tags inner })))) begins
    ∙ ap (λ c. and_then c (λ count. Some (record { tag = tag; level = level_in g; place = number; delimiter = d; count = count; owned = structure_tags inner }))) counts

-- the row of a group comes first
pub group_there : (levels : List BackLevel) (m : Mapping) (tag : ℕ) (inner : Structure) (level : Level) (number d : ℕ) (g : Group) (leaf : LeafOf) (b : BackGroup) (own : BackLevel)
    → group_of tag 0 (groups_in level) ≡ Some (number, g) → delimiter_of inner ≡ Some d → count_leaf g ≡ Some leaf
    → b.delimiter ≡ d → b.count ≡ leaf → b.owned ≡ structure_tags inner → slice_get levels b.level ≡ Some own
    → IsLevel levels (plan_of m inner (level_in g)) own
    → AreFront levels (group_front m tag inner level) (found.Row (record { tag = tag; part = part.Group b }))
group_there levels m tag inner level number d g leaf b own there begins counts delimiter count owned at is = λ p fine.
    let r : BackRow = record { tag = tag; part = part.Group b } in
    let made = made_repeat tag number d inner g leaf in
    let inside = plan_of m inner (level_in g) in
    subst (λ o. Goes levels (group_before o tag inner (λ below. plan_of m inner below) p) p (r ∷ [])) (sym there)
    (subst (λ o. Goes levels (repeat_before o inside p) p (r ∷ [])) (sym (repeat_is tag number d inner g leaf begins counts))
    (record {
      front = λ more kept others h. (
        r,
        b,
        own,
        others,
        refl,
        record { tag = refl; is = refl; delimiter = delimiter; count = count; owned = owned },
        kept b.level own at,
        is.tags,
        rows_kept levels more kept inside own.rows is.rows,
        h,
      );
    }))

-- ---- the first place of a structure

-- the places after the first one, and what goes in front of their rows
abbrev pub Leads : List BackLevel → Mapping → Structure → Level → List PlaceRow → FoundRow → Type 0
Leads levels m s level after f = (more : Structure) × (after ≡ rows_of more) × GoesFound levels (plan_of m s level) (plan_of m more level) f

pub leads_slot : (levels : List BackLevel) (m : Mapping) (s : Structure) (level : Level) (tag : ℕ) (after : List PlaceRow) (f : FoundRow) → FirstPlace s tag None after
    → AreFront levels (slot_before (slot_of m tag level)) f → Leads levels m s level after f
leads_slot levels m s level tag after f (a_field more is none rest) front =
    (more, rest, subst (λ t. GoesFound levels (plan_of m t level) (plan_of m more level) f) (sym is) (front (plan_of m more level)))
leads_slot levels m s level tag after f (a_group inner more is some rest) front = cc

pub leads_group : (levels : List BackLevel) (m : Mapping) (s : Structure) (level : Level) (tag : ℕ) (own after : List PlaceRow) (f : FoundRow) → FirstPlace s tag (Some own) after
    → ((inner : Structure) → own ≡ rows_of inner → AreFront levels (group_front m tag inner level) f) → Leads levels m s level after f
leads_group levels m s level tag own after f (a_field more is none rest) front = cc
leads_group levels m s level tag own after f (a_group inner more is some rest) front =
    (more, rest, subst (λ t. GoesFound levels (plan_of m t level) (plan_of m more level) f) (sym is) (front inner (same_Some own (rows_of inner) some) (plan_of m more level)))

-- ---- the end

no_more : {R : Type 0} (xs : List R) → xs ++ [] ≡ xs
no_more [] = refl
no_more (x ∷ xs) = ap (λ zs. x ∷ zs) (no_more xs)

-- where no places are left, all rows are there
pub whole_level : (levels : List BackLevel) (m : Mapping) (level : Level) (whole : Plan) (left : Structure) (tag_list : List ℕ) (rows : List BackRow) → length (rows_of left) < 1
    → tag_list ≡ map (λ (r : BackRow). r.tag) rows → Goes levels whole (plan_of m left level) rows → IsLevel levels whole (record { tags = tag_list; rows = rows })
whole_level levels m level whole ended tag_list rows h named goes =
    let are = subst (AreRows levels whole) (no_more rows) (goes.front levels (kept_all levels) [] refl) in
    record { tags = named ∙ row_tags levels whole rows are; rows = are }
whole_level levels m level whole (plain tag more) tag_list rows h named goes = absurd (omega arith)
whole_level levels m level whole (counted tag inner more) tag_list rows h named goes = absurd (omega arith)
