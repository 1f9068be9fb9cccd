-- The names of a level that passed the rules.
use Rattle.std.proofs.Common.{◌≡◌, ◌≢◌, ◌≤◌, ℕ, true, false, List, [], ◌∷◌, ◌++◌, map, Option, refl, ap, sym, subst, ◌∙◌, arith, append_assoc}
use Rattle.std.specs.Prelude.{AllPairs}
use Rattle.std.specs.List.{AllByRecursion, IsDistinct}
use Rattle.std.specs.Str.{bytes_eq}
use Rattle.std.proofs.lemmas.Bool.{ltb-false}
use Rattle.std.proofs.lemmas.Cmp.{nat_list_eq_equiv}
use Rattle.std.proofs.lemmas.List.{append-nil}
use Rattle.std.proofs.lemmas.Map.Keys.{IsDistinct-push, apart_from_distinct}
use Rattle.std.proofs.lemmas.Slice.Eq.{bytes_eq-Decides}
use Rattle.sbe_types.specs.declared.kind.Member.{Member}
use Rattle.sbe_types.specs.declared.schema.Field.{Field}
use Rattle.sbe_types.specs.declared.schema.DataField.{DataField}
use Rattle.sbe_types.specs.declared.schema.Group.{Group, roll-Group, out-roll-Group}
use Rattle.sbe_types.specs.declared.schema.Level.{Level, out-Level, out-roll-Level}
use Rattle.sbe_types.specs.declared.tree.PartItem.{PartItem, Row_of-PartItem}
use Rattle.sbe_types.specs.declared.tree.PartItem as part
use Rattle.sbe_types.specs.InForm.{IsName, IsPartInForm}
use Rattle.schema_rules.specs.declared.levels.LevelScope.{LevelScope}
use Rattle.schema_rules.specs.Kinds.{members_named}
use Rattle.schema_rules.specs.PartRules.{Scope, PartsBefore, no_part, with_part, part_name, rank, entries_level}
use Rattle.schema_rules.specs.Resolved.{Within, list_fields, list_groups, list_data}
use Rattle.schema_facts.specs.CheckedLevels.{group_name, part_names, HasNames}
use Rattle.schema_facts.proofs.LevelSteps.{EachKept, parts_after}
use Rattle.schema_facts.proofs.LevelWalk.{Base, Head, Passed, within_of, scope_of, level_of, row_level, head_of_group}

-- ---- names that differ

-- names that are distinct by their test differ
pub distinct_differ : (names : List (List ℕ)) → IsDistinct bytes_eq names → AllPairs (λ a b. a ≢ b) names
distinct_differ names h i j d below within same = differ _ _ (apart_from_distinct bytes_eq names i j d h below within) same
  where
    differ : (a b : List ℕ) → bytes_eq a b ≡ false → a ≢ b
    differ a b h same = let yes : bytes_eq a b ≡ true = (bytes_eq-Decides a b).1 same in cc

names_joined : (scope : Scope) (before : PartsBefore) (ps : List PartItem) → (parts_after scope before ps).names ≡ before.names ++ map part_name ps
names_joined scope before [] = sym (append-nil before.names)
names_joined scope before (p ∷ ps) = names_joined scope (with_part scope before p) ps ∙ append_assoc before.names (part_name p ∷ []) (map part_name ps)

names_distinct : (scope : Scope) (before : PartsBefore) (ps : List PartItem) → EachKept scope before ps → IsDistinct bytes_eq before.names → IsDistinct bytes_eq (parts_after scope before ps).names
names_distinct scope before [] h distinct = distinct
names_distinct scope before (p ∷ ps) h distinct =
    names_distinct scope (with_part scope before p) ps h.1 (IsDistinct-push nat_list_eq_equiv before.names (part_name p) distinct h.0.head.0)

none_distinct : IsDistinct bytes_eq []
unfolding IsDistinct
none_distinct = tt

-- ---- fields, then groups, then data

no_fields : (scope : Scope) (within : Within) (before : PartsBefore) (ps : List PartItem) → EachKept scope before ps → 1 ≤ rank before.all.last → list_fields within ps ≡ []
no_fields scope within before [] h late = refl
no_fields scope within before (part.Field f ∷ ps) h late = absurd (omega (arith, late, ltb-false 0 (rank before.all.last) h.0.head.1.0))
no_fields scope within before (part.Group' name id dimension since stated n row ∷ ps) h late =
    no_fields scope within (with_part scope before (part.Group' name id dimension since stated n row)) ps h.1 (omega arith)
no_fields scope within before (part.Data d ∷ ps) h late = no_fields scope within (with_part scope before (part.Data d)) ps h.1 (omega arith)

no_groups : (scope : Scope) (within : Within) (before : PartsBefore) (ps : List PartItem) → EachKept scope before ps → 2 ≤ rank before.all.last → list_groups within ps ≡ []
no_groups scope within before [] h late = refl
no_groups scope within before (part.Field f ∷ ps) h late = absurd (omega (arith, late, ltb-false 0 (rank before.all.last) h.0.head.1.0))
no_groups scope within before (part.Group' name id dimension since stated n row ∷ ps) h late = absurd (omega (arith, late, ltb-false 1 (rank before.all.last) h.0.head.1.0))
no_groups scope within before (part.Data d ∷ ps) h late = no_groups scope within (with_part scope before (part.Data d)) ps h.1 (omega arith)

-- the name of a group's level
made_name : (within : Within) (head : Head) {n : _} (row : Row_of-PartItem n) (dim : List Member) → group_name (roll-Group (record { dim = dim; level = row_level within head row })) ≡ head.name
made_name within head row dim = ap (λ r. (out-Level r.level).name) (out-roll-Group _) ∙ ap (λ r. r.name) (out-roll-Level _)

-- the names of fields, groups and data
abbrev names_of : List Field → List Group → List DataField → List (List ℕ)
names_of fields groups parts = map (λ (f : Field). f.name) fields ++ (map group_name groups ++ map (λ (d : DataField). d.name) parts)

names_in_order : (base : Base) (level : LevelScope) (before : PartsBefore) (ps : List PartItem) → EachKept (scope_of base level) before ps →
    names_of (list_fields (within_of base level) ps) (list_groups (within_of base level) ps) (list_data (within_of base level) ps) ≡ map part_name ps
names_in_order base level before [] h = refl
names_in_order base level before (part.Field f ∷ ps) h = ap (λ ns. f.name ∷ ns) (names_in_order base level (with_part (scope_of base level) before (part.Field f)) ps h.1)
names_in_order base level before (part.Group' name id dimension since stated n row ∷ ps) h =
    let within : Within = within_of base level in
    let p : PartItem = part.Group' name id dimension since stated n row in
    let after : PartsBefore = with_part (scope_of base level) before p in
    let none = no_fields (scope_of base level) within after ps h.1 (omega arith) in
    let rest = names_in_order base level after ps h.1 in
    let named = made_name (within_of base (entries_level level since)) (head_of_group name id stated) row (members_named base.types dimension) in
    ap (λ fs. names_of fs (list_groups within (p ∷ ps)) (list_data within ps)) none
    ∙ ap (λ x. x ∷ (map group_name (list_groups within ps) ++ map (λ (d : DataField). d.name) (list_data within ps))) named
    ∙ ap (λ ns. name ∷ ns) (sym (ap (λ fs. names_of fs (list_groups within ps) (list_data within ps)) none) ∙ rest)
names_in_order base level before (part.Data d ∷ ps) h =
    let within : Within = within_of base level in
    let after : PartsBefore = with_part (scope_of base level) before (part.Data d) in
    let no_field = no_fields (scope_of base level) within after ps h.1 (omega arith) in
    let no_group = no_groups (scope_of base level) within after ps h.1 (omega arith) in
    let rest = names_in_order base level after ps h.1 in
    let bare : names_of (list_fields within ps) (list_groups within ps) (list_data within ps) ≡ map (λ (d : DataField). d.name) (list_data within ps) =
    ap (λ fs. names_of fs (list_groups within ps) (list_data within ps)) no_field ∙ ap (λ gs. names_of [] gs (list_data within ps)) no_group in
    ap (λ fs. names_of fs (list_groups within ps) (list_data within (part.Data d ∷ ps))) no_field ∙ ap (λ gs. names_of [] gs (list_data within (part.Data d ∷ ps))) no_group
    ∙ ap (λ ns. d.name ∷ ns) (sym bare ∙ rest)

-- ---- names in form

part_named : (p : PartItem) → IsPartInForm p → IsName (part_name p)
part_named (part.Field f) h = h.name
part_named (part.Group' name id dimension since stated n row) h = h.0
part_named (part.Data d) h = h

parts_named : (ps : List PartItem) → AllByRecursion IsPartInForm ps → AllByRecursion IsName (map part_name ps)
parts_named [] h = tt
parts_named (p ∷ ps) h = (part_named p h.0, parts_named ps h.1)

-- such a level has names
pub names_kept : (base : Base) (t : ℕ) (dim : Option (List Member)) (level : LevelScope) (head : Head) (ps : List PartItem) → Passed base level dim head ps →
    HasNames (level_of (within_of base level) head ps)
names_kept base t dim level head ps passed =
    let within : Within = within_of base level in
    let scope : Scope = scope_of base level in
    let made : Level = level_of within head ps in
    let opened : part_names made ≡ names_of (list_fields within ps) (list_groups within ps) (list_data within ps) = ap (λ r. names_of r.fields r.groups r.parts) (out-roll-Level _) in
    let all : part_names made ≡ map part_name ps = opened ∙ names_in_order base level no_part ps passed.each in
    let distinct = subst (IsDistinct bytes_eq) (names_joined scope no_part ps) (names_distinct scope no_part ps passed.each none_distinct) in
    record {
      own = subst (λ r. IsName r.name) (sym (out-roll-Level _)) passed.name;
      parts = subst (λ ns. AllByRecursion IsName ns) (sym all) (parts_named ps passed.form);
      names_differ = subst (λ ns. AllPairs (λ a b. a ≢ b) ns) (sym all) (distinct_differ (map part_name ps) distinct);
    }
