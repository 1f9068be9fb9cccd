-- The sinces of a level that passed the rules.
use Rattle.std.proofs.Common.{◌≡◌, ◌≤◌, ℕ, Bool, true, false, List, [], ◌∷◌, ◌++◌, map, Option, max, refl, ap, sym, subst, ◌∙◌, arith}
use Rattle.std.specs.Prelude.{not, nat_lt, ◌&&◌, if◌then◌else◌}
use Rattle.std.specs.List.{AllByRecursion}
use Rattle.std.proofs.lemmas.Bool.Decides.{nat_tests}
use Rattle.sbe_types.specs.declared.kind.Member.{Member}
use Rattle.sbe_types.specs.declared.schema.Field.{Field}
use Rattle.sbe_types.specs.declared.schema.DataField.{DataField}
use Rattle.sbe_types.specs.declared.schema.Group.{roll-Group, out-roll-Group}
use Rattle.sbe_types.specs.declared.schema.Level.{out-Level, out-roll-Level}
use Rattle.sbe_types.specs.declared.tree.PartItem.{PartItem, Row_of-PartItem}
use Rattle.sbe_types.specs.declared.tree.PartItem as part
use Rattle.sbe_types.specs.Places.{is_const}
use Rattle.schema_rules.specs.declared.levels.LevelScope.{LevelScope}
use Rattle.schema_rules.specs.declared.levels.PartHead.{PartHead}
use Rattle.schema_rules.specs.Facts.{field_fact}
use Rattle.schema_rules.specs.Kinds.{field_kind, members_named}
use Rattle.schema_rules.specs.PartRules.{Scope, PartsBefore, no_part, with_part, entries_level, since_in, greatest_since}
use Rattle.schema_rules.specs.Resolved.{Within, list_fields, list_groups, list_data}
use Rattle.schema_facts.specs.CheckedLevels.{group_since, moving_sinces, IsSinceWithin, NeverFall, HasSinces}
use Rattle.schema_facts.proofs.FieldEnds.{field_tells}
use Rattle.schema_facts.proofs.LevelSteps.{EachKept, PartKept, neither, head_of}
use Rattle.schema_facts.proofs.LevelWalk.{Base, Head, Passed, within_of, scope_of, level_of, row_level, head_of_group, own_known}
use Rattle.schema_facts.proofs.LevelWalk.{all_joined}

-- the since of a group's level
pub made_since : (within : Within) (head : Head) {n : _} (row : Row_of-PartItem n) (dim : List Member) → group_since (roll-Group (record { dim = dim; level = row_level within head row })) ≡ within.since
made_since within head row dim = ap (λ r. (out-Level r.level).since) (out-roll-Group _) ∙ ap (λ r. r.since) (out-roll-Level _)

-- ---- within the level and the schema

one_within : (least own version : ℕ) → own ≤ version → least ≤ version → IsSinceWithin least version (max least own)
one_within least own version h k =
    let after : least ≤ max least own = omega arith in
    let known : max least own ≤ version = omega arith in
    record { after = after; known = known }

kept_since : (scope : Scope) (before : PartsBefore) (p : PartItem) → PartKept scope before p → (head_of scope p).since ≤ scope.level.version
kept_since scope before p kept = own_known scope.level before.all (head_of scope p) kept.head.1.1.0

module _ (base : Base) (level : LevelScope) (same : level.version ≡ base.version) (known : level.since ≤ base.version) where
  within_at : (before : PartsBefore) (p : PartItem) → PartKept (scope_of base level) before p → IsSinceWithin level.since base.version (max level.since (head_of (scope_of base level) p).since)
  within_at before p kept =
      let own : (head_of (scope_of base level) p).since ≤ level.version = kept_since (scope_of base level) before p kept in
      one_within level.since (head_of (scope_of base level) p).since base.version (omega (arith, own, same)) known

  fields_within : (before : PartsBefore) (ps : List PartItem) → EachKept (scope_of base level) before ps →
      AllByRecursion (IsSinceWithin level.since base.version) (map (λ (f : Field). f.since) (list_fields (within_of base level) ps))
  fields_within before [] h = tt
  fields_within before (part.Field f ∷ ps) h = (within_at before (part.Field f) h.0, fields_within (with_part (scope_of base level) before (part.Field f)) ps h.1)
  fields_within before (part.Group' name id dimension since stated n row ∷ ps) h = fields_within (with_part (scope_of base level) before (part.Group' name id dimension since stated n row)) ps h.1
  fields_within before (part.Data d ∷ ps) h = fields_within (with_part (scope_of base level) before (part.Data d)) ps h.1

  data_within : (before : PartsBefore) (ps : List PartItem) → EachKept (scope_of base level) before ps →
      AllByRecursion (IsSinceWithin level.since base.version) (map (λ (d : DataField). d.since) (list_data (within_of base level) ps))
  data_within before [] h = tt
  data_within before (part.Field f ∷ ps) h = data_within (with_part (scope_of base level) before (part.Field f)) ps h.1
  data_within before (part.Group' name id dimension since stated n row ∷ ps) h = data_within (with_part (scope_of base level) before (part.Group' name id dimension since stated n row)) ps h.1
  data_within before (part.Data d ∷ ps) h = (within_at before (part.Data d) h.0, data_within (with_part (scope_of base level) before (part.Data d)) ps h.1)

  groups_within : (before : PartsBefore) (ps : List PartItem) → EachKept (scope_of base level) before ps →
      AllByRecursion (IsSinceWithin level.since base.version) (map group_since (list_groups (within_of base level) ps))
  groups_within before [] h = tt
  groups_within before (part.Field f ∷ ps) h = groups_within (with_part (scope_of base level) before (part.Field f)) ps h.1
  groups_within before (part.Data d ∷ ps) h = groups_within (with_part (scope_of base level) before (part.Data d)) ps h.1
  groups_within before (part.Group' name id dimension since stated n row ∷ ps) h =
      let p : PartItem = part.Group' name id dimension since stated n row in (
        subst (IsSinceWithin level.since base.version) (sym (made_since (within_of base (entries_level level since)) (head_of_group name id stated) row (members_named base.types dimension))) (within_at before p h.0),
        groups_within (with_part (scope_of base level) before p) ps h.1,
      )

  -- ---- in order

  low_kept : (least all own : ℕ) → nat_lt (max least own) all ≡ false → max least all ≤ max least own
  low_kept least all own h = grind (arith, nat_tests)

  next_low : (least all own : ℕ) → max least all ≤ max least own → max least (max all (max least own)) ≡ max least own
  next_low least all own h = omega arith

  one_step : (low all own : ℕ) (rest : List ℕ) → max level.since all ≤ max level.since own → low ≡ max level.since all →
      ((next : ℕ) → next ≡ max level.since (max all (max level.since own)) → NeverFall next rest) → NeverFall low (max level.since own ∷ rest)
  one_step low all own rest order is after =
      let first : low ≤ max level.since own = omega (arith, is, order) in
      (first, after (max level.since own) (sym (next_low level.since all own order)))

  order_kept : (before : PartsBefore) (p : PartItem) → PartKept (scope_of base level) before p → (head_of (scope_of base level) p).is_fixed ≡ false →
      max level.since (greatest_since before.all (head_of (scope_of base level) p).class) ≤ max level.since (head_of (scope_of base level) p).since
  order_kept before p kept moves =
      let head : PartHead = head_of (scope_of base level) p in
      let late : Bool = nat_lt (since_in level head.since) (greatest_since before.all head.class) in
      let both = (neither (nat_lt level.version head.since) (not head.is_fixed && late) kept.head.1.1.0).1 in
      low_kept level.since (greatest_since before.all head.class) head.since (subst (λ b. (not b && late) ≡ false) moves both)

  field_step : (fixed const : Bool) (low all own : ℕ) (rest : List ℕ) → fixed ≡ const → (fixed ≡ false → max level.since all ≤ max level.since own) → low ≡ max level.since all →
      ((next : ℕ) → next ≡ max level.since (if fixed then all else max all (max level.since own)) → NeverFall next rest) → NeverFall low (if const then rest else max level.since own ∷ rest)
  field_step true true low all own rest same order is after = after low is
  field_step true false low all own rest same order is after = cc
  field_step false true low all own rest same order is after = cc
  field_step false false low all own rest same order is after = one_step low all own rest (order refl) is after

  fields_order : (before : PartsBefore) (ps : List PartItem) → EachKept (scope_of base level) before ps → (low : ℕ) → low ≡ max level.since before.all.fields_since →
      NeverFall low (moving_sinces (list_fields (within_of base level) ps))
  fields_order before [] h low is = tt
  fields_order before (part.Field f ∷ ps) h low is =
      field_step (field_fact base.types f).is_fixed (is_const (field_kind base.types f)) low before.all.fields_since f.since_version (moving_sinces (list_fields (within_of base level) ps))
      (field_tells base.types f).fixed (order_kept before (part.Field f) h.0) is (λ next e. fields_order (with_part (scope_of base level) before (part.Field f)) ps h.1 next e)
  fields_order before (part.Group' name id dimension since stated n row ∷ ps) h low is = fields_order (with_part (scope_of base level) before (part.Group' name id dimension since stated n row)) ps h.1 low is
  fields_order before (part.Data d ∷ ps) h low is = fields_order (with_part (scope_of base level) before (part.Data d)) ps h.1 low is

  data_order : (before : PartsBefore) (ps : List PartItem) → EachKept (scope_of base level) before ps → (low : ℕ) → low ≡ max level.since before.all.data_since →
      NeverFall low (map (λ (d : DataField). d.since) (list_data (within_of base level) ps))
  data_order before [] h low is = tt
  data_order before (part.Field f ∷ ps) h low is = data_order (with_part (scope_of base level) before (part.Field f)) ps h.1 low is
  data_order before (part.Group' name id dimension since stated n row ∷ ps) h low is = data_order (with_part (scope_of base level) before (part.Group' name id dimension since stated n row)) ps h.1 low is
  data_order before (part.Data d ∷ ps) h low is =
      one_step low before.all.data_since d.since_version (map (λ (d : DataField). d.since) (list_data (within_of base level) ps)) (order_kept before (part.Data d) h.0 refl) is
      (λ next e. data_order (with_part (scope_of base level) before (part.Data d)) ps h.1 next e)

  groups_order : (before : PartsBefore) (ps : List PartItem) → EachKept (scope_of base level) before ps → (low : ℕ) → low ≡ max level.since before.all.groups_since →
      NeverFall low (map group_since (list_groups (within_of base level) ps))
  groups_order before [] h low is = tt
  groups_order before (part.Field f ∷ ps) h low is = groups_order (with_part (scope_of base level) before (part.Field f)) ps h.1 low is
  groups_order before (part.Data d ∷ ps) h low is = groups_order (with_part (scope_of base level) before (part.Data d)) ps h.1 low is
  groups_order before (part.Group' name id dimension since stated n row ∷ ps) h low is =
      let p : PartItem = part.Group' name id dimension since stated n row in
      subst (λ s. NeverFall low (s ∷ map group_since (list_groups (within_of base level) ps)))
      (sym (made_since (within_of base (entries_level level since)) (head_of_group name id stated) row (members_named base.types dimension)))
      (one_step low before.all.groups_since since (map group_since (list_groups (within_of base level) ps)) (order_kept before p h.0 refl) is
      (λ next e. groups_order (with_part (scope_of base level) before p) ps h.1 next e))

-- such a level's sinces are in order
pub sinces_kept : (base : Base) (t : ℕ) (dim : Option (List Member)) (level : LevelScope) (head : Head) (ps : List PartItem) → Passed base level dim head ps →
    HasSinces base.version (level_of (within_of base level) head ps)
sinces_kept base t dim level head ps passed =
    let first : level.since ≡ max level.since 0 = omega arith in
    let within = IsSinceWithin level.since base.version in
    let fields = fields_within base level passed.version passed.since no_part ps passed.each in
    let groups = groups_within base level passed.version passed.since no_part ps passed.each in
    let parts = data_within base level passed.version passed.since no_part ps passed.each in
    record {
      own = subst (λ r. r.since ≤ base.version) (sym (out-roll-Level _)) passed.since;
      within = subst (λ r. AllByRecursion (IsSinceWithin r.since base.version) (map (λ (f : Field). f.since) r.fields ++ (map group_since r.groups ++ map (λ (d : DataField). d.since) r.parts))) (sym (out-roll-Level _))
          (all_joined within _ _ fields (all_joined within _ _ groups parts));
      fields = subst (λ r. NeverFall r.since (moving_sinces r.fields)) (sym (out-roll-Level _)) (fields_order base level passed.version passed.since no_part ps passed.each level.since first);
      groups = subst (λ r. NeverFall r.since (map group_since r.groups)) (sym (out-roll-Level _)) (groups_order base level passed.version passed.since no_part ps passed.each level.since first);
      parts = subst (λ r. NeverFall r.since (map (λ (d : DataField). d.since) r.parts)) (sym (out-roll-Level _)) (data_order base level passed.version passed.since no_part ps passed.each level.since first);
    }
