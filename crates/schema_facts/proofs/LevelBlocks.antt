-- The block of a level that passed the rules.
use Rattle.std.proofs.Common.{◌≡◌, ◌≤◌, ◌+◌, ℕ, suc, true, false, List, [], ◌∷◌, length, Option, Some, None, refl, sym, subst, ◌∙◌, arith}
use Rattle.std.specs.Prelude.{codes, not, nat_lt, unwrap_or}
use Rattle.std.proofs.lemmas.Bool.{ltb-false}
use Rattle.sbe_types.specs.declared.limits.TheConstants.{PLACE_LIMIT, PART_LIMIT}
use Rattle.sbe_types.specs.declared.kind.Member.{Member}
use Rattle.sbe_types.specs.declared.schema.Field.{Field}
use Rattle.sbe_types.specs.declared.schema.Level.{out-roll-Level}
use Rattle.sbe_types.specs.declared.tree.PartItem.{PartItem, Row_of-PartItem}
use Rattle.sbe_types.specs.declared.tree.PartItem as part
use Rattle.sbe_types.specs.Places.{fields_end}
use Rattle.schema_rules.specs.declared.levels.LevelScope.{LevelScope}
use Rattle.schema_rules.specs.CompositeRules.{most_bytes}
use Rattle.schema_rules.specs.Counters.{holds}
use Rattle.schema_rules.specs.PartRules.{Scope, PartsBefore, no_part, with_part, is_short, is_bad_block}
use Rattle.schema_rules.specs.Resolved.{Within, block_of, list_fields, list_groups, list_data}
use Rattle.schema_facts.specs.Ends.{parts_end}
use Rattle.schema_facts.specs.CheckedLevels.{HasFewParts}
use Rattle.schema_facts.proofs.FieldEnds.{end_is}
use Rattle.schema_facts.proofs.LevelSteps.{parts_after, neither, not_false}
use Rattle.schema_facts.proofs.LevelWalk.{Base, Head, Passed, within_of, scope_of, told_of, level_of}

-- ---- the end of the fields

reached_is : (scope : Scope) (before : PartsBefore) (ps : List PartItem) → (parts_after scope before ps).all.reached ≡ parts_end scope.types before.all.reached ps
reached_is scope before [] = refl
reached_is scope before (part.Field f ∷ ps) = reached_is scope (with_part scope before (part.Field f)) ps
reached_is scope before (part.Group' name id dimension since stated n row ∷ ps) = reached_is scope (with_part scope before (part.Group' name id dimension since stated n row)) ps
reached_is scope before (part.Data d ∷ ps) = reached_is scope (with_part scope before (part.Data d)) ps

stated_behind : (stated : Option ℕ) (reached : ℕ) → is_short stated reached ≡ false → reached ≤ unwrap_or stated reached
stated_behind None reached h = omega arith
stated_behind (Some n) reached h = ltb-false n reached h

-- the block of a level that passed: the fields end where the rules say, and within the largest place
pub record Block (base : Base) (level : LevelScope) (head : Head) (ps : List PartItem) (members : List Member) : Type 0 where
  pub reached : (told_of (scope_of base level) ps).reached ≡ fields_end 0 (list_fields (within_of base level) ps)
  pub whole : fields_end 0 (list_fields (within_of base level) ps) ≤ block_of head.stated (list_fields (within_of base level) ps)
  pub narrow : block_of head.stated (list_fields (within_of base level) ps) ≤ PLACE_LIMIT
  pub held : holds members (codes "blockLength") (block_of head.stated (list_fields (within_of base level) ps)) ≡ true

block_by : (members : List Member) (stated : Option ℕ) (reached : ℕ) → is_short stated reached ≡ false → is_bad_block members (unwrap_or stated reached) ≡ false →
    (reached ≤ unwrap_or stated reached) × (unwrap_or stated reached ≤ PLACE_LIMIT) × (holds members (codes "blockLength") (unwrap_or stated reached) ≡ true)
block_by members stated reached short wide =
    let two = neither (nat_lt most_bytes (unwrap_or stated reached)) (not (holds members (codes "blockLength") (unwrap_or stated reached))) wide in
    (stated_behind stated reached short, ltb-false most_bytes (unwrap_or stated reached) two.0, not_false _ two.1)

-- where the fields of such a level end, and how its block lies
pub block_of_level : (base : Base) (dim : Option (List Member)) (level : LevelScope) (head : Head) (ps : List PartItem) → Passed base level dim head ps →
    Block base level head ps (unwrap_or dim base.header)
block_of_level base dim level head ps passed =
    let scope : Scope = scope_of base level in
    let fields : List Field = list_fields (within_of base level) ps in
    let members : List Member = unwrap_or dim base.header in
    let r : ℕ = (told_of scope ps).reached in
    let by = block_by members head.stated r passed.short passed.wide in
    let is = reached_is scope no_part ps in
    let low : parts_end base.types 0 ps ≤ 4294967295 = omega (arith, is, by.0, by.1) in
    let same : r ≡ fields_end 0 fields = is ∙ end_is (within_of base level) ps low in
    let all = subst (λ n. (n ≤ unwrap_or head.stated n) × (unwrap_or head.stated n ≤ PLACE_LIMIT) × (holds members (codes "blockLength") (unwrap_or head.stated n) ≡ true)) same by in
    record { reached = same; whole = all.0; narrow = all.1; held = all.2 }

-- ---- the number of parts

parts_counted : (within : Within) (ps : List PartItem) → length (list_fields within ps) + length (list_groups within ps) + length (list_data within ps) ≡ length ps
parts_counted within [] = refl
parts_counted within (part.Field f ∷ ps) = more (length (list_fields within ps)) (length (list_groups within ps)) (length (list_data within ps)) (length ps) (parts_counted within ps)
  where
    more : (f g d n : ℕ) → f + g + d ≡ n → suc f + g + d ≡ suc n
    more f g d n h = omega arith
parts_counted within (part.Group' name id dimension since stated n row ∷ ps) = more (length (list_fields within ps)) (length (list_groups within ps)) (length (list_data within ps)) (length ps) (parts_counted within ps)
  where
    more : (f g d n : ℕ) → f + g + d ≡ n → f + suc g + d ≡ suc n
    more f g d n h = omega arith
parts_counted within (part.Data x ∷ ps) = more (length (list_fields within ps)) (length (list_groups within ps)) (length (list_data within ps)) (length ps) (parts_counted within ps)
  where
    more : (f g d n : ℕ) → f + g + d ≡ n → f + g + suc d ≡ suc n
    more f g d n h = omega arith

-- such a level has few parts
pub count_kept : (base : Base) (t : ℕ) (dim : Option (List Member)) (level : LevelScope) (head : Head) (ps : List PartItem) → Passed base level dim head ps →
    HasFewParts (level_of (within_of base level) head ps)
count_kept base t dim level head ps passed =
    let few = subst (λ n. n ≤ PART_LIMIT) (sym (parts_counted (within_of base level) ps)) passed.count in
    subst (λ r. length r.fields + length r.groups + length r.parts ≤ PART_LIMIT) (sym (out-roll-Level _)) few
