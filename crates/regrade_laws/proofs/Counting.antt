-- How many parts are filled and dropped, at most: as many as the levels of all blocks have.
use Rattle.std.proofs.Common.{◌≡◌, ◌≤◌, ◌+◌, ◌*◌, ℕ, suc, Bool, true, false, List, [], ◌∷◌, length, map, refl, sym, ap, ◌∙◌, subst, arith}
use Rattle.std.specs.Prelude.{if◌then◌else◌, not, Option, Some}
use Rattle.std.specs.List.{AllByRecursion}
use denote.Hole.Carrier as carrier
use Rattle.sbe_types.specs.declared.limits.TheConstants.{PART_LIMIT}
use Rattle.sbe_types.specs.declared.kind.Member.{Member}
use Rattle.sbe_types.specs.declared.schema.Level as levels
use Rattle.sbe_types.specs.declared.schema.Group.{Group, Group'}
use Rattle.sbe_types.specs.declared.schema.Level.{Level, Level', out-Level, Row_of-Group, end_of-Group, more_of-Group, items-the_row-Group, items_shown-the_row-Group-0}
use Rattle.sbe_types.specs.declared.message.Block.{Block, out-Block}
use Rattle.sbe_types.specs.declared.message.GroupVal.{GroupVal, items-the_row-Block, items_hidden-the_row-Block-1}
use Rattle.sbe_types.specs.declared.message.GroupVal.TheVariants as groupval
use Rattle.sbe_wire.specs.Canonical.{entries_in}
use Rattle.schema_facts.specs.CheckedLevels.{HasFewParts}
use Rattle.schema_facts.specs.Counted.{total, over_entries, count_in, count_groups, count_group}
use Rattle.schema_facts.specs.Levels.{Node, nodes, nodes_below, nodes_of}
use Rattle.schema_facts.proofs.LevelForms.{all_apart}
use Rattle.version_laws.specs.Differ.{is_old, group_since}
use Rattle.version_laws.specs.Plain.{is_absent_group}
use Rattle.regrade_laws.specs.Counts.{one_if, count_pairs, fills_field, fills_part, drops_field, drops_part, filled_count, filled_groups_count, filled_group_count, dropped_count, dropped_groups_count, dropped_group_count}
use Rattle.regrade_laws.specs.Sizes.{most_among}
use Rattle.regrade_laws.proofs.Filling.{choice_yes, choice_not}
use Rattle.version_laws.proofs.BlockMoves.{by_bool}

abbrev Few : Node → Type 0
Few node = HasFewParts node.level

one_small : (t : Bool) → one_if t ≤ 1
one_small true = omega arith
one_small false = omega arith

pub pairs_short : {P V : Type 0} (test : P → V → Bool) (ps : List P) (vs : List V) → count_pairs test ps vs ≤ length ps
pairs_short test [] vs = omega arith
pairs_short test (p ∷ ps) [] = omega arith
pairs_short test (p ∷ ps) (v ∷ vs) = omega (arith, one_small (test p v), pairs_short test ps vs)

-- a group that is kept, or that counts once
kept_or_not : (known there : Bool) (n k : ℕ) → n ≤ k → (if known then n else one_if there) ≤ suc k
kept_or_not true there n k h = omega (arith, h)
kept_or_not false there n k h = omega (arith, one_small there)

-- a number of each entry is at most so many times another of it
total_within : (f g : Block → ℕ) (k : ℕ) → ((e : Block) → f e ≤ k * suc (g e)) → (es : List Block) → total f es ≤ k * total (λ e. suc (g e)) es
total_within f g k each [] = omega arith
total_within f g k each (e ∷ es) = omega (arith, each e, total_within f g k each es)

mutual
  unfolding filled_count count_in nodes levels.out-Level carrier.out

  pub few_filled : (level : Level) (t : ℕ) (dim : Option (List Member)) (block : Block) → AllByRecursion Few (nodes t dim level) → filled_count level block ≤ most_among (count_in level block)
  few_filled (Level' name id semantic since size fields n groups parts) t dim block few =
      let b = out-Block block in
      let f = pairs_short fills_field fields b.fields in
      let p = pairs_short fills_part parts b.parts in
      let g = few_filled_groups groups t b.groups few.1 in
      let many : length fields + length (items-the_row-Group _ groups) + length parts ≤ PART_LIMIT =
      subst (λ gs. length fields + length gs + length parts ≤ PART_LIMIT) (items_shown-the_row-Group-0 n groups) few.0 in
      omega (arith, f, p, g, many)

  few_filled_groups : {n : _} (row : Row_of-Group n) (t : ℕ) (vs : List GroupVal) → AllByRecursion Few (nodes_below t row) → filled_groups_count row vs ≤ length (items-the_row-Group n row) + PART_LIMIT * count_groups row vs
  few_filled_groups end_of-Group t vs few = omega arith
  few_filled_groups (more_of-Group g gs) t [] few = omega arith
  few_filled_groups (more_of-Group g gs) t (v ∷ vs) few =
      let two = all_apart Few (nodes_of t g) (nodes_below t gs) few in
      omega (arith, few_filled_group g t v two.0, few_filled_groups gs t vs two.1)

  few_filled_group : (g : Group) (t : ℕ) (v : GroupVal) → AllByRecursion Few (nodes_of t g) → filled_group_count g v ≤ suc (PART_LIMIT * count_group g v)
  few_filled_group (Group' dim level) t groupval.Absent few = omega arith
  few_filled_group (Group' dim level) t (groupval.Entries' n row) few =
      omega (arith, total_within (λ e. filled_count level e) (λ e. count_in level e) PART_LIMIT (λ e. few_filled level t (Some dim) e few) (items-the_row-Block _ row))

mutual
  unfolding dropped_count count_in nodes levels.out-Level carrier.out

  pub few_dropped : (version : ℕ) (level : Level) (t : ℕ) (dim : Option (List Member)) (block : Block) → AllByRecursion Few (nodes t dim level) → dropped_count version level block ≤ most_among (count_in level block)
  few_dropped version (Level' name id semantic since size fields n groups parts) t dim block few =
      let b = out-Block block in
      let f = pairs_short (drops_field version) fields b.fields in
      let p = pairs_short (drops_part version) parts b.parts in
      let g = few_dropped_groups version groups t b.groups few.1 in
      let many : length fields + length (items-the_row-Group _ groups) + length parts ≤ PART_LIMIT =
      subst (λ gs. length fields + length gs + length parts ≤ PART_LIMIT) (items_shown-the_row-Group-0 n groups) few.0 in
      omega (arith, f, p, g, many)

  few_dropped_groups : (version : ℕ) {n : _} (row : Row_of-Group n) (t : ℕ) (vs : List GroupVal) → AllByRecursion Few (nodes_below t row) → dropped_groups_count version row vs ≤ length (items-the_row-Group n row) + PART_LIMIT * count_groups row vs
  few_dropped_groups version end_of-Group t vs few = omega arith
  few_dropped_groups version (more_of-Group g gs) t [] few = omega arith
  few_dropped_groups version (more_of-Group g gs) t (v ∷ vs) few =
      let two = all_apart Few (nodes_of t g) (nodes_below t gs) few in
      omega (arith, kept_or_not (is_old version (group_since g)) (not (is_absent_group v)) (dropped_group_count version g v) (PART_LIMIT * count_group g v) (few_dropped_group version g t v two.0), few_dropped_groups version gs t vs two.1)

  few_dropped_group : (version : ℕ) (g : Group) (t : ℕ) (v : GroupVal) → AllByRecursion Few (nodes_of t g) → dropped_group_count version g v ≤ PART_LIMIT * count_group g v
  few_dropped_group version (Group' dim level) t groupval.Absent few = omega arith
  few_dropped_group version (Group' dim level) t (groupval.Entries' n row) few =
      total_within (λ e. dropped_count version level e) (λ e. count_in level e) PART_LIMIT (λ e. few_dropped version level t (Some dim) e few) (items-the_row-Block _ row)
