-- The steps of the code, one by one.
use Rattle.std.proofs.Common.{◌≡◌, ◌≤◌, ◌<◌, ℕ, zero, suc, ◌+◌, ◌-◌, ◌*◌, Bool, true, false, cond, List, [], ◌∷◌, length, drop, get_or, Option, Some, None, Err, refl, sym, ap, ◌∙◌, subst, arith}
use Rattle.std.specs.Prelude.{nat_le, pos, map, slice_get, ◌&&◌, ◌==◌}
use Rattle.std.specs.List.{AllByRecursion}
use Rattle.std.specs.Option.{option_map, option_and_then}
use Rattle.std.specs.Result.{result_ok}
use Rattle.std.proofs.lemmas.Bool.{le-leb, leb-true}
use Rattle.std.proofs.lemmas.Bool.Decides.{nat_tests}
use Rattle.sbe_types.specs.declared.kind.Order.{Order}
use Rattle.sbe_types.specs.declared.schema.DataField.{DataField}
use Rattle.sbe_types.specs.declared.schema.Group.{Group, out-Group}
use Rattle.sbe_types.specs.declared.schema.Level.{Level, out-Level}
use Rattle.sbe_types.specs.declared.schema.WireSchema.{WireSchema}
use Rattle.sbe_types.specs.Places.{members_end}
use Rattle.sbe_wire.specs.declared.codes.FCode.TheVariants as code
use Rattle.sbe_wire.specs.Faults.{fault_at}
use Rattle.sbe_wire.specs.Versions.{is_alive, floor}
use Rattle.schema_facts.specs.CheckedLevels.{HasLengths, IsLength}
use Rattle.schema_facts.specs.IsChecked.{IsChecked}
use Rattle.schema_facts.specs.Levels.{Node, all_nodes, level_at, fields_at, fields_in}
use Rattle.schema_facts.specs.Measured.{IsSmall}
use Rattle.layout_tables.specs.declared.rows.PartRow.{PartRow}
use Rattle.layout_tables.specs.Rowed.{part_row}
use Rattle.layout_tables.proofs.Items.{drop_is, item_there}
use Rattle.var_data.proofs.DataRows.{at_each}
use Rattle.body_walk.specs.inner.Cursor.{placed, dim_from}
use Rattle.body_walk.proofs.LevelsReady.{node_at}
use Rattle.body_walk.proofs.Opens.{none_there}
use Rattle.level_skip.specs.Passing.{entry_in, tail_passed, group_passed, level_passed}
use Rattle.level_skip.specs.Behind.{offset_after, bytes_behind, steps_behind, groups_behind, part_behind, parts_behind}
use Rattle.level_skip.proofs.Ends.{entry_is, tail_is, group_is, entries_behind}

-- ---- an entry

module _ (order : Order) (version : ℕ) (level : Level) (k : ℕ) (bytes : List ℕ) (at : ℕ) (near : at ≤ length bytes) where
  abbrev tail : ℕ → Option ℕ
  tail = offset_after (tail_passed order version level) bytes

  opened : offset_after (entry_in order version level k) bytes at ≡ option_and_then tail (bytes_behind k bytes at)
  opened = entry_is (tail_passed order version level) k bytes at near

  pub entry_short : length bytes - at < k → None ≡ offset_after (entry_in order version level k) bytes at
  entry_short short =
      let below : nat_le k (length bytes - at) ≡ false = grind (arith, nat_tests) in
      sym (opened ∙ ap (λ t. option_and_then tail (cond t (Some (at + k)) None)) below)

  module _ (fits : k ≤ length bytes - at) where
    entry_long : tail (at + k) ≡ offset_after (entry_in order version level k) bytes at
    entry_long = sym (opened ∙ ap (λ t. option_and_then tail (cond t (Some (at + k)) None)) (le-leb k (length bytes - at) fits))

    abbrev parts : List PartRow
    parts = map part_row (out-Level level).parts

    tail_there : tail (at + k) ≡ option_and_then (parts_behind order version parts bytes) (groups_behind order version (out-Level level).groups bytes (at + k))
    tail_there = tail_is order version level bytes (at + k) (omega (arith, fits, near))

    pub entry_whole : (rows : List PartRow) (next : ℕ) → rows ≡ parts → Some next ≡ groups_behind order version (out-Level level).groups bytes (at + k) →
        parts_behind order version rows bytes next ≡ offset_after (entry_in order version level k) bytes at
    entry_whole rows next same went =
        ap (λ rs. parts_behind order version rs bytes next) same
        ∙ ap (option_and_then (parts_behind order version parts bytes)) went
        ∙ sym tail_there ∙ entry_long

    pub entry_stopped : None ≡ groups_behind order version (out-Level level).groups bytes (at + k) → None ≡ offset_after (entry_in order version level k) bytes at
    entry_stopped went = ap (option_and_then (parts_behind order version parts bytes)) went ∙ sym tail_there ∙ entry_long

-- ---- groups

pub groups_next : (order : Order) (version i : ℕ) (gs : List Group) (g : Group) (bytes : List ℕ) (at : ℕ) → i < length gs → g ≡ get_or gs i g →
    groups_behind order version (drop i gs) bytes at ≡ option_and_then (groups_behind order version (drop (i + 1) gs) bytes) (offset_after (group_passed order version g) bytes at)
groups_next order version i gs g bytes at h is = ap (λ l. groups_behind order version l bytes at) (drop_is gs i g h is)

module _ (order : Order) (version : ℕ) (g : Group) (bytes : List ℕ) (at : ℕ) (near : at ≤ length bytes) where
  abbrev level : Level
  level = (out-Group g).level

  abbrev found : ℕ → Option (ℕ × ℕ)
  found least = result_ok (dim_from order (out-Group g).dim least bytes at)

  abbrev inside_it : Option (ℕ × ℕ) → Option ℕ
  inside_it = option_and_then (entries_behind order version level bytes (at + members_end 0 (out-Group g).dim))

  pub group_dead : (since : ℕ) → since ≡ (out-Level level).since → version < since → Some at ≡ offset_after (group_passed order version g) bytes at
  group_dead since is dead =
      let below : is_alive version (out-Level level).since ≡ false = grind (arith, nat_tests) in
      sym (group_is order version g bytes at near ∙ ap (λ t. cond t (inside_it (found (floor version (out-Level level).fields))) (Some at)) below)

  module _ (since least : ℕ) (is : since ≡ (out-Level level).since) (alive : since ≤ version) (floors : least ≡ floor version (out-Level level).fields) where
    here : (d : Option (ℕ × ℕ)) → d ≡ found least → inside_it d ≡ offset_after (group_passed order version g) bytes at
    here d told =
        let lives : is_alive version (out-Level level).since ≡ true = le-leb (out-Level level).since version (omega (arith, is, alive)) in
        ap inside_it (told ∙ ap found floors)
        ∙ sym (group_is order version g bytes at near ∙ ap (λ t. cond t (inside_it (found (floor version (out-Level level).fields))) (Some at)) lives)

    -- a dimension that ends at a place, and what is after its entries
    pub group_entered : (d : ℕ × ℕ) (after : ℕ) (result : Option ℕ) → Some d ≡ found least → after ≡ at + members_end 0 (out-Group g).dim → result ≡ entries_behind order version level bytes after d →
        result ≡ offset_after (group_passed order version g) bytes at
    group_entered d after result told ends went = went ∙ ap (λ a. entries_behind order version level bytes a d) ends ∙ here (Some d) told

    pub group_refused : None ≡ found least → None ≡ offset_after (group_passed order version g) bytes at
    group_refused told = here None told

-- ---- entries

pub steps_more : (step : ℕ → Option ℕ) (i n at : ℕ) → i < n → steps_behind step (n - i) at ≡ option_and_then (steps_behind step (n - (i + 1))) (step at)
steps_more step i n at h =
    let more : n - i ≡ suc (n - (i + 1)) = omega (arith, h) in
    ap (λ k. steps_behind step k at) more

-- ---- entries without groups and data

module _ (order : Order) (version : ℕ) (level : Level) (no_groups : (out-Level level).groups ≡ []) (no_parts : (out-Level level).parts ≡ []) (k : ℕ) (bytes : List ℕ) where
  flat_tail : (at : ℕ) → at ≤ length bytes → offset_after (tail_passed order version level) bytes at ≡ Some at
  flat_tail at near =
      tail_is order version level bytes at near
      ∙ ap (λ gs. option_and_then (parts_behind order version (map part_row (out-Level level).parts) bytes) (groups_behind order version gs bytes at)) no_groups
      ∙ ap (λ ps. parts_behind order version (map part_row ps) bytes at) no_parts

  flat_steps : (t : Bool) (n at : ℕ) → at ≤ length bytes → nat_le k (length bytes - at) ≡ t → ((next : ℕ) → next ≤ length bytes → steps_behind (bytes_behind k bytes) n next ≡ steps_behind (offset_after (entry_in order version level k) bytes) n next) →
      option_and_then (steps_behind (bytes_behind k bytes) n) (cond t (Some (at + k)) None)
      ≡ option_and_then (steps_behind (offset_after (entry_in order version level k) bytes) n) (option_and_then (offset_after (tail_passed order version level) bytes) (cond t (Some (at + k)) None))
  flat_steps true n at near e same =
      let room : k ≤ length bytes - at = leb-true k (length bytes - at) e in
      let next : at + k ≤ length bytes = omega (arith, room, near) in
      same (at + k) next ∙ ap (option_and_then (steps_behind (offset_after (entry_in order version level k) bytes) n)) (sym (flat_tail (at + k) next))
  flat_steps false n at near e same = refl

  pub flat_is : (n at : ℕ) → at ≤ length bytes → steps_behind (bytes_behind k bytes) n at ≡ steps_behind (offset_after (entry_in order version level k) bytes) n at
  flat_is zero at near = refl
  flat_is (suc n) at near =
      flat_steps (nat_le k (length bytes - at)) n at near refl (λ next h. flat_is n next h)
      ∙ ap (option_and_then (steps_behind (offset_after (entry_in order version level k) bytes) n)) (sym (entry_is (tail_passed order version level) k bytes at near))

pub flat_level : (level : Level) → (length (out-Level level).groups == 0) && (length (out-Level level).parts == 0) ≡ true → ((out-Level level).groups ≡ []) × ((out-Level level).parts ≡ [])
flat_level level h =
    let groups : length (out-Level level).groups ≡ 0 = grind (arith, nat_tests) in
    let parts : length (out-Level level).parts ≡ 0 = grind (arith, nat_tests) in
    (none_there (out-Level level).groups groups, none_there (out-Level level).parts parts)

-- ---- blocks one after another

module _ (k : ℕ) (bytes : List ℕ) where
  one_block : (n at : ℕ) → (t : Bool) → nat_le k (length bytes - at) ≡ t →
      steps_behind (bytes_behind k bytes) (suc n) at ≡ option_and_then (steps_behind (bytes_behind k bytes) n) (cond t (Some (at + k)) None)
  one_block n at t e = ap (λ t. option_and_then (steps_behind (bytes_behind k bytes) n) (cond t (Some (at + k)) None)) e

  pub blocks_fit : (n at : ℕ) → at + n * k ≤ length bytes → Some (at + n * k) ≡ steps_behind (bytes_behind k bytes) n at
  blocks_fit zero at h = ap Some (omega arith)
  blocks_fit (suc n) at h =
      let fits : k ≤ length bytes - at = omega (arith, h) in
      let end : at + suc n * k ≡ at + k + n * k = omega arith in
      ap Some end ∙ blocks_fit n (at + k) (omega (arith, h)) ∙ sym (one_block n at true (le-leb k (length bytes - at) fits))

  blocks_stop : (n at : ℕ) (t : Bool) → at ≤ length bytes → nat_le k (length bytes - at) ≡ t → (at + k ≤ length bytes → None ≡ steps_behind (bytes_behind k bytes) n (at + k)) →
      None ≡ option_and_then (steps_behind (bytes_behind k bytes) n) (cond t (Some (at + k)) None)
  blocks_stop n at true near e rest =
      let room : k ≤ length bytes - at = leb-true k (length bytes - at) e in
      rest (omega (arith, room, near))
  blocks_stop n at false near e rest = refl

  pub blocks_pass : (n at : ℕ) → at ≤ length bytes → length bytes < at + n * k → None ≡ steps_behind (bytes_behind k bytes) n at
  blocks_pass zero at near h = absurd (omega (arith, near, h))
  blocks_pass (suc n) at near h =
      let end : at + suc n * k ≡ at + k + n * k = omega arith in
      blocks_stop n at (nat_le k (length bytes - at)) near refl (λ next. blocks_pass n (at + k) next (omega (arith, h, end)))

-- ---- data

pub parts_next : (order : Order) (version i : ℕ) (rows : List PartRow) (r : PartRow) (bytes : List ℕ) (at : ℕ) → i < length rows → r ≡ get_or rows i r →
    parts_behind order version (drop i rows) bytes at ≡ option_and_then (parts_behind order version (drop (i + 1) rows) bytes) (part_behind order version r bytes at)
parts_next order version i rows r bytes at h is = ap (λ rs. parts_behind order version rs bytes at) (drop_is rows i r h is)

rows_small : (ds : List DataField) → AllByRecursion (λ (d : DataField). IsLength d.length) ds → AllByRecursion (λ (r : PartRow). IsSmall r.length.prim) (map part_row ds)
rows_small [] h = tt
rows_small (d ∷ ds) h = (h.0.small, rows_small ds h.1)

-- the length numbers of a level's data are small ones
pub lengths_small : (schema : WireSchema) (n : ℕ) (level : Level) (rows : List PartRow) → IsChecked schema → level_at schema n ≡ Some level → rows ≡ map part_row (out-Level level).parts →
    AllByRecursion (λ (r : PartRow). IsSmall r.length.prim) rows
lengths_small schema n level rows checked at is =
    let this = node_at (slice_get (all_nodes schema) n) level at in
    let lengths : HasLengths this.0.level = at_each (λ (x : Node). HasLengths x.level) (all_nodes schema) n this.0 checked.lengths this.1 in
    let own : HasLengths level = subst HasLengths this.2 lengths in
    subst (AllByRecursion (λ (r : PartRow). IsSmall r.length.prim)) (sym is) (rows_small (out-Level level).parts own)

-- ---- the floor

module _ (schema : WireSchema) (n version k : ℕ) (bytes : List ℕ) (at least : ℕ) (floors : least ≡ floor version (fields_at schema n)) where
  abbrev told_by : Level → Option ℕ
  told_by l = offset_after (level_passed schema.order version l k) bytes at

  abbrev by_test : Level → Bool → Option ℕ
  by_test l t = result_ok (placed (length bytes) at (cond t (entry_in schema.order version l k (drop at bytes)) (Err (fault_at code.BlockShort 0 (pos k)))))

  floor_of : (l : Level) → level_at schema n ≡ Some l → least ≡ floor version (out-Level l).fields
  floor_of l there = floors ∙ ap (λ o. floor version (fields_in o)) there

  pub below_floor : n < length (all_nodes schema) → k < least → option_map told_by (level_at schema n) ≡ Some None
  below_floor within short =
      let this = item_there (all_nodes schema) n within in
      let l = this.0.level in
      let there : level_at schema n ≡ Some l = ap (option_map (λ (x : Node). x.level)) this.1 in
      let least_is = floor_of l there in
      let below : nat_le (floor version (out-Level l).fields) k ≡ false = grind (arith, nat_tests) in
      ap (option_map told_by) there ∙ ap (λ t. Some (by_test l t)) below

  pub floor_met : (l : Level) (result : Option ℕ) → level_at schema n ≡ Some l → least ≤ k → result ≡ offset_after (entry_in schema.order version l k) bytes at → option_map told_by (level_at schema n) ≡ Some result
  floor_met l result there reaches told =
      let enough : floor version (out-Level l).fields ≤ k = omega (arith, floor_of l there, reaches) in
      ap (option_map told_by) there ∙ ap (λ t. Some (by_test l t)) (le-leb (floor version (out-Level l).fields) k enough) ∙ ap Some (sym told)
