-- How many groups lie around one another in a tree that passed the rules.
use Rattle.std.proofs.Common.{◌≡◌, ◌≤◌, ◌+◌, ℕ, suc, false, List, [], ◌∷◌, map, max, refl, ap, sym, ◌∙◌, arith}
use Rattle.std.specs.Prelude.{Ok, min, ◌==◌}
use Rattle.std.specs.List.{AllByRecursion}
use Rattle.std.proofs.lemmas.Bool.Decides.{nat_tests}
use denote.Hole.Carrier as carrier
use Rattle.sbe_types.specs.declared.schema.Level as levels
use Rattle.sbe_types.specs.declared.schema.Group as groups_of
use Rattle.sbe_types.specs.declared.kind.Member.{Member}
use Rattle.sbe_types.specs.declared.schema.Group.{Group, Group', out-Group, roll-Group, out-roll-Group}
use Rattle.sbe_types.specs.declared.schema.Level.{Level, Level', out-Level, out-roll-Level, Row_of-Group, end_of-Group, more_of-Group, items-the_row-Group, items_shown-the_row-Group-0}
use Rattle.sbe_types.specs.declared.tree.MessageEl.{MessageEl}
use Rattle.sbe_types.specs.declared.tree.PartItem.{PartItem, Row_of-PartItem, end_of-PartItem, more_of-PartItem}
use Rattle.sbe_types.specs.declared.tree.PartItem as part
use Rattle.schema_rules.specs.declared.levels.LevelScope.{LevelScope}
use Rattle.schema_rules.specs.Kinds.{members_named}
use Rattle.schema_rules.specs.PartRules.{Scope, PartsBefore, no_part, with_part, part_name, most_groups, entries_level, level_check, part_check, parts_check}
use Rattle.schema_rules.specs.Checked.{MessagesBefore, with_message, messages_check}
use Rattle.schema_rules.specs.Resolved.{Within, row_fields, row_groups, row_data, list_groups, with_group, resolved_message}
use Rattle.schema_facts.specs.CheckedLevels.{groups_deep, row_deep, group_deep}
use Rattle.schema_facts.proofs.LevelSteps.{EntriesKept, part_kept, first_part}
use Rattle.schema_facts.proofs.LevelWalk.{Base, Head, within_of, scope_of, row_level, head_of_group, groups_of_level}
use Rattle.schema_facts.proofs.WholeWalk.{first_message, root_level}

-- ---- over lists

deep_of : List Group → ℕ
deep_of [] = 0
deep_of (g ∷ gs) = max (group_deep g) (deep_of gs)

deep_row : (n : _) (row : Row_of-Group n) → row_deep row ≡ deep_of (items-the_row-Group n row)
unfolding deep_of row_deep
deep_row n end_of-Group = refl
deep_row n (more_of-Group g rest) = ap (max (group_deep g)) (deep_row _ rest)

deep_open : (level : Level) → groups_deep level ≡ deep_of (out-Level level).groups
unfolding groups_deep levels.out-Level carrier.out
deep_open (Level' name id semantic since block_length fields n groups parts) = deep_row _ groups ∙ ap deep_of (sym (items_shown-the_row-Group-0 n groups))

group_open : (g : Group) → group_deep g ≡ suc (groups_deep (out-Group g).level)
unfolding group_deep groups_of.out-Group carrier.out
group_open (Group' dim level) = refl

group_made : (dim : List Member) (level : Level) → group_deep (roll-Group (record { dim = dim; level = level })) ≡ suc (groups_deep level)
group_made dim level = group_open (roll-Group (record { dim = dim; level = level })) ∙ ap (λ r. suc (groups_deep r.level)) (out-roll-Group _)

-- ---- the walk

room_inside : (around : ℕ) → around ≤ 6 → (around == most_groups) ≡ false → (around + 1 ≤ 6) × (min (around + 1) 7 ≡ around + 1)
room_inside around h test =
    let not_six : around ≡ 6 → ⊥ = grind (arith, nat_tests) in
    let less : around + 1 ≤ 6 = omega (arith, not_six) in
    let same : min (around + 1) 7 ≡ around + 1 = omega (arith, less) in
    (less, same)

one_group : (d rest inner around : ℕ) → d ≡ suc inner → inner + (around + 1) ≤ 6 → rest + around ≤ 6 → max d rest + around ≤ 6
one_group d rest inner around is h k = omega arith

mutual
  unfolding deep_of

  row_shallow : (base : Base) (level : LevelScope) → level.around ≤ 6 → (before after : PartsBefore) {n : _} (row : Row_of-PartItem n) → level_check (scope_of base level) before row ≡ Ok after →
      deep_of (row_groups (within_of base level) row) + level.around ≤ 6
  row_shallow base level room before after end_of-PartItem h = omega (arith, room)
  row_shallow base level room before after (more_of-PartItem p rest) h =
      let scope : Scope = scope_of base level in
      let two = first_part (part_name p) (part_check scope before p) (level_check scope (with_part scope before p) rest) after h in
      part_shallow base level room before p (row_groups (within_of base level) rest) two.0 (row_shallow base level room (with_part scope before p) after rest two.1)

  part_shallow : (base : Base) (level : LevelScope) → level.around ≤ 6 → (before : PartsBefore) (p : PartItem) (gs : List Group) → part_check (scope_of base level) before p ≡ Ok tt →
      deep_of gs + level.around ≤ 6 → deep_of (with_group (within_of base level) p gs) + level.around ≤ 6
  part_shallow base level room before (part.Field f) gs h rest = rest
  part_shallow base level room before (part.Data d) gs h rest = rest
  part_shallow base level room before (part.Group' name id dimension since stated n row) gs h rest =
      let own : EntriesKept (scope_of base level) dimension since stated _ row = (part_kept (scope_of base level) before (part.Group' name id dimension since stated n row) h).own in
      let inner : LevelScope = entries_level level since in
      let within : Within = within_of base inner in
      let head : Head = head_of_group name id stated in
      let dim : List Member = members_named base.types dimension in
      let space = room_inside level.around room own.group.1.1.0 in
      let below : inner.around ≤ 6 = omega (arith, space.0, space.1) in
      let deep = row_shallow base inner below no_part own.found row own.parts in
      let made : group_deep (roll-Group (record { dim = dim; level = row_level within head row })) ≡ suc (deep_of (row_groups within row)) =
      group_made dim (row_level within head row) ∙ ap suc (deep_open (row_level within head row) ∙ ap deep_of (groups_of_level within head (row_fields within row) (row_groups within row) (row_data within row))) in
      one_group (group_deep (roll-Group (record { dim = dim; level = row_level within head row }))) (deep_of gs) (deep_of (row_groups within row)) level.around made (omega (arith, deep, space.1)) rest

parts_shallow : (base : Base) (level : LevelScope) → level.around ≤ 6 → (before after : PartsBefore) (ps : List PartItem) → parts_check (scope_of base level) before ps ≡ Ok after →
    deep_of (list_groups (within_of base level) ps) + level.around ≤ 6
unfolding deep_of
parts_shallow base level room before after [] h = omega (arith, room)
parts_shallow base level room before after (p ∷ ps) h =
    let scope : Scope = scope_of base level in
    let two = first_part (part_name p) (part_check scope before p) (parts_check scope (with_part scope before p) ps) after h in
    part_shallow base level room before p (list_groups (within_of base level) ps) two.0 (parts_shallow base level room (with_part scope before p) after ps two.1)

-- no more than six groups of a message lie around one another
pub messages_shallow : (base : Base) (before : MessagesBefore) (ms : List MessageEl) → messages_check base.header (scope_of base (root_level base)) before ms ≡ Ok tt →
    AllByRecursion (λ l. groups_deep l ≤ most_groups) (map (resolved_message base.types) ms)
messages_shallow base before [] h = tt
messages_shallow base before (m ∷ ms) h =
    let two = first_message base.header (scope_of base (root_level base)) before m ms h in
    let here = parts_shallow base (root_level base) (omega arith) no_part two.0.found m.children two.0.parts in
    let level : Level = resolved_message base.types m in
    let made : groups_deep level ≡ deep_of (list_groups (within_of base (root_level base)) m.children) = deep_open level ∙ ap (λ r. deep_of r.groups) (out-roll-Level _) in
    let shallow : groups_deep level ≤ most_groups = omega (arith, made, here) in
    (shallow, messages_shallow base (with_message before m) ms two.1)
