-- Each part of a checked schema is effective by the schema's version.
use Rattle.std.proofs.Common.{◌≡◌, ◌≤◌, ◌+◌, ℕ, true, List, [], ◌∷◌, ◌++◌, map, Option, Some, None, subst}
use Rattle.std.specs.Prelude.{slice_get}
use Rattle.std.specs.List.{AllByRecursion}
use Rattle.std.proofs.lemmas.Bool.{le-leb}
use denote.Hole.Carrier as carrier
use Rattle.sbe_types.specs.declared.kind.Member.{Member}
use Rattle.sbe_types.specs.declared.schema.Group as groups_of
use Rattle.sbe_types.specs.declared.schema.Level as levels
use Rattle.sbe_types.specs.declared.schema.Field.{Field}
use Rattle.sbe_types.specs.declared.schema.DataField.{DataField}
use Rattle.sbe_types.specs.declared.schema.Group.{Group, Group'}
use Rattle.sbe_types.specs.declared.schema.Level.{Level, Level', out-Level, Row_of-Group, end_of-Group, more_of-Group, items-the_row-Group, items_shown-the_row-Group-0}
use Rattle.sbe_types.specs.declared.schema.WireSchema.{WireSchema}
use Rattle.schema_facts.specs.CheckedLevels.{HasSinces, IsSinceWithin, group_since}
use Rattle.schema_facts.specs.IsChecked.{IsChecked}
use Rattle.schema_facts.specs.Levels.{Node, nodes, nodes_below, nodes_of}
use Rattle.schema_facts.proofs.LevelForms.{all_apart, all_of_message}
use Rattle.version_laws.specs.Differ as differs
use Rattle.version_laws.specs.Differ.{is_old}
use Rattle.regrade_laws.proofs.Effective.{FieldsEffective, PartsEffective, IsEffective, GroupsEffective, GroupEffective, IsWholly}

abbrev Sinces : ℕ → Node → Type 0
Sinces version node = HasSinces version node.level

fields_within : (least version : ℕ) (fs : List Field) → AllByRecursion (IsSinceWithin least version) (map (λ (f : Field). f.since) fs) → FieldsEffective version fs
fields_within least version [] h = tt
fields_within least version (f ∷ fs) h = (le-leb f.since version h.0.known, fields_within least version fs h.1)

parts_within : (least version : ℕ) (ps : List DataField) → AllByRecursion (IsSinceWithin least version) (map (λ (d : DataField). d.since) ps) → PartsEffective version ps
parts_within least version [] h = tt
parts_within least version (p ∷ ps) h = (le-leb p.since version h.0.known, parts_within least version ps h.1)

group_within : (version : ℕ) (g : Group) → group_since g ≤ version → is_old version (differs.group_since g) ≡ true
unfolding groups_of.out-Group carrier.out
group_within version (Group' dim level) h = le-leb (out-Level level).since version h

mutual
  unfolding nodes nodes_below nodes_of levels.out-Level carrier.out

  level_wholly : (version t : ℕ) (dim : Option (List Member)) (level : Level) → AllByRecursion (Sinces version) (nodes t dim level) → IsEffective version level
  level_wholly version t dim (Level' name id semantic since block_length fields n groups parts) h =
      let level = Level' name id semantic since block_length fields n groups parts in
      let same = items_shown-the_row-Group-0 n groups in
      let of_fields = map (λ (f : Field). f.since) fields in
      let of_groups = map group_since (out-Level level).groups in
      let of_parts = map (λ (d : DataField). d.since) parts in
      let first = all_apart (IsSinceWithin since version) of_fields (of_groups ++ of_parts) h.0.within in
      let next = all_apart (IsSinceWithin since version) of_groups of_parts first.1 in (
        fields_within since version fields first.0,
        groups_wholly version t since groups (subst (λ gs. AllByRecursion (IsSinceWithin since version) (map group_since gs)) same next.0) h.1,
        parts_within since version parts next.1,
      )

  groups_wholly : (version t least : ℕ) {n : _} (row : Row_of-Group n) → AllByRecursion (IsSinceWithin least version) (map group_since (items-the_row-Group _ row)) →
      AllByRecursion (Sinces version) (nodes_below t row) → GroupsEffective version row
  groups_wholly version t least end_of-Group sinces h = tt
  groups_wholly version t least (more_of-Group g rest) sinces h =
      let two = all_apart (Sinces version) (nodes_of t g) (nodes_below t rest) h in
      (group_within version g sinces.0.known, group_wholly version t g two.0, groups_wholly version t least rest sinces.1 two.1)

  group_wholly : (version t : ℕ) (g : Group) → AllByRecursion (Sinces version) (nodes_of t g) → GroupEffective version g
  group_wholly version t (Group' dim level) h = level_wholly version t (Some dim) level h

pub checked_wholly : (schema : WireSchema) → IsChecked schema → IsWholly schema
checked_wholly schema checked i level at = level_wholly schema.version (0 + i) None level (all_of_message (Sinces schema.version) 0 i schema.messages level checked.sinces at)
