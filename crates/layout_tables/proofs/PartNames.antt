-- The names of a level's parts.
use Rattle.std.proofs.Common.{◌≡◌, ◌<◌, ◌+◌, ℕ, ◌++◌, length, Option, Some, None, refl, ap, ◌∙◌, arith, length-append}
use Rattle.std.specs.Prelude.{slice_get, map}
use Rattle.std.specs.Option.{option_map}
use Rattle.std.proofs.lemmas.Option.{slice_get-map}
use Rattle.sbe_types.specs.declared.schema.DataField.{DataField}
use Rattle.sbe_types.specs.declared.schema.Group.{Group, out-Group}
use Rattle.sbe_types.specs.declared.schema.Field.{Field}
use Rattle.sbe_types.specs.declared.schema.Level.{Level, out-Level}
use Rattle.sbe_types.specs.declared.schema.WireSchema.{WireSchema}
use Rattle.schema_facts.specs.Levels.{level_at, fields_at, fields_in, groups_at, groups_in, parts_at, parts_in}
use Rattle.layout_tables.specs.Names.{names_of, names_in, names_at}
use Rattle.layout_tables.specs.Paths.{NamedPart, level_parts, field_part, group_part, data_part}
use Rattle.layout_tables.specs.Parts.{parts_in_all}
use Rattle.layout_tables.proofs.Items.{long_map, get_front, get_behind}

pub names_many : (level : Level) → length (names_of level) ≡ length (level_parts level)
names_many level = long_map (λ (p : NamedPart). p.name) (level_parts level)

pub parts_many : (level : Level) → length (level_parts level) ≡ length (out-Level level).fields + length (out-Level level).groups + length (out-Level level).parts
parts_many level =
    let a = map field_part (out-Level level).fields in
    let b = map group_part (out-Level level).groups in
    let c = map data_part (out-Level level).parts in
    omega (arith, length-append a (b ++ c), length-append b c, long_map field_part (out-Level level).fields, long_map group_part (out-Level level).groups, long_map data_part (out-Level level).parts)

field_at : (level : Level) (i : ℕ) → i < length (out-Level level).fields → slice_get (names_of level) i ≡ option_map (λ (f : Field). f.name) (slice_get (out-Level level).fields i)
field_at level i h =
    let a = map field_part (out-Level level).fields in
    let rest = map group_part (out-Level level).groups ++ map data_part (out-Level level).parts in
    let front : slice_get (level_parts level) i ≡ slice_get a i = get_front a rest i (omega (arith, h, long_map field_part (out-Level level).fields)) in
    slice_get-map (λ (p : NamedPart). p.name) (level_parts level) i ∙ ap (option_map (λ (p : NamedPart). p.name)) (front ∙ slice_get-map field_part (out-Level level).fields i) ∙ twice (slice_get (out-Level level).fields i)
  where
    twice : (o : Option Field) → option_map (λ (p : NamedPart). p.name) (option_map field_part o) ≡ option_map (λ (f : Field). f.name) o
    twice None = refl
    twice (Some f) = refl

pub field_name_at : (schema : WireSchema) (n i : ℕ) → i < length (fields_at schema n) → slice_get (names_at schema n) i ≡ option_map (λ (f : Field). f.name) (slice_get (fields_at schema n) i)
field_name_at schema n i h = in_level (level_at schema n) h
  where
    in_level : (o : Option Level) → i < length (fields_in o) → slice_get (names_in o) i ≡ option_map (λ (f : Field). f.name) (slice_get (fields_in o) i)
    in_level None h = absurd (omega arith)
    in_level (Some level) h = field_at level i h

pub field_part_of : (schema : WireSchema) (n i : ℕ) → i < length (fields_at schema n) → i < length (names_at schema n)
field_part_of schema n i h = in_level (level_at schema n) h
  where
    in_level : (o : Option Level) → i < length (fields_in o) → i < length (names_in o)
    in_level None h = absurd (omega arith)
    in_level (Some level) h = omega (arith, h, names_many level, parts_many level)

-- ---- the names of a level's parts

pub names_all : (schema : WireSchema) (n : ℕ) → length (names_at schema n) ≡ parts_in_all schema n
names_all schema n = in_level (level_at schema n)
  where
    in_level : (o : Option Level) → length (names_in o) ≡ length (fields_in o) + length (groups_in o) + length (parts_in o)
    in_level None = omega arith
    in_level (Some level) = omega (arith, names_many level, parts_many level)

group_at : (level : Level) (i : ℕ) → i < length (out-Level level).groups →
    slice_get (names_of level) (length (out-Level level).fields + i) ≡ option_map (λ (g : Group). (out-Level (out-Group g).level).name) (slice_get (out-Level level).groups i)
group_at level i h =
    let a = map field_part (out-Level level).fields in
    let b = map group_part (out-Level level).groups in
    let c = map data_part (out-Level level).parts in
    let k = length (out-Level level).fields + i in
    let after : slice_get (level_parts level) k ≡ slice_get (b ++ c) i = get_behind a (b ++ c) k i (omega (arith, long_map field_part (out-Level level).fields)) in
    let front : slice_get (b ++ c) i ≡ slice_get b i = get_front b c i (omega (arith, h, long_map group_part (out-Level level).groups)) in
    let found : slice_get (level_parts level) k ≡ option_map group_part (slice_get (out-Level level).groups i) = after ∙ front ∙ slice_get-map group_part (out-Level level).groups i in
    slice_get-map (λ (p : NamedPart). p.name) (level_parts level) k ∙ ap (option_map (λ (p : NamedPart). p.name)) found ∙ twice (slice_get (out-Level level).groups i)
  where
    twice : (o : Option Group) → option_map (λ (p : NamedPart). p.name) (option_map group_part o) ≡ option_map (λ (g : Group). (out-Level (out-Group g).level).name) o
    twice None = refl
    twice (Some g) = refl

pub group_name_at : (schema : WireSchema) (n i : ℕ) → i < length (groups_at schema n) →
    slice_get (names_at schema n) (length (fields_at schema n) + i) ≡ option_map (λ (g : Group). (out-Level (out-Group g).level).name) (slice_get (groups_at schema n) i)
group_name_at schema n i h = in_level (level_at schema n) h
  where
    in_level : (o : Option Level) → i < length (groups_in o) → slice_get (names_in o) (length (fields_in o) + i) ≡ option_map (λ (g : Group). (out-Level (out-Group g).level).name) (slice_get (groups_in o) i)
    in_level None h = absurd (omega arith)
    in_level (Some level) h = group_at level i h

data_at : (level : Level) (i : ℕ) → i < length (out-Level level).parts →
    slice_get (names_of level) (length (out-Level level).fields + length (out-Level level).groups + i) ≡ option_map (λ (d : DataField). d.name) (slice_get (out-Level level).parts i)
data_at level i h =
    let a = map field_part (out-Level level).fields in
    let b = map group_part (out-Level level).groups in
    let c = map data_part (out-Level level).parts in
    let j = length (out-Level level).groups + i in
    let k = length (out-Level level).fields + length (out-Level level).groups + i in
    let first : slice_get (level_parts level) k ≡ slice_get (b ++ c) j = get_behind a (b ++ c) k j (omega (arith, long_map field_part (out-Level level).fields)) in
    let second : slice_get (b ++ c) j ≡ slice_get c i = get_behind b c j i (omega (arith, long_map group_part (out-Level level).groups)) in
    let found : slice_get (level_parts level) k ≡ option_map data_part (slice_get (out-Level level).parts i) = first ∙ second ∙ slice_get-map data_part (out-Level level).parts i in
    slice_get-map (λ (p : NamedPart). p.name) (level_parts level) k ∙ ap (option_map (λ (p : NamedPart). p.name)) found ∙ twice (slice_get (out-Level level).parts i)
  where
    twice : (o : Option DataField) → option_map (λ (p : NamedPart). p.name) (option_map data_part o) ≡ option_map (λ (d : DataField). d.name) o
    twice None = refl
    twice (Some d) = refl

pub data_name_at : (schema : WireSchema) (n i : ℕ) → i < length (parts_at schema n) →
    slice_get (names_at schema n) (length (fields_at schema n) + length (groups_at schema n) + i) ≡ option_map (λ (d : DataField). d.name) (slice_get (parts_at schema n) i)
data_name_at schema n i h = in_level (level_at schema n) h
  where
    in_level : (o : Option Level) → i < length (parts_in o) →
        slice_get (names_in o) (length (fields_in o) + length (groups_in o) + i) ≡ option_map (λ (d : DataField). d.name) (slice_get (parts_in o) i)
    in_level None h = absurd (omega arith)
    in_level (Some level) h = data_at level i h
