-- A field of a group's entries, by its names.
use Rattle.std.specs.Prelude.{ℕ, Option}
use Rattle.std.specs.Option.{option_map, option_and_then}
use Rattle.sbe_types.specs.declared.schema.WireSchema.{WireSchema}
use Rattle.schema_facts.specs.Levels.{root_of}
use Rattle.layout_tables.specs.Parts.{group_number}
use Rattle.layout_names.specs.Names.{template_named, field_named, group_named}
use Rattle.field_lookup.specs.declared.entry_fields.EntryField.{EntryField}
use Rattle.field_lookup.specs.declared.entry_fields.EntryNames.{EntryNames}

-- the field of a group of that message
abbrev pub field_of_group : EntryNames → WireSchema → ℕ → ℕ → Option EntryField
field_of_group path schema template group =
    option_map (λ field. record { template = template; group = group; field = field })
    (field_named path.field.now schema (group_number schema (root_of schema template) group))

-- the field of the group of its name in that message
abbrev pub field_of_template : EntryNames → WireSchema → ℕ → Option EntryField
field_of_template path schema template =
    option_and_then (field_of_group path schema template) (group_named path.group.now schema (root_of schema template))

-- the field of its name, in the group of its name, in the message of its name
abbrev pub entry_field_named : EntryNames → WireSchema → Option EntryField
entry_field_named path schema = option_and_then (field_of_template path schema) (template_named path.template.now schema)
