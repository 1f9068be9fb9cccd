-- Parts of a schema by their names.
use Rattle.std.specs.Prelude.{ℕ, nat_lt, if◌then◌else◌, Option, None, List, length}
use Rattle.std.specs.Option.{option_map}
use Rattle.sbe_types.specs.declared.schema.WireSchema.{WireSchema}
use Rattle.schema_facts.specs.Levels.{all_nodes, root_of}
use Rattle.layout_tables.specs.Parts.{group_number}
use Rattle.layout_names.specs.Names.{template_named, field_named, group_named, data_named}
use Rattle.field_lookup.specs.declared.parts.Part.{Part}
use Rattle.field_lookup.specs.declared.parts.Sort.{Sort}
use Rattle.field_lookup.specs.declared.parts.Sort.TheVariants.{Message, Field, Group, Data}

-- the message of this name, with the level of its root
abbrev pub message_part : List ℕ → WireSchema → Option Part
message_part name schema = option_map (λ t. record { number = t; level = root_of schema t }) (template_named name schema)

-- the group of this name in a level, with the level of its entries
abbrev pub group_part : ℕ → List ℕ → WireSchema → Option Part
group_part level name schema =
    if nat_lt level (length (all_nodes schema)) then option_map (λ g. record { number = g; level = group_number schema level g }) (group_named name schema level) else None

-- a field or data part of a level
abbrev pub level_part : ℕ → Option ℕ → Option Part
level_part level number = option_map (λ n. record { number = n; level = level }) number

-- the part of this sort and name in a level; the level doesn't matter for a message
abbrev pub part_named : Sort → ℕ → List ℕ → WireSchema → Option Part
part_named Message level name schema = message_part name schema
part_named Field level name schema = level_part level (field_named name schema level)
part_named Group level name schema = group_part level name schema
part_named Data level name schema = level_part level (data_named name schema level)
