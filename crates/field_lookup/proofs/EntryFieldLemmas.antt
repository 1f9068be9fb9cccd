-- A field of a group's entries is found as its definition finds it.
use Rattle.std.proofs.Common.{◌≡◌, ◌<◌, ℕ, List, length, Option, Some, None, refl, ap, ◌∙◌, arith}
use Rattle.std.specs.Prelude.{slice_get}
use Rattle.std.specs.Option.{option_map, option_and_then}
use Rattle.std.proofs.lemmas.Option.{slice_get_within}
use Rattle.sbe_types.specs.declared.schema.WireSchema.{WireSchema}
use Rattle.schema_facts.specs.Levels.{Node, all_nodes, groups_at, groups_in, root_of}
use Rattle.layout_tables.specs.Parts.{group_number}
use Rattle.layout_names.specs.Names.{template_named, field_named, group_named}
use Rattle.field_lookup.specs.declared.entry_fields.EntryField.{EntryField}
use Rattle.field_lookup.specs.declared.entry_fields.EntryNames.{EntryNames}
use Rattle.field_lookup.specs.EntryFields.{entry_field_named, field_of_group, field_of_template}

-- ---- levels

within_by : (nodes : List Node) (n i : ℕ) (o : Option Node) → slice_get nodes n ≡ o → i < length (groups_in (option_map (λ (node : Node). node.level) o)) → n < length nodes
within_by nodes n i None at h = absurd (omega (arith, h))
within_by nodes n i (Some node) at h = slice_get_within nodes n node at

-- a level that has a group is one of the schema's
pub level_within : (schema : WireSchema) (n i : ℕ) → i < length (groups_at schema n) → n < length (all_nodes schema)
level_within schema n i h = within_by (all_nodes schema) n i (slice_get (all_nodes schema) n) refl h

-- ---- names

module _ (path : EntryNames) (schema : WireSchema) where
  -- the field in the entries of a group
  pub group_told : (template group root level : ℕ) (o : Option ℕ) → root ≡ root_of schema template → level ≡ group_number schema root group
      → o ≡ field_named path.field.now schema level
      → option_map (λ (i : ℕ). record { template = template; group = group; field = i }) o ≡ field_of_group path schema template group
  group_told template group root level o at number is =
      ap (option_map (λ (i : ℕ). record { template = template; group = group; field = i }))
      (is ∙ ap (field_named path.field.now schema) (number ∙ ap (λ (r : ℕ). group_number schema r group) at))

  -- the field in the group of its name
  pub template_told : (template root : ℕ) (o : Option ℕ) → root ≡ root_of schema template → o ≡ group_named path.group.now schema root
      → option_and_then (field_of_group path schema template) o ≡ field_of_template path schema template
  template_told template root o at is = ap (option_and_then (field_of_group path schema template)) (is ∙ ap (group_named path.group.now schema) at)

  -- the field in the message of its name
  pub message_told : (o : Option ℕ) → o ≡ template_named path.template.now schema → option_and_then (field_of_template path schema) o ≡ entry_field_named path schema
  message_told o is = ap (option_and_then (field_of_template path schema)) is
