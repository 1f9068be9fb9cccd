-- The end of the fields of a level, and a group, over the list of its parts.
use Rattle.std.specs.Prelude.{ℕ, List, [], ◌∷◌}
use Rattle.sbe_types.specs.declared.schema.Group.{Group, roll-Group}
use Rattle.sbe_types.specs.declared.schema.Level.{roll-Level}
use Rattle.sbe_types.specs.declared.tree.GroupEl.{GroupEl}
use Rattle.sbe_types.specs.declared.tree.PartItem.{PartItem}
use Rattle.sbe_types.specs.declared.tree.PartItem as part
use Rattle.sbe_types.specs.declared.tree.TypesItem.{TypesItem}
use Rattle.schema_rules.specs.Kinds.{members_named}
use Rattle.schema_rules.specs.Facts.{past, field_fact}
use Rattle.schema_rules.specs.Resolved.{Within, inside, block_of, list_fields, list_groups, list_data}

-- The end of the fields with one more part.
abbrev pub end_with : List TypesItem → ℕ → PartItem → ℕ
end_with types e (part.Field f) = past e f.offset (field_fact types f)
end_with types e (part.Group' name id dimension since length n row) = e
end_with types e (part.Data d) = e

-- the end of the fields after fields that end at e
abbrev pub parts_end : List TypesItem → ℕ → List PartItem → ℕ
parts_end types e [] = e
parts_end types e (p ∷ ps) = parts_end types (end_with types e p) ps

-- A resolved group, over the list of its parts.
abbrev pub resolved_group : Within → GroupEl → Group
resolved_group within g = entries (inside within g.since_version) where
  entries : Within → Group
  entries inner =
      roll-Group (record {
        dim = members_named within.types g.dimension_type;
        level = roll-Level (record {
          name = g.name;
          id = g.id;
          semantic = [];
          since = inner.since;
          block_length = block_of g.block_length (list_fields inner g.children);
          fields = list_fields inner g.children;
          groups = list_groups inner g.children;
          parts = list_data inner g.children;
        });
      })
