-- The level of a group's entries.
use Rattle.std.specs.Prelude.{[]}
use Rattle.sbe_types.specs.declared.schema.Level.{Level, roll-Level}
use Rattle.sbe_types.specs.declared.tree.GroupEl.{GroupEl}
use Rattle.schema_rules.specs.Resolved.{Within, block_of, list_fields, list_groups, list_data}

-- the resolved level of a group's entries, with the since of `within`
abbrev pub resolved_entries : Within → GroupEl → Level
resolved_entries within g =
    roll-Level (record {
      name = g.name;
      id = g.id;
      semantic = [];
      since = within.since;
      block_length = block_of g.block_length (list_fields within g.children);
      fields = list_fields within g.children;
      groups = list_groups within g.children;
      parts = list_data within g.children;
    })
