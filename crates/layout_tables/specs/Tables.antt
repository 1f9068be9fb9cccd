-- The tables of a layout are those of the schema.
use Rattle.std.specs.Prelude.{◌≡◌, ℕ, List, Option}
use Rattle.std.specs.BTreeMap.{get}
use Rattle.std.specs.Option.{option_map}
use Rattle.std.specs.Ordering.{nat_cmp}
use Rattle.sbe_types.specs.declared.schema.Level.{Level}
use Rattle.sbe_types.specs.declared.schema.WireSchema.{WireSchema}
use Rattle.sbe_wire.specs.Faults.{message_named}
use Rattle.layout_tables.specs.declared.rows.Tables.{Tables}
use Rattle.schema_facts.specs.IsChecked.{IsChecked}
use Rattle.schema_facts.specs.Levels.{all_nodes}
use Rattle.layout_tables.specs.Rowed.{AreRows, HeaderIs, roots_from}
use Rattle.layout_tables.specs.Parts.{part_counts, firsts_from, places_from}

-- the look-up gives the number of the first message with an id
abbrev pub AreIds : List Level → (ℕ → Option ℕ) → Type 0
AreIds messages look_up = (id : ℕ) → look_up id ≡ option_map (λ m. m.0) (message_named 0 id messages)

-- the schema is in order, and the tables are the rows of its header and of all its levels, the numbers of the roots,
-- the messages by id, and the data parts by number
pub record AreTables (schema : WireSchema) (tables : Tables) : Type 0 where
  pub checked : IsChecked schema
  pub header_is : HeaderIs tables.header schema.header.members
  pub rows : AreRows schema tables.levels.items
  pub roots_are : tables.roots.items ≡ roots_from 0 0 schema.messages
  pub ids_are : AreIds schema.messages (get nat_cmp tables.ids)
  pub firsts_are : tables.firsts.items ≡ firsts_from 0 (part_counts (all_nodes schema))
  pub places_are : tables.places.items ≡ places_from 0 (part_counts (all_nodes schema))
