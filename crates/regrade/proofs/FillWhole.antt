-- A group and a block that are filled.
use Rattle.std.proofs.Common.{◌≡◌, ◌+◌, ℕ, List, Ok, Err, length, refl, sym, ap, ◌∙◌, arith}
use Rattle.sbe_types.specs.declared.message.Value.{Value}
use Rattle.sbe_types.specs.declared.message.DataVal.{DataVal}
use Rattle.sbe_types.specs.declared.message.Block.{Block, out-Block}
use Rattle.sbe_types.specs.declared.message.GroupVal.{GroupVal}
use Rattle.sbe_types.specs.declared.message.GroupVal.TheVariants as groupval
use Rattle.sbe_types.specs.declared.schema.Group.{Group, out-Group}
use Rattle.sbe_types.specs.declared.schema.Level.{Level, out-Level}
use Rattle.schema_facts.specs.Counted.{total}
use Rattle.regrade_laws.specs.Fill.{Fills, field_or_fill, part_or_fill}
use Rattle.regrade_laws.specs.Filled.{filled_list, filled_entries, filled_block, filled_group, block_of, group_of}
use Rattle.regrade_laws.specs.Counts.{count_pairs, sum_pairs, fills_field, fills_part, filled_count, filled_group_count}
use Rattle.regrade.specs.declared.filler.Filler.{Filler}
use Rattle.regrade.specs.declared.filler.Unfilled.{Unfilled}
use Rattle.regrade.specs.declared.filler.Unfilled.TheVariants.{NoFill, Memory}
use Rattle.regrade.specs.Fillings.{IsFilled}
use Rattle.regrade.proofs.Rows.{filled_entries_are, counted_entries_are, filled_is, counted_is}

module _ (g : Group) (v : GroupVal) (es : List Block) (is : v ≡ groupval.Entries es) (old new : Filler) where
  abbrev entries_of : Fills (List Block)
  entries_of = filled_entries (λ entry. filled_block (out-Group g).level entry) 0 es

  told_is : filled_group g v ≡ group_of entries_of
  told_is = ap (filled_group g) is ∙ filled_entries_are g es

  count_is : filled_group_count g v ≡ total (filled_count (out-Group g).level) es
  count_is = ap (filled_group_count g) is ∙ counted_entries_are g es

  pub entries_filled : (out : List Block) → IsFilled entries_of (total (filled_count (out-Group g).level) es) old new (Ok out) → IsFilled {X = GroupVal} (filled_group g v) (filled_group_count g v) old new (Ok (groupval.Entries out))
  entries_filled out h = (told_is ∙ ap group_of h.0, omega (arith, h.1, count_is))

  pub entries_not_filled : (why : Unfilled) → IsFilled entries_of (total (filled_count (out-Group g).level) es) old new (Err why) → IsFilled {X = GroupVal} (filled_group g v) (filled_group_count g v) old new (Err why)
  entries_not_filled NoFill h = told_is ∙ ap group_of h
  entries_not_filled Memory h = tt

module _ (level : Level) (block : Block) where
  abbrev fields_of : Fills (List Value)
  fields_of = filled_list field_or_fill 0 (out-Level level).fields (out-Block block).fields

  abbrev groups_of : Fills (List GroupVal)
  groups_of = filled_list filled_group (length (out-Level level).fields) (out-Level level).groups (out-Block block).groups

  abbrev parts_of : Fills (List DataVal)
  parts_of = filled_list part_or_fill (length (out-Level level).fields + length (out-Level level).groups) (out-Level level).parts (out-Block block).parts

  abbrev fields_counted : ℕ
  fields_counted = count_pairs fills_field (out-Level level).fields (out-Block block).fields

  abbrev groups_counted : ℕ
  groups_counted = sum_pairs filled_group_count (out-Level level).groups (out-Block block).groups

  abbrev parts_counted : ℕ
  parts_counted = count_pairs fills_part (out-Level level).parts (out-Block block).parts

  pub fields_refused : (old new : Filler) (why : Unfilled) → IsFilled fields_of fields_counted old new (Err why) → IsFilled (filled_block level block) (filled_count level block) old new (Err why)
  fields_refused old new NoFill h = filled_is level block ∙ ap (λ f. block_of f groups_of parts_of) h
  fields_refused old new Memory h = tt

  pub groups_refused : (first old mid new : Filler) (fields : List Value) (why : Unfilled) → IsFilled fields_of fields_counted old mid (Ok fields) → IsFilled groups_of groups_counted mid new (Err why) → IsFilled (filled_block level block) (filled_count level block) first new (Err why)
  groups_refused first old mid new fields NoFill f h = filled_is level block ∙ ap (λ x. block_of x groups_of parts_of) f.0 ∙ ap (λ x. block_of (Ok fields) x parts_of) h
  groups_refused first old mid new fields Memory f h = tt

  pub parts_refused : (first old mid last new : Filler) (fields : List Value) (groups : List GroupVal) (why : Unfilled) → IsFilled fields_of fields_counted old mid (Ok fields) → IsFilled groups_of groups_counted mid last (Ok groups) →
      IsFilled parts_of parts_counted last new (Err why) → IsFilled (filled_block level block) (filled_count level block) first new (Err why)
  parts_refused first old mid last new fields groups NoFill f g h =
      filled_is level block ∙ ap (λ x. block_of x groups_of parts_of) f.0 ∙ ap (λ x. block_of (Ok fields) x parts_of) g.0 ∙ ap (block_of (Ok fields) (Ok groups)) h
  parts_refused first old mid last new fields groups Memory f g h = tt

  pub block_filled : (old mid last new : Filler) (fields : List Value) (groups : List GroupVal) (parts : List DataVal) → IsFilled fields_of fields_counted old mid (Ok fields) → IsFilled groups_of groups_counted mid last (Ok groups) →
      IsFilled parts_of parts_counted last new (Ok parts) → IsFilled (filled_block level block) (filled_count level block) old new (Ok (record { fields = fields; groups = groups; parts = parts }))
  block_filled old mid last new fields groups parts f g h = (
    filled_is level block ∙ ap (λ x. block_of x groups_of parts_of) f.0 ∙ ap (λ x. block_of (Ok fields) x parts_of) g.0 ∙ ap (block_of (Ok fields) (Ok groups)) h.0,
    omega (arith, counted_is level block, f.1, g.1, h.1),
  )
