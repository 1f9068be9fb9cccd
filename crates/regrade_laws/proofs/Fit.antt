-- The counts of a message that lies in a body.
use Rattle.std.proofs.Common.{◌≡◌, ◌≤◌, ◌<◌, ◌+◌, ◌*◌, ℕ, suc, Bool, true, false, List, [], ◌∷◌, length, Option, Some, None, Ok, refl, sym, ap, ◌∙◌, subst, arith}
use Rattle.std.specs.Prelude.{nat_le, nat_lt, slice_get, if◌then◌else◌, codes, Result, Err}
use Rattle.std.specs.List.{AllByRecursion}
use Rattle.sbe_types.specs.declared.limits.TheConstants.{PART_LIMIT}
use Rattle.sbe_types.specs.declared.kind.Primitive.{Primitive}
use Rattle.sbe_types.specs.declared.kind.Primitive.TheVariants.{Char, I8, I16, I32, I64, U8, U16, U32, U64}
use Rattle.sbe_types.specs.declared.schema.Level.{Level, out-Level}
use Rattle.sbe_types.specs.declared.schema.WireSchema.{WireSchema}
use Rattle.sbe_types.specs.declared.message.Block.{Block}
use Rattle.sbe_types.specs.declared.message.Msg.{Msg}
use Rattle.sbe_types.specs.Numbers.{prim_width}
use Rattle.sbe_types.specs.Places.{members_end}
use Rattle.sbe_wire.specs.Faults.{message_named}
use Rattle.sbe_wire.specs.Lays.{Lays}
use Rattle.sbe_wire.specs.Versions.{acting}
use Rattle.sbe_wire.proofs.Messages.{named_is}
use Rattle.schema_facts.specs.CheckedLevels.{HasFewParts}
use Rattle.schema_facts.specs.Counted.{count_in}
use Rattle.schema_facts.specs.IsChecked.{IsChecked}
use Rattle.schema_facts.specs.Levels.{Node}
use Rattle.schema_facts.specs.Measured.{HasCounter, IsSmall}
use Rattle.schema_facts.proofs.LevelForms.{all_of_message}
use Rattle.schema_facts.proofs.WholeChecked.{messages_take}
use Rattle.layout_tables.proofs.Counts.{message_counted}
use Rattle.version_laws.specs.Differ.{differ}
use Rattle.version_laws.specs.Projected.{projected, projected_from, lifted, lifted_from, with_block, projected_block, lifted_block}
use Rattle.version_laws.proofs.Stands.{Listed}
use Rattle.version_laws.proofs.Tests.{schema_stands}
use Rattle.version_laws.proofs.BlockMoves.{by_bool}
use Rattle.version_laws.specs.declared.difference.Difference.{Difference}
use Rattle.regrade_laws.specs.declared.way.Way.{Way}
use Rattle.regrade_laws.specs.declared.way.Way.TheVariants.{Up, Down}
use Rattle.regrade_laws.specs.Regraded.{way_by, way_of, moved}
use Rattle.regrade_laws.specs.Counts.{filled, filled_of, filled_at, filled_count, dropped, dropped_at, dropped_count}
use Rattle.regrade_laws.specs.Sizes.{HasFewThroughout, most_among}
use Rattle.regrade_laws.proofs.Counting.{few_filled, few_dropped}
use Rattle.regrade_laws.proofs.Entries.{lifted_entries, projected_entries}
use Rattle.regrade_laws.proofs.Filling.{choice_yes, choice_not}
use Rattle.regrade_laws.proofs.Whole.{named_id}

-- each level of a message of a checked schema has few parts
pub few_below : (schema : WireSchema) (i : ℕ) (level : Level) → IsChecked schema → slice_get schema.messages i ≡ Some level → HasFewThroughout level
few_below schema i level checked at =
    record { template = 0 + i; dim = None; each = all_of_message (λ (node : Node). HasFewParts node.level) 0 i schema.messages level checked.counts at }

pub most_grows : (m n : ℕ) → m ≤ n → most_among m ≤ most_among n
most_grows m n h = omega (arith, h)

-- a message has no more entries than its body has bytes
pub entries_within : (schema : WireSchema) (m : Msg) (body : List ℕ) (level : Level) → IsChecked schema → Lays schema m body → slice_get schema.messages m.template ≡ Some level → count_in level m.block ≤ length body
entries_within schema m body level checked lies at = message_counted schema m level body at (messages_take schema checked.entries (acting schema m.version) m.template level at) lies

-- where the way stands, there is no difference
pub up_same : (d : Option Difference) (way : Way) → way_by Up d ≡ Ok way → d ≡ None
up_same None way h = refl
up_same (Some d) way h = cc

pub down_same : (d : Option Difference) (way : Way) → way_by Down d ≡ Ok way → d ≡ None
down_same None way h = refl
down_same (Some d) way h = cc

module _ (from to : WireSchema) (way : Way) (stands : way_of from to ≡ Ok way) where
  pub no_difference_up : nat_le from.version to.version ≡ true → differ from to ≡ None
  no_difference_up up = up_same (differ from to) way (sym (choice_yes (nat_le from.version to.version) (way_by Up (differ from to)) (way_by Down (differ to from)) up) ∙ stands)

  pub no_difference_down : nat_le from.version to.version ≡ false → differ to from ≡ None
  no_difference_down down = down_same (differ to from) way (sym (choice_not (nat_le from.version to.version) (way_by Up (differ from to)) (way_by Down (differ to from)) down) ∙ stands)

module _ (from to : WireSchema) (way : Way) (stands : way_of from to ≡ Ok way) (checked : IsChecked from) (good : IsChecked to) (m : Msg) (body : List ℕ) (lies : Lays from m body) where
  abbrev level : Level
  level = lies.0

  at : slice_get from.messages m.template ≡ Some level
  at = lies.5

  few : (level : Level) (block : Block) → HasFewThroughout level → filled_count level block ≤ most_among (count_in level block)
  few level block h = few_filled level h.template h.dim block h.each

  pub dropped_fits : dropped from to m ≤ most_among (length body)
  dropped_fits =
      by_bool (dropped from to m ≤ most_among (length body)) (nat_le from.version to.version)
      (λ up. let none : dropped from to m ≡ 0 = choice_yes (nat_le from.version to.version) 0 (dropped_at to.version m (slice_get from.messages m.template)) up in omega (arith, none))
      (λ down.
      let h = few_below from m.template level checked at in
      let is : dropped from to m ≡ dropped_count to.version level m.block = choice_not (nat_le from.version to.version) 0 (dropped_at to.version m (slice_get from.messages m.template)) down ∙ ap (dropped_at to.version m) at in
      let most = few_dropped to.version level h.template h.dim m.block h.each in
      let many = entries_within from m body level checked lies at in
      omega (arith, is, most, most_grows (count_in level m.block) (length body) many))

  filled_up : nat_le from.version to.version ≡ true → filled from to m ≤ most_among (length body)
  filled_up up =
      let same = no_difference_up from to way stands up in
      let there = (schema_stands from to same).messages m.template level at in
      let t : ℕ × Level = there.0 in
      let block = lifted_block from.version t.1 m.block in
      let moves : Msg = record { template = t.0; version = m.version; block = block } in
      let lifts : moved from to m ≡ Some moves =
      choice_yes (nat_le from.version to.version) (lifted from to m) (projected to from m) up ∙ ap (lifted_from from to m) at
      ∙ ap (λ o. with_block m o (λ other. lifted_block from.version other m.block)) there.1
      in
      let t_at : slice_get to.messages t.0 ≡ Some t.1 = named_is to (out-Level level).id t there.1 in
      let is : filled from to m ≡ filled_count t.1 block = ap (filled_of to) lifts ∙ ap (filled_at block) t_at in
      let fewer = lifted_entries (Listed (nat_lt from.version to.version)) from.version level t.1 m.block there.2 in
      let many = entries_within from m body level checked lies at in
      omega (arith, is, few t.1 block (few_below to t.0 t.1 good t_at), most_grows (count_in t.1 block) (length body) (omega (arith, fewer, many)))

  filled_down_at : (found : Option (ℕ × Level)) → message_named 0 (out-Level level).id to.messages ≡ found → nat_le from.version to.version ≡ false → filled from to m ≤ most_among (length body)
  filled_down_at None found down =
      let moves : moved from to m ≡ None =
      choice_not (nat_le from.version to.version) (lifted from to m) (projected to from m) down ∙ ap (projected_from to m) at ∙ ap (λ o. with_block m o (λ other. projected_block to.version level m.block)) found
      in
      let none : filled from to m ≡ 0 = ap (filled_of to) moves in
      omega (arith, none)
  filled_down_at (Some t) found down =
      let same = no_difference_down from to way stands down in
      let block = projected_block to.version level m.block in
      let moves : Msg = record { template = t.0; version = m.version; block = block } in
      let drops : moved from to m ≡ Some moves =
      choice_not (nat_le from.version to.version) (lifted from to m) (projected to from m) down ∙ ap (projected_from to m) at ∙ ap (λ o. with_block m o (λ other. projected_block to.version level m.block)) found
      in
      let t_at : slice_get to.messages t.0 ≡ Some t.1 = named_is to (out-Level level).id t found in
      let t_id : (out-Level t.1).id ≡ (out-Level level).id = named_id 0 (out-Level level).id to.messages t found in
      let there = (schema_stands to from same).messages t.0 t.1 t_at in
      let one : Some there.0 ≡ Some (m.template, level) = sym there.1 ∙ ap (λ i. message_named 0 i from.messages) t_id ∙ checked.placed.ids m.template level at in
      let other : there.0 ≡ (m.template, level) = cc in
      let fewer : count_in t.1 (projected_block to.version there.0.1 m.block) ≤ count_in there.0.1 m.block = projected_entries (Listed (nat_lt to.version from.version)) to.version t.1 there.0.1 m.block there.2 in
      let less : count_in t.1 block ≤ count_in level m.block = subst (λ (x : ℕ × Level). count_in t.1 (projected_block to.version x.1 m.block) ≤ count_in x.1 m.block) other fewer in
      let is : filled from to m ≡ filled_count t.1 block = ap (filled_of to) drops ∙ ap (filled_at block) t_at in
      let many = entries_within from m body level checked lies at in
      omega (arith, is, few t.1 block (few_below to t.0 t.1 good t_at), most_grows (count_in t.1 block) (length body) (omega (arith, less, many)))

  pub filled_fits : filled from to m ≤ most_among (length body)
  filled_fits = by_bool (filled from to m ≤ most_among (length body)) (nat_le from.version to.version) filled_up (filled_down_at (message_named 0 (out-Level level).id to.messages) refl)

-- ---- a body has a byte

small_wide : (p : Primitive) → IsSmall p → 1 ≤ prim_width p
small_wide U8 h = omega arith
small_wide U16 h = omega arith
small_wide U32 h = omega arith
small_wide U64 h = absurd h
small_wide Char h = absurd h
small_wide I8 h = absurd h
small_wide I16 h = absurd h
small_wide I32 h = absurd h
small_wide I64 h = absurd h
