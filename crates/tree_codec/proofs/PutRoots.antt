-- What the writers of a whole message do.
use Rattle.std.proofs.lemmas.Bool.{cases_lt}
use Rattle.std.proofs.Common.{◌≡◌, inl, inr, ◌≤◌, ◌<◌, ◌+◌, ℕ, List, [], ◌∷◌, ◌++◌, length, drop, Option, Some, None, refl, sym, ap, ◌∙◌, subst, arith}
use Rattle.std.specs.Prelude.{◌==◌, slice_get}
use Rattle.std.specs.Option.{option_and_then}
use Rattle.sbe_types.specs.declared.message.Block.{Block, out-Block}
use Rattle.sbe_types.specs.declared.message.Msg.{Msg}
use Rattle.sbe_types.specs.declared.schema.Level.{Level, out-Level}
use Rattle.sbe_types.specs.declared.schema.WireSchema.{WireSchema}
use Rattle.sbe_types.specs.Places.{members_end}
use Rattle.sbe_types.specs.Wire.{both}
use Rattle.sbe_wire.specs.Canonical.{block_bytes, canonical, header_numbers, named_bytes, root_bytes, tail_bytes}
use Rattle.sbe_wire.specs.Misfit.{Misfit, bad_shape, block_shape, fields_misfit, misfit, or_else, refusal_of, root_taken, tail_taken, unless}
use Rattle.schema_facts.specs.IsChecked.{IsChecked}
use Rattle.schema_facts.specs.Levels.{level_at, fields_at, fields_in, root_of}
use Rattle.typed_writer.specs.declared.stack.Frame.TheVariants.{Fields, Tail}
use Rattle.typed_writer.specs.declared.states.StartErr.{StartErr}
use Rattle.typed_writer.specs.declared.states.StartErr.TheVariants as start_err
use Rattle.kind_bytes.specs.Members.{followed_by}
use Rattle.typed_writer.specs.Empty.{empty_block}
use Rattle.typed_writer.specs.Held.{Held}
use Rattle.typed_writer.specs.States.{block_at, level_of, parts_done, parts_in_tail}
use Rattle.typed_writer.specs.Steps.{Begins, StartRefused, block_in, first_unset, goes_on_as, header_in, unset_from}
use Rattle.typed_writer.proofs.Holding.{header_holds, header_stands}
use Rattle.typed_writer.proofs.Lists.{behind_both}
use Rattle.tree_codec.specs.Puts.{behind_all, Fills, Puts, tail_stretch, task_of}
use Rattle.tree_codec.proofs.PutParts.{own_block}
use Rattle.tree_codec.proofs.PutSteps.{block_roomy, both_are, both_behind, named_long}
use Rattle.tree_codec.proofs.ShapesBelow.{none_first, none_second}
use Rattle.tree_codec.proofs.WholeMisfit.{misfit_is, unknown}

clash : bad_shape ≡ None → ⊥
clash h = cc

-- the schema has the template of a message without misfit
pub template_there : (schema : WireSchema) (m : Msg) (limit : ℕ) → misfit schema m limit ≡ None → m.template < length schema.messages
template_there schema m limit h = elim (cases_lt m.template (length schema.messages)) [
  | inl less ↦ less
  | inr most ↦ absurd (clash (sym (unknown schema m limit most) ∙ h))
]

-- what a message without misfit has room for
pub record RoomyMessage (schema : WireSchema) (limit : ℕ) (level : Level) (block : Block) : Type 0 where
  pub shape : block_shape level block ≡ None
  pub within : members_end 0 schema.header.members + (out-Level level).block_length ≤ limit
  pub fits : fields_misfit 0 (out-Level level).fields (out-Block block).fields ≡ None
  pub rest : refusal_of (tail_taken limit (members_end 0 schema.header.members + (out-Level level).block_length) level block) ≡ None

pub message_roomy : (schema : WireSchema) (m : Msg) (limit : ℕ) (level : Level) → slice_get schema.messages m.template ≡ Some level → misfit schema m limit ≡ None → RoomyMessage schema limit level m.block
message_roomy schema m limit level there h =
    let shape : Option Misfit = block_shape level m.block in
    let parts : Option Misfit = refusal_of (root_taken schema limit level m.block) in
    let version : Option Misfit = unless (m.version == schema.version) bad_shape in
    let both : or_else shape parts ≡ None = none_second version (or_else shape parts) (sym (misfit_is schema m limit level there) ∙ h) in
    let wide : ℕ = members_end 0 schema.header.members + (out-Level level).block_length in
    let room = block_roomy limit 0 wide (out-Level level).fields (out-Block m.block).fields (λ after. tail_taken limit after level m.block) (none_second shape parts both) in
    let same : 0 + wide ≡ wide = omega arith in
    record {
      shape = none_first shape parts both;
      within = omega (arith, room.0.within);
      fits = room.0.fits;
      rest = ap (λ k. refusal_of (tail_taken limit k level m.block)) (sym same) ∙ room.1;
    }

module _ (schema : WireSchema) (m : Msg) (level : Level) (old : Held) (n : ℕ) (checked : IsChecked schema) (there : slice_get schema.messages m.template ≡ Some level)
    (at : level_at schema n ≡ Some level) (is : n ≡ root_of schema m.template) (fits : misfit schema m old.limit ≡ None) where
  abbrev bl : ℕ
  bl = (out-Level level).block_length

  abbrev head : ℕ
  head = members_end 0 schema.header.members

  room : RoomyMessage schema old.limit level m.block
  room = message_roomy schema m old.limit level there fits

  pub begin_never_refused : (e : StartErr) → StartRefused schema m.template old.limit e → ⊥
  begin_never_refused start_err.Template h = let low = template_there schema m old.limit fits in omega (arith, low, h)
  begin_never_refused (start_err.Full full) h =
      let over = h.1 in
      let within = room.within in
      let size : block_at schema (root_of schema m.template) ≡ bl = ap (block_at schema) (sym is) ∙ own_block schema n level at in
      omega (arith, over, within, size)

  module _ (begun : Held) (begins : Begins schema m.template old begun) where
    pub root_begun : level_of begun.frames ≡ n
    root_begun = ap level_of begins.frames ∙ sym is

    module _ (filled : Held) (fills : Fills (task_of schema level m.block) begun filled) where
      parts : (x : List ℕ) × (y : List ℕ) × (header_in schema m.template ≡ Some x) × (block_in schema (root_of schema m.template) ≡ Some y) × (begun.bytes ≡ x ++ y)
      parts = both_are (header_in schema m.template) (block_in schema (root_of schema m.template)) begun.bytes begins.bytes

      header : named_bytes schema.order (header_numbers schema level) 0 schema.header.members ≡ Some parts.0
      header = sym (ap (λ (o : Option Level). option_and_then (λ (root : Level). named_bytes schema.order (header_numbers schema root) 0 schema.header.members) o) there) ∙ parts.2

      header_long : length parts.0 ≡ head
      header_long =
          let numbers = header_numbers schema level in
          let wide = named_long schema.order numbers 0 schema.header.members parts.0 (header_stands schema checked) (header_holds schema m.template level checked there) header in
          omega (arith, wide)

      empty : followed_by parts.0 (empty_block schema.order bl (out-Level level).fields) ≡ Some begun.bytes
      empty =
          sym (ap (λ k. followed_by parts.0 (block_in schema k)) (sym is)
          ∙ ap (λ b. followed_by parts.0 (empty_block schema.order b (fields_at schema n))) (own_block schema n level at)
          ∙ ap (λ o. followed_by parts.0 (empty_block schema.order bl (fields_in o))) at)
          ∙ ap (followed_by parts.0) parts.3 ∙ ap Some (sym parts.4)

      block_is : followed_by parts.0 (block_bytes schema.order bl (out-Level level).fields (out-Block m.block).fields) ≡ Some filled.bytes
      block_is = fills.bytes parts.0 (header_long ∙ sym begins.at) empty

      root_long : length filled.bytes ≡ head + bl
      root_long = let long = fills.long parts.0 (header_long ∙ sym begins.at) empty in omega (arith, long, header_long)

      root_limit : filled.limit ≡ old.limit
      root_limit = fills.same.limit ∙ begins.limit

      root_frames : filled.frames ≡ Fields n ∷ []
      root_frames = fills.same.frames ∙ begins.frames ∙ ap (λ k. Fields k ∷ []) (sym is)

      -- no field of the root is left to set
      pub root_all_set : first_unset schema (level_of filled.frames) filled.set ≡ None
      root_all_set = ap (λ k. first_unset schema k filled.set) (ap level_of root_frames) ∙ ap (λ o. unset_from 0 (fields_in o) filled.set) at ∙ fills.set

      module _ (tailed : Held) (goes : tailed ≡ goes_on_as filled (Tail (level_of filled.frames) 0)) where
        tailed_is : tailed ≡ goes_on_as filled (Tail n 0)
        tailed_is = goes ∙ ap (λ k. goes_on_as filled (Tail k 0)) (ap level_of root_frames)

        pub root_tail_level : level_at schema (level_of tailed.frames) ≡ Some level
        root_tail_level = ap (λ (h : Held). level_at schema (level_of h.frames)) tailed_is ∙ at

        pub root_tail_begins : parts_done tailed.frames ≡ 0
        root_tail_begins = ap (λ (h : Held). parts_done h.frames) tailed_is

        pub root_tail_room : refusal_of (tail_taken tailed.limit (length tailed.bytes) level m.block) ≡ None
        root_tail_room =
            ap (λ (h : Held). refusal_of (tail_taken h.limit (length h.bytes) level m.block)) tailed_is
            ∙ ap (λ k. refusal_of (tail_taken k (length filled.bytes) level m.block)) root_limit
            ∙ ap (λ k. refusal_of (tail_taken old.limit k level m.block)) root_long
            ∙ room.rest

        module _ (last : Held) (told : Puts (tail_stretch schema.order level m.block) (behind_all schema tailed.frames) tailed last) where
          puts : Puts (tail_stretch schema.order level m.block) (Tail n (parts_in_tail schema n)) (goes_on_as filled (Tail n 0)) last
          puts = subst (λ (h : Held). Puts (tail_stretch schema.order level m.block) (behind_all schema h.frames) h last) tailed_is told

          last_frames : last.frames ≡ Tail n (parts_in_tail schema n) ∷ []
          last_frames = puts.frames ∙ ap (λ fs. Tail n (parts_in_tail schema n) ∷ drop 1 fs) root_frames

          pub root_at_end : parts_done last.frames ≡ parts_in_tail schema (level_of last.frames)
          root_at_end = ap parts_done last_frames ∙ ap (parts_in_tail schema) (sym (ap level_of last_frames))

          pub root_alone : length last.frames ≡ 1
          root_alone = ap length last_frames

          pub message_written : canonical schema m ≡ Some last.bytes
          unfolding canonical
          message_written =
              ap (root_bytes schema m.block) there
              ∙ ap (λ o. both o (both (block_bytes schema.order bl (out-Level level).fields (out-Block m.block).fields) (tail_bytes schema.order level m.block))) header
              ∙ both_behind parts.0 (both (block_bytes schema.order bl (out-Level level).fields (out-Block m.block).fields) (tail_bytes schema.order level m.block))
              ∙ behind_both parts.0 filled.bytes last.bytes _ _ block_is puts.bytes
