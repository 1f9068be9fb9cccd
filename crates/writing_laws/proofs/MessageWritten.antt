-- A message that fits is written as a body in which it lies.
use Rattle.std.proofs.Common.{◌≡◌, ℕ, ◌+◌, List, [], ◌++◌, length, Some, refl, sym, ap, ◌∙◌, subst, arith, append_assoc, length-append}
use Rattle.std.specs.Prelude.{codes, slice_get}
use Rattle.std.proofs.lemmas.List.{append-nil}
use Rattle.sbe_types.specs.declared.kind.Member.{Member}
use Rattle.sbe_types.specs.declared.schema.Field.{Field}
use Rattle.sbe_types.specs.declared.schema.Level.{Level, out-Level}
use Rattle.sbe_types.specs.declared.schema.WireSchema.{WireSchema}
use Rattle.sbe_types.specs.declared.message.Value.{Value}
use Rattle.sbe_types.specs.declared.message.Block.{out-Block}
use Rattle.sbe_types.specs.declared.message.Msg.{Msg}
use Rattle.sbe_types.specs.Places.{members_end}
use Rattle.sbe_types.specs.Wire.{both}
use Rattle.sbe_wire.specs.Versions.{mode_of}
use Rattle.sbe_wire.specs.Lays.{HeaderLays, BlockLays, TailLays, Lays}
use Rattle.sbe_wire.specs.Canonical.{header_numbers, block_bytes, tail_bytes, root_bytes, canonical}
use Rattle.sbe_wire.specs.Fits.{BlockFits, Fits}
use Rattle.sbe_wire.specs.Misfit.{Taken, ◌then◌, take_bytes, fields_misfit, block_taken, tail_taken}
use Rattle.sbe_wire.specs.Placed.{IsPlaced}
use Rattle.sbe_wire.proofs.Levels.{placed_fields}
use Rattle.writing_laws.specs.Writable.{IsWritable}
use Rattle.writing_laws.proofs.Own.{mode_own, writable_fields, ends_within, fields_fit}
use Rattle.writing_laws.proofs.Takings.{Takes, takes_bytes, takes_passed, takes_then, Written}
use Rattle.writing_laws.proofs.NamesWritten.{names_written, names_read}
use Rattle.writing_laws.proofs.BlocksWritten.{block_written, fields_good}
use Rattle.writing_laws.proofs.LevelsWritten.{tail_written}

module _ (schema : WireSchema) (m : Msg) (level : Level) where
  abbrev fields : List Field
  fields = (out-Level level).fields

  abbrev values : List Value
  values = (out-Block m.block).fields

  abbrev wide : ℕ
  wide = (out-Level level).block_length

  abbrev members : List Member
  members = schema.header.members

  -- the header and the root's block as one step, and then the tail, after any bytes
  abbrev pub root_counted : ℕ → ℕ → Taken
  root_counted limit before = block_taken limit before (members_end 0 members + wide) fields values then (λ after. tail_taken limit after level m.block)

  pub root_written : IsPlaced schema → IsWritable schema → slice_get schema.messages m.template ≡ Some level → m.version ≡ schema.version → BlockFits schema.order level m.block →
      Written (root_bytes schema m.block (Some level)) (Lays schema m) root_counted
  root_written placed writable at own fits =
      let order = schema.order in
      let version = schema.version in
      let numbers = header_numbers schema level in
      let level_placed = placed.levels m.template level at in
      let level_writable = writable.levels m.template level at in
      let head = names_written order numbers 0 members (writable.header m.template level at) in
      let fit = fields_fit order level m.block fits in
      let block = block_written order version wide fields values (placed_fields level level_placed) (writable_fields version level level_writable) (ends_within version level level_writable) fit in
      let tail = tail_written order version level level_placed level_writable m.block fits in
      let long : length head.0 ≡ members_end 0 members = omega (arith, head.2) in
      let body : List ℕ = head.0 ++ (block.bytes ++ tail.bytes) in
      let is : root_bytes schema m.block (Some level) ≡ Some body =
      ap (λ o. both o (both (block_bytes order wide fields values) (tail_bytes order level m.block))) head.1
      ∙ ap (λ o. both (Some head.0) (both o (tail_bytes order level m.block))) block.is
      ∙ ap (λ o. both (Some head.0) (both (Some block.bytes) o)) tail.is in
      let header : HeaderLays schema (length block.bytes) (out-Level level).id m.version head.0 = record {
        wide = long;
        says_block = names_read order numbers members head (codes "blockLength") writable.block ∙ sym block.lies.0;
        says_template = names_read order numbers members head (codes "templateId") writable.template;
        says_schema = names_read order numbers members head (codes "schemaId") writable.id;
        says_version = names_read order numbers members head (codes "version") writable.version ∙ sym own;
      } in
      let whole : body ≡ head.0 ++ block.bytes ++ tail.bytes ++ [] = sym (append_assoc head.0 block.bytes tail.bytes) ∙ sym (append-nil (head.0 ++ block.bytes ++ tail.bytes)) in
      let same = sym (mode_own schema m.version own) in
      let mode = mode_of schema m.version in
      let block_lies : BlockLays mode fields values block.bytes = subst (λ o. BlockLays o fields values block.bytes) same block.lies.1 in
      let tail_lies : TailLays mode level m.block tail.bytes = subst (λ o. TailLays o level m.block tail.bytes) same tail.lies in
      let root : ℕ = members_end 0 members + wide in
      let many : length body ≡ root + length tail.bytes = omega (arith, length-append head.0 (block.bytes ++ tail.bytes), length-append block.bytes tail.bytes, long, block.lies.0) in
      record {
        bytes = body;
        is = is;
        lies = (level, head.0, block.bytes, tail.bytes, [], at, whole, header, block_lies, tail_lies, λ k. refl);
        takes =
            subst (Takes root_counted) (sym many)
            (takes_then (λ limit before. block_taken limit before root fields values) (λ limit before. tail_taken limit before level m.block) root (length tail.bytes)
            (takes_passed (λ limit before. take_bytes limit before root) root (fields_misfit 0 fields values) (fields_good order 0 fields values fit) (takes_bytes root))
            tail.takes);
      }

pub canonical_is : (schema : WireSchema) (m : Msg) (level : Level) → slice_get schema.messages m.template ≡ Some level → canonical schema m ≡ root_bytes schema m.block (Some level)
unfolding canonical
canonical_is schema m level at = ap (root_bytes schema m.block) at

pub fits_lies : (schema : WireSchema) → IsPlaced schema → IsWritable schema → (m : Msg) → Fits schema m → (body : List ℕ) × (canonical schema m ≡ Some body) × Lays schema m body
fits_lies schema placed writable m h =
    let w = root_written schema m h.0 placed writable h.1 h.2 h.3 in
    (w.bytes, canonical_is schema m h.0 h.1 ∙ w.is, w.lies)
