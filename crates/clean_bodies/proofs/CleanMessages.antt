-- A message whose body is its canonical one.
use Rattle.std.proofs.Common.{◌≡◌, ℕ, List, [], ◌++◌, length, take, drop, Option, Some, sym, ap, ◌∙◌, subst, arith, append_assoc, append-nil, length-append}
use Rattle.std.specs.Prelude.{codes}
use Rattle.std.proofs.lemmas.List.{take_at, drop_at}
use Rattle.byte_digits.specs.Digits.{IsBytes}
use Rattle.byte_digits.proofs.Bytes.{IsBytes-take}
use Rattle.sbe_types.specs.declared.kind.Member.{Member}
use Rattle.sbe_types.specs.declared.schema.Level.{Level, out-Level}
use Rattle.sbe_types.specs.declared.schema.WireSchema.{WireSchema}
use Rattle.sbe_types.specs.declared.message.Block.{out-Block}
use Rattle.sbe_types.specs.Places.{members_end}
use Rattle.sbe_types.specs.Wire.{both}
use Rattle.sbe_wire.specs.Canonical.{header_numbers, named_bytes, canonical}
use Rattle.sbe_wire.specs.Lays.{BlockLays, TailLays}
use Rattle.sbe_wire.specs.Versions.{own_mode}
use Rattle.writing_laws.specs.Writable.{HasNamed}
use Rattle.writing_laws.proofs.MessageWritten.{canonical_is}
use Rattle.writing_laws.proofs.Own.{known_own, mode_own}
use Rattle.clean_bodies.specs.Bodies.{IsCanonicalRoot}
use Rattle.clean_bodies.specs.Good.{IsGoodLevel}
use Rattle.clean_bodies.specs.Says.{SayNumbers}
use Rattle.clean_bodies.specs.Steps.{Place, entry_bytes, EntryIs, EntryStep}
use Rattle.clean_bodies.proofs.Named.{named_are, named_read}

some_level : {a b : Level} → ◌≡◌ {A = Option Level} (Some a) (Some b) → a ≡ b
some_level h = cc

module _ (schema : WireSchema) (level : Level) (body : List ℕ) where
  abbrev members : List Member
  members = schema.header.members

  abbrev size : ℕ
  size = members_end 0 schema.header.members

  abbrev wide : ℕ
  wide = (out-Level level).block_length

  abbrev place : Place
  place = record { order = schema.order; version = schema.version; body = body }

  -- a message of this root, whose parts were seen to be clean
  pub message_clean : (next : ℕ) → IsGoodLevel schema.version level → HasNamed members (codes "blockLength") → IsBytes body
      → SayNumbers schema.order (header_numbers schema level) 0 members (take size body) → EntryStep place level size next
      → IsCanonicalRoot schema level body
  message_clean next known named good says whole m own at h =
      let order = schema.order in
      let version = schema.version in
      let header : List ℕ = h.1 in
      let block : List ℕ = h.2 in
      let tail : List ℕ = h.3 in
      let rest : List ℕ = h.4 in
      let same : h.0 ≡ level = some_level (sym h.5 ∙ at) in
      let head = h.7 in
      let is_ours = known_own schema m.version own in
      let mode = own_mode order version in
      let same_mode = mode_own schema m.version own in
      let block_lays : BlockLays mode (out-Level level).fields (out-Block m.block).fields block =
      subst (λ l. BlockLays mode (out-Level l).fields (out-Block m.block).fields block) same
      (subst (λ o. BlockLays o (out-Level h.0).fields (out-Block m.block).fields block) same_mode h.8) in
      let tail_lays : TailLays mode level m.block tail =
      subst (λ l. TailLays mode l m.block tail) same (subst (λ o. TailLays o h.0 m.block tail) same_mode h.9) in
      let nothing : rest ≡ [] = h.10 is_ours in
      let split : body ≡ header ++ (block ++ (tail ++ rest)) =
      h.6 ∙ append_assoc (header ++ block) tail rest ∙ append_assoc header block (tail ++ rest) in
      let front : take size body ≡ header = ap (take size) split ∙ take_at header (block ++ (tail ++ rest)) size head.wide in
      let after : drop size body ≡ block ++ (tail ++ rest) = ap (drop size) split ∙ drop_at header (block ++ (tail ++ rest)) size head.wide in
      let there_says : SayNumbers order (header_numbers schema level) 0 members header =
      subst (SayNumbers order (header_numbers schema level) 0 members) front says in
      let header_good : IsBytes header = subst IsBytes front (IsBytes-take size body good) in
      let own_header : named_bytes order (header_numbers schema level) 0 members ≡ Some header =
      named_are order (header_numbers schema level) header members there_says header_good head.wide in
      let long : length block ≡ wide =
      sym head.says_block ∙ named_read order (header_numbers schema level) header members there_says (codes "blockLength") named in
      let front_is : take wide (block ++ tail) ≡ block = take_at block tail wide long in
      let back_is : drop wide (block ++ tail) ≡ tail = drop_at block tail wide long in
      let entry : EntryIs order version level m.block (block ++ tail) = (
        omega (arith, long, length-append block tail),
        subst (BlockLays mode (out-Level level).fields (out-Block m.block).fields) (sym front_is) block_lays,
        subst (TailLays mode level m.block) (sym back_is) tail_lays,
      ) in
      let own_entry = whole.is m.block (block ++ tail) rest (after ∙ sym (append_assoc block tail rest)) entry in
      canonical_is schema m level at
      ∙ ap (λ o. both o (entry_bytes order level m.block)) own_header
      ∙ ap (both (Some header)) own_entry
      ∙ ap (λ t. Some (header ++ (block ++ t))) (sym (append-nil tail) ∙ ap (λ r. tail ++ r) (sym nothing))
      ∙ ap Some (sym split)
