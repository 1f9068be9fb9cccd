-- What the writers of a message's parts do, one after another.
use Rattle.std.proofs.Common.{◌≡◌, ◌≤◌, ◌<◌, ◌+◌, ◌-◌, ℕ, suc, true, false, List, ◌∷◌, length, drop, Option, Some, None, Ok, refl, sym, ap, ◌∙◌, subst, arith}
use Rattle.std.specs.Prelude.{slice_get}
use Rattle.std.specs.Option.{option_and_then, option_map_or, IsSome}
use Rattle.sbe_types.specs.declared.message.Block.{Block, out-Block}
use Rattle.sbe_types.specs.declared.message.DataVal.{DataVal}
use Rattle.sbe_types.specs.declared.message.DataVal.TheVariants as dataval
use Rattle.sbe_types.specs.declared.schema.DataField.{DataField}
use Rattle.sbe_types.specs.declared.schema.Level.{Level, out-Level}
use Rattle.sbe_types.specs.declared.schema.WireSchema.{WireSchema}
use Rattle.sbe_types.specs.Numbers.{prim_width}
use Rattle.sbe_wire.specs.Canonical.{part_bytes, parts_bytes}
use Rattle.sbe_wire.specs.Misfit.{Taken, refusal_of, block_shape, part_taken, parts_taken, tail_taken}
use Rattle.schema_facts.specs.Levels.{all_nodes, level_at, groups_at, groups_in, parts_at, parts_in}
use Rattle.layout_tables.specs.Parts.{dim_at}
use Rattle.typed_writer.specs.declared.stack.Frame.TheVariants.{Tail, Entries}
use Rattle.typed_writer.specs.declared.states.TailErr.{TailErr}
use Rattle.typed_writer.specs.declared.states.TailErr.TheVariants as tail_err
use Rattle.kind_bytes.specs.Members.{followed_by}
use Rattle.typed_writer.specs.Held.{Held}
use Rattle.typed_writer.specs.States.{AppendsEntries, AppendsParts, block_at, deep_at, entries_left, level_of, parts_done, parts_in_tail}
use Rattle.typed_writer.specs.Steps.{Adds, DataRefused, PartRefused, next_data}
use Rattle.typed_writer.proofs.Lists.{behind_both}
use Rattle.tree_codec.specs.Puts.{Puts, behind_all, groups_stretch, part_stretch, parts_stretch, tail_stretch}
use Rattle.tree_codec.specs.Rooms.{groups_room}
use Rattle.tree_codec.proofs.PutSteps.{RoomyPart, left_behind, nothing_left, part_long, part_roomy, parts_over, parts_step, tail_bytes_is}
use Rattle.tree_codec.proofs.RoomSteps.{no_part, part_went, tail_went}
use Rattle.tree_codec.proofs.ShapesBelow.{shaped}

some_is : {A : Type 0} {x y : A} → ◌≡◌ {A = Option A} (Some x) (Some y) → x ≡ y
some_is h = cc

true_false : true ≡ false → ⊥
true_false h = cc

-- ---- states

pub parts_on : (schema : WireSchema) (old new : Held) (many : ℕ) → AppendsParts schema old → new.frames ≡ Tail (level_of old.frames) many ∷ drop 1 old.frames →
    many ≤ parts_in_tail schema (level_of old.frames) → AppendsParts schema new
parts_on schema old new many state frames few =
    let level : level_of new.frames ≡ level_of old.frames = ap level_of frames in
    let many_is : parts_done new.frames ≡ many = ap parts_done frames in
    let long : length new.frames ≡ length old.frames = ap length frames ∙ sym (ap length state.frames) in
    record {
      frames = subst (λ fs. fs ≡ Tail (level_of fs) (parts_done fs) ∷ drop 1 fs) (sym frames) refl;
      level = subst (λ k. k < length (all_nodes schema)) (sym level) state.level;
      below = omega (arith, long, state.below, ap (deep_at schema) level);
      done = omega (arith, many_is, few, ap (parts_in_tail schema) level);
    }

pub entries_on : (schema : WireSchema) (old new : Held) (left : ℕ) → AppendsEntries schema old → new.frames ≡ Entries (level_of old.frames) left ∷ drop 1 old.frames → AppendsEntries schema new
entries_on schema old new left state frames =
    let level : level_of new.frames ≡ level_of old.frames = ap level_of frames in
    let long : length new.frames ≡ length old.frames = ap length frames ∙ sym (ap length state.frames) in
    record {
      frames = subst (λ fs. fs ≡ Entries (level_of fs) (entries_left fs) ∷ drop 1 fs) (sym frames) refl;
      group = subst (λ k. IsSome (dim_at schema k)) (sym level) state.group;
      level = subst (λ k. k < length (all_nodes schema)) (sym level) state.level;
      below = omega (arith, long, state.below, ap (deep_at schema) level);
    }

pub own_block : (schema : WireSchema) (n : ℕ) (level : Level) → level_at schema n ≡ Some level → block_at schema n ≡ (out-Level level).block_length
own_block schema n level at = ap (λ o. option_map_or (λ (l : Level). (out-Level l).block_length) o 0) at

-- how many groups and data a level has
pub tail_many : (schema : WireSchema) (n : ℕ) (level : Level) → level_at schema n ≡ Some level → parts_in_tail schema n ≡ length (out-Level level).groups + length (out-Level level).parts
tail_many schema n level at = let groups = ap (λ o. length (groups_in o)) at in let parts = ap (λ o. length (parts_in o)) at in omega (arith, groups, parts)

-- ---- a data part

module _ (schema : WireSchema) (part : DataField) (v : DataVal) (bytes : List ℕ) (old : Held) (is : v ≡ dataval.Bytes bytes) (next : next_data schema old.frames ≡ Some part)
    (room : refusal_of (part_taken old.limit (length old.bytes) part v) ≡ None) where
  roomy : RoomyPart old.limit (length old.bytes) (length bytes) part × (part_taken old.limit (length old.bytes) part (dataval.Bytes bytes) ≡ Ok (length old.bytes + (prim_width part.length.prim + length bytes)))
  roomy = part_roomy old.limit (length old.bytes) part bytes (subst (λ x. refusal_of (part_taken old.limit (length old.bytes) part x) ≡ None) is room)

  refused_by : (e : TailErr) → PartRefused part (length bytes) old e → ⊥
  refused_by tail_err.Count h = h
  refused_by tail_err.Length h = true_false (sym roomy.0.admitted ∙ h)
  refused_by (tail_err.Full full) h = let over = h.1.over in let within = roomy.0.within in omega (arith, over, within)

  pub part_never_refused : (e : TailErr) → DataRefused schema (length bytes) old e → ⊥
  part_never_refused e h =
      let same : h.0 ≡ part = some_is (sym h.1 ∙ next) in
      refused_by e (subst (λ p. PartRefused p (length bytes) old e) same h.2)

  pub part_puts : (new : Held) → Adds schema bytes old new →
      Puts (part_stretch schema.order part v) (Tail (level_of old.frames) (parts_done old.frames + 1)) old new
  part_puts new adds =
      let order = schema.order in
      let told : followed_by old.bytes (part_bytes order part (dataval.Bytes bytes)) ≡ Some new.bytes =
      sym (ap (λ (o : Option DataField). followed_by old.bytes (option_and_then (λ (p : DataField). part_bytes order p (dataval.Bytes bytes)) o)) next) ∙ adds.bytes in
      let long = part_long order part bytes old.bytes new.bytes told in
      subst (λ x. Puts (part_stretch order part x) (Tail (level_of old.frames) (parts_done old.frames + 1)) old new) (sym is) (record {
        bytes = told;
        counted = roomy.1 ∙ ap Ok (sym long);
        frames = adds.frames;
        limit = adds.limit;
      })

-- ---- data

-- The writer stands after the first i data parts of a block; what is left of them follows after its bytes, and is counted on
-- from there.
pub record PartsAt (schema : WireSchema) (n : ℕ) (level : Level) (block : Block) (i : ℕ) (old now : Held) : Type 0 where
  pub state : AppendsParts schema now
  pub frames : now.frames ≡ Tail n (length (out-Level level).groups + i) ∷ drop 1 old.frames
  pub bytes : followed_by now.bytes (parts_bytes schema.order (drop i (out-Level level).parts) (drop i (out-Block block).parts)) ≡ followed_by old.bytes (parts_bytes schema.order (out-Level level).parts (out-Block block).parts)
  pub counted : parts_taken old.limit (length (out-Level level).fields + length (out-Level level).groups + i) (length now.bytes) (drop i (out-Level level).parts) (drop i (out-Block block).parts)
      ≡ parts_taken old.limit (length (out-Level level).fields + length (out-Level level).groups) (length old.bytes) (out-Level level).parts (out-Block block).parts
  pub limit : now.limit ≡ old.limit

module _ (schema : WireSchema) (n : ℕ) (level : Level) (block : Block) (at : level_at schema n ≡ Some level) where
  abbrev ps : List DataField
  ps = (out-Level level).parts

  abbrev vs : List DataVal
  vs = (out-Block block).parts

  abbrev before : ℕ
  before = length (out-Level level).groups

  abbrev first : ℕ
  first = length (out-Level level).fields + length (out-Level level).groups

  pub parts_begin : (old : Held) → AppendsParts schema old → level_of old.frames ≡ n → parts_done old.frames ≡ before → PartsAt schema n level block 0 old old
  parts_begin old state here done =
      let none : before ≡ before + 0 = omega arith in
      let from : first ≡ first + 0 = omega arith in
      record {
        state = state;
        frames = state.frames ∙ ap (λ k. Tail k (parts_done old.frames) ∷ drop 1 old.frames) here ∙ ap (λ k. Tail n k ∷ drop 1 old.frames) (done ∙ none);
        bytes = refl;
        counted = ap (λ k. parts_taken old.limit k (length old.bytes) ps vs) (sym from);
        limit = refl;
      }

  module _ (i : ℕ) (old now : Held) (walk : PartsAt schema n level block i old now) where
    here : level_of now.frames ≡ n
    here = ap level_of walk.frames

    many : parts_done now.frames ≡ before + i
    many = ap parts_done walk.frames

    pub part_behind_groups : length (groups_at schema (level_of now.frames)) ≤ parts_done now.frames
    part_behind_groups =
        let groups : length (groups_at schema (level_of now.frames)) ≡ before = ap (λ k. length (groups_at schema k)) here ∙ ap (λ o. length (groups_in o)) at in
        omega (arith, groups, many)

    pub part_is_left : i < length ps → parts_done now.frames < parts_in_tail schema (level_of now.frames)
    part_is_left more = let all = ap (parts_in_tail schema) here ∙ tail_many schema n level at in omega (arith, all, many, more)

    pub part_is_next : (p : DataField) → slice_get ps i ≡ Some p → next_data schema now.frames ≡ Some p
    part_is_next p there =
        let groups : length (groups_at schema (level_of now.frames)) ≡ before = ap (λ k. length (groups_at schema k)) here ∙ ap (λ o. length (groups_in o)) at in
        let number : parts_done now.frames - length (groups_at schema (level_of now.frames)) ≡ i = omega (arith, groups, many) in
        ap (λ k. slice_get (parts_at schema (level_of now.frames)) k) number
        ∙ ap (λ k. slice_get (parts_at schema k) i) here ∙ ap (λ o. slice_get (parts_in o) i) at ∙ there

    pub part_counted : parts_taken now.limit (first + i) (length now.bytes) (drop i ps) (drop i vs) ≡ parts_taken old.limit first (length old.bytes) ps vs
    part_counted = ap (λ m. parts_taken m (first + i) (length now.bytes) (drop i ps) (drop i vs)) walk.limit ∙ walk.counted

    pub parts_next : (p : DataField) (v : DataVal) (new : Held) → slice_get ps i ≡ Some p → slice_get vs i ≡ Some v → AppendsParts schema new →
        Puts (part_stretch schema.order p v) (Tail (level_of now.frames) (parts_done now.frames + 1)) now new → PartsAt schema n level block (i + 1) old new
    parts_next p v new there value state puts =
        let number : parts_done now.frames + 1 ≡ before + (i + 1) = omega (arith, many) in
        let next : first + (i + 1) ≡ suc (first + i) = omega arith in
        let taken : Ok (length new.bytes) ≡ part_taken old.limit (length now.bytes) p v = sym (sym (ap (λ m. part_taken m (length now.bytes) p v) walk.limit) ∙ puts.counted) in
        record {
          state = state;
          frames = puts.frames ∙ ap (λ k. Tail k (parts_done now.frames + 1) ∷ drop 1 now.frames) here ∙ ap (λ k. Tail n k ∷ drop 1 now.frames) number
              ∙ ap (λ fs. Tail n (before + (i + 1)) ∷ drop 1 fs) walk.frames;
          bytes = left_behind now.bytes new.bytes (part_bytes schema.order p v) _ _ _ puts.bytes (parts_step schema.order i ps vs p v there value) walk.bytes;
          counted = part_went old.limit (first + i) i (length now.bytes) ps vs p v there value (length new.bytes) (first + (i + 1)) next taken ∙ walk.counted;
          limit = puts.limit ∙ walk.limit;
        }

    pub parts_end : length ps ≡ i → length vs ≡ i →
        Puts (parts_stretch schema.order level block) (Tail n (parts_in_tail schema n)) old now
    parts_end all same =
        let tail : before + i ≡ parts_in_tail schema n = omega (arith, tail_many schema n level at, all) in
        record {
          bytes = nothing_left now.bytes _ _ (parts_over schema.order i ps vs (omega (arith, all)) (omega (arith, same))) walk.bytes;
          counted = sym (no_part old.limit (first + i) i (length now.bytes) ps vs (omega (arith, all, same)) ∙ walk.counted);
          frames = walk.frames ∙ ap (λ k. Tail n k ∷ drop 1 old.frames) tail;
          limit = walk.limit;
        }

-- ---- groups and data

pub tail_puts : (schema : WireSchema) (k : ℕ) (level : Level) (block : Block) (old mid new : Held) → block_shape level block ≡ None →
    Puts (groups_stretch schema.order level block) (Tail (level_of old.frames) k) old mid →
    Puts (parts_stretch schema.order level block) (behind_all schema mid.frames) mid new →
    Puts (tail_stretch schema.order level block) (behind_all schema old.frames) old new
tail_puts schema k level block old mid new shape a b =
    let parts : ℕ → ℕ → Taken = λ m at. parts_taken m (length (out-Level level).fields + length (out-Level level).groups) at (out-Level level).parts (out-Block block).parts in
    record {
      bytes = ap (followed_by old.bytes) (tail_bytes_is schema.order level block) ∙ behind_both old.bytes mid.bytes new.bytes _ _ a.bytes b.bytes;
      counted = sym (tail_went old.limit (length old.bytes) (length mid.bytes) level block (shaped level block shape).groups (sym a.counted))
          ∙ ap (λ m. parts m (length mid.bytes)) (sym a.limit) ∙ b.counted;
      frames = b.frames ∙ ap (λ fs. behind_all schema fs ∷ drop 1 fs) a.frames;
      limit = b.limit ∙ a.limit;
    }

-- what is left for the data has room
pub tail_room : (limit before after : ℕ) (level : Level) (block : Block) → block_shape level block ≡ None → refusal_of (tail_taken limit before level block) ≡ None →
    groups_room limit (length (out-Level level).fields) before (out-Level level).groups (out-Block block).groups ≡ Ok after →
    refusal_of (parts_taken limit (length (out-Level level).fields + length (out-Level level).groups) after (out-Level level).parts (out-Block block).parts) ≡ None
tail_room limit before after level block shape room h =
    ap refusal_of (tail_went limit before after level block (shaped level block shape).groups (sym h)) ∙ room
