-- What the writers of groups, entries and whole messages do.
use Rattle.std.proofs.Common.{◌≡◌, ◌≤◌, ◌<◌, ◌+◌, ◌-◌, ◌^◌, ℕ, suc, true, false, List, [], ◌∷◌, length, drop, Option, Some, None, Ok, refl, sym, ap, ◌∙◌, subst, arith, length-append}
use Rattle.std.proofs.lemmas.List.{drop_all}
use Rattle.std.specs.Prelude.{slice_get, codes}
use Rattle.std.specs.Option.{option_and_then, option_map_or}
use Rattle.sbe_types.specs.declared.kind.Member.{Member}
use Rattle.sbe_types.specs.declared.message.Block.{Block, out-Block}
use Rattle.sbe_types.specs.declared.message.GroupVal.{GroupVal}
use Rattle.sbe_types.specs.declared.message.GroupVal.TheVariants as groupval
use Rattle.sbe_types.specs.declared.schema.Group.{Group, out-Group}
use Rattle.sbe_types.specs.declared.schema.Level.{Level, out-Level}
use Rattle.sbe_types.specs.declared.schema.WireSchema.{WireSchema}
use Rattle.sbe_types.specs.Places.{members_end}
use Rattle.sbe_wire.specs.Canonical.{all_bytes, block_bytes, dimension_numbers, entries_bytes, entries_in, group_bytes, named_bytes}
use Rattle.sbe_wire.specs.Misfit.{Taken, refusal_of, bad_shape, block_shape, entries_shape, group_shape, fields_misfit, each_taken, tail_taken, group_taken}
use Rattle.sbe_wire.specs.Named.{is_admitted}
use Rattle.schema_facts.specs.IsChecked.{IsChecked}
use Rattle.schema_facts.specs.Levels.{level_at, fields_at, fields_in, groups_at, groups_in}
use Rattle.layout_tables.specs.Parts.{dim_at, group_number}
use Rattle.flyweight_view.proofs.GroupsTold.{from_number}
use Rattle.body_walk.proofs.Opens.{Child, child_here, level_within}
use Rattle.typed_writer.specs.declared.stack.Frame.TheVariants.{Fields, Tail, Entries}
use Rattle.typed_writer.specs.declared.states.TailErr.{TailErr}
use Rattle.typed_writer.specs.declared.states.TailErr.TheVariants as tail_err
use Rattle.kind_bytes.specs.Members.{followed_by}
use Rattle.typed_writer.specs.Empty.{empty_block}
use Rattle.typed_writer.specs.Held.{Held}
use Rattle.typed_writer.specs.States.{AppendsEntries, AppendsParts, block_at, entries_left, level_of, parts_done, parts_in_tail}
use Rattle.typed_writer.specs.Steps.{GroupRefused, Groups, Opens, admits_entries, block_in, dimension_in, dimension_size, ends, goes_on_as, next_group}
use Rattle.typed_writer.proofs.Grouping.{dim_holds, dim_stands}
use Rattle.typed_writer.proofs.Lists.{behind_both}
use Rattle.tree_codec.specs.Puts.{Fills, Puts, behind_all, entries_stretch, entry_put, entry_stretch, group_stretch, groups_put, groups_stretch, tail_stretch, task_of}
use Rattle.tree_codec.specs.Rooms.{entry_room, groups_room}
use Rattle.tree_codec.proofs.PutParts.{own_block}
use Rattle.tree_codec.proofs.PutSteps.{RoomyGroup, admitted_small, behind_is, block_roomy, entries_over, entries_step, group_bytes_is, group_roomy, groups_over, groups_step, left_behind, named_long, nothing_left, then_none}
use Rattle.tree_codec.proofs.RoomSteps.{behind_block, entry_went, got, group_went, no_group, tail_is}
use Rattle.tree_codec.proofs.LevelShapes.{group_is as shape_is}

true_false : true ≡ false → ⊥
true_false h = cc

clash : bad_shape ≡ None → ⊥
clash h = cc

-- a group of a shape is there
pub never_absent : (g : Group) (v : GroupVal) → v ≡ groupval.Absent → group_shape g v ≡ None → ⊥
never_absent g v is h = clash (sym (shape_is g v ∙ ap (λ x. entries_shape (λ entry. block_shape (out-Group g).level entry) (entries_in x)) is) ∙ h)

-- the groups of a block have room where all that is after it has
pub groups_have_room : (limit before : ℕ) (level : Level) (block : Block) → refusal_of (tail_taken limit before level block) ≡ None →
    refusal_of (groups_room limit (length (out-Level level).fields) before (out-Level level).groups (out-Block block).groups) ≡ None
groups_have_room limit before level block room =
    let all = then_none (groups_room limit (length (out-Level level).fields) before (out-Level level).groups (out-Block block).groups) _ (ap refusal_of (sym (tail_is limit before level block)) ∙ room) in
    ap refusal_of all.1

-- ---- groups

-- The writer stands after the first i groups of a block; what is left of them follows after its bytes, and is counted on from
-- there.
pub record GroupsAt (schema : WireSchema) (n : ℕ) (level : Level) (block : Block) (i : ℕ) (old now : Held) : Type 0 where
  pub state : AppendsParts schema now
  pub frames : now.frames ≡ Tail n i ∷ drop 1 old.frames
  pub bytes : followed_by now.bytes (groups_put schema.order (drop i (out-Level level).groups) (drop i (out-Block block).groups)) ≡ followed_by old.bytes (groups_put schema.order (out-Level level).groups (out-Block block).groups)
  pub counted : groups_room old.limit (length (out-Level level).fields + i) (length now.bytes) (drop i (out-Level level).groups) (drop i (out-Block block).groups)
      ≡ groups_room old.limit (length (out-Level level).fields) (length old.bytes) (out-Level level).groups (out-Block block).groups
  pub limit : now.limit ≡ old.limit

module _ (schema : WireSchema) (n : ℕ) (level : Level) (block : Block) (at : level_at schema n ≡ Some level) where
  abbrev gs : List Group
  gs = (out-Level level).groups

  abbrev vs : List GroupVal
  vs = (out-Block block).groups

  abbrev first : ℕ
  first = length (out-Level level).fields

  pub groups_start : (old : Held) → AppendsParts schema old → level_of old.frames ≡ n → parts_done old.frames ≡ 0 → GroupsAt schema n level block 0 old old
  groups_start old state here done =
      let from : first ≡ first + 0 = omega arith in
      record {
        state = state;
        frames = state.frames ∙ ap (λ k. Tail k (parts_done old.frames) ∷ drop 1 old.frames) here ∙ ap (λ k. Tail n k ∷ drop 1 old.frames) done;
        bytes = refl;
        counted = ap (λ k. groups_room old.limit k (length old.bytes) gs vs) (sym from);
        limit = refl;
      }

  module _ (i : ℕ) (old now : Held) (walk : GroupsAt schema n level block i old now) where
    here : level_of now.frames ≡ n
    here = ap level_of walk.frames

    many : parts_done now.frames ≡ i
    many = ap parts_done walk.frames

    pub group_is_left : i < length gs → parts_done now.frames < length (groups_at schema (level_of now.frames))
    group_is_left more =
        let groups : length (groups_at schema (level_of now.frames)) ≡ length gs = ap (λ k. length (groups_at schema k)) here ∙ ap (λ o. length (groups_in o)) at in
        omega (arith, groups, many, more)

    -- the level and the dimension of the next group
    pub next_child : (g : Group) → slice_get gs i ≡ Some g → i < length gs → Child schema (next_group schema now.frames) g
    next_child g there more =
        let groups : length (groups_at schema n) ≡ length gs = ap (λ o. length (groups_in o)) at in
        let from = from_number schema n i (group_number schema n i) (level_within schema n level at) (omega (arith, groups, more)) refl in
        let next : next_group schema now.frames ≡ group_number schema n i = ap (λ k. group_number schema k (parts_done now.frames)) here ∙ ap (group_number schema n) many in
        subst (λ k. Child schema k g) (sym next) (child_here schema n level at (group_number schema n i) i from more g (got gs i g there))

    pub group_counted : groups_room now.limit (first + i) (length now.bytes) (drop i gs) (drop i vs) ≡ groups_room old.limit first (length old.bytes) gs vs
    group_counted = ap (λ m. groups_room m (first + i) (length now.bytes) (drop i gs) (drop i vs)) walk.limit ∙ walk.counted

    pub groups_next : (g : Group) (v : GroupVal) (new : Held) → slice_get gs i ≡ Some g → slice_get vs i ≡ Some v → AppendsParts schema new →
        Puts (group_stretch schema.order g v) (Tail (level_of now.frames) (parts_done now.frames + 1)) now new → GroupsAt schema n level block (i + 1) old new
    groups_next g v new there value state puts =
        let next : first + (i + 1) ≡ suc (first + i) = omega arith in
        let taken : Ok (length new.bytes) ≡ group_taken old.limit (length now.bytes) g v = sym (sym (ap (λ m. group_taken m (length now.bytes) g v) walk.limit) ∙ puts.counted) in
        record {
          state = state;
          frames = puts.frames ∙ ap (λ k. Tail k (parts_done now.frames + 1) ∷ drop 1 now.frames) here ∙ ap (λ k. Tail n (k + 1) ∷ drop 1 now.frames) many
              ∙ ap (λ fs. Tail n (i + 1) ∷ drop 1 fs) walk.frames;
          bytes = left_behind now.bytes new.bytes (group_bytes schema.order g v) _ _ _ puts.bytes (groups_step schema.order i gs vs g v there value) walk.bytes;
          counted = group_went old.limit (first + i) i (length now.bytes) gs vs g v there value (length new.bytes) (first + (i + 1)) next taken ∙ walk.counted;
          limit = puts.limit ∙ walk.limit;
        }

    pub groups_end : length gs ≡ i → length vs ≡ i → Puts (groups_stretch schema.order level block) (Tail n (length gs)) old now
    groups_end all same =
        record {
          bytes = nothing_left now.bytes _ _ (groups_over schema.order i gs vs (omega (arith, all)) (omega (arith, same))) walk.bytes;
          counted = sym (no_group old.limit (first + i) i (length now.bytes) gs vs (omega (arith, all, same)) ∙ walk.counted);
          frames = walk.frames ∙ ap (λ k. Tail n k ∷ drop 1 old.frames) (sym all);
          limit = walk.limit;
        }

-- ---- a group

-- the dimension of a group's entries was put
pub record GroupOpened (schema : WireSchema) (n : ℕ) (g : Group) (es : List Block) (old mid : Held) : Type 0 where
  pub bytes : followed_by old.bytes (named_bytes schema.order (dimension_numbers (out-Level (out-Group g).level).block_length (length es)) 0 (out-Group g).dim) ≡ Some mid.bytes
  pub long : length mid.bytes ≡ length old.bytes + members_end 0 (out-Group g).dim
  pub frames : mid.frames ≡ Entries n (length es) ∷ Tail (level_of old.frames) (parts_done old.frames + 1) ∷ drop 1 old.frames
  pub limit : mid.limit ≡ old.limit

module _ (schema : WireSchema) (n : ℕ) (g : Group) (v : GroupVal) (es : List Block) (old : Held) (checked : IsChecked schema) (at : level_at schema n ≡ Some (out-Group g).level)
    (dim_is : dim_at schema n ≡ Some (out-Group g).dim) (is : entries_in v ≡ Some es) (room : refusal_of (group_taken old.limit (length old.bytes) g v) ≡ None) where
  abbrev dim : List Member
  dim = (out-Group g).dim

  abbrev bl : ℕ
  bl = (out-Level (out-Group g).level).block_length

  roomy : RoomyGroup old.limit (length old.bytes) g es × (group_taken old.limit (length old.bytes) g v ≡ each_taken (λ at entry. entry_room old.limit (out-Group g).level at entry) 0 (length old.bytes + members_end 0 dim) es)
  roomy = group_roomy old.limit (length old.bytes) g v es is room

  admitted : admits_entries schema n (length es) ≡ true
  admitted = ap (λ o. option_map_or (λ (dim : List Member). is_admitted dim (codes "numInGroup") (length es)) o false) dim_is ∙ roomy.0.admitted

  -- the count is one of four bytes
  pub count_small : length es < 2 ^ 32
  count_small = admitted_small (dimension_numbers (block_at schema n) (length es)) (length es) 0 dim refl (dim_holds schema n (length es) dim checked dim_is admitted) roomy.0.admitted

  refused_by : (e : TailErr) → GroupRefused schema n (length es) old e → ⊥
  refused_by tail_err.Count h = true_false (sym admitted ∙ h)
  refused_by tail_err.Length h = h
  refused_by (tail_err.Full full) h =
      let over = h.1.over in
      let within = roomy.0.within in
      let wide : dimension_size schema n ≡ members_end 0 dim = ap (λ o. option_map_or (λ (dim : List Member). members_end 0 dim) o 0) dim_is in
      omega (arith, over, within, wide)

  pub group_never_refused : (e : TailErr) → next_group schema old.frames ≡ n → GroupRefused schema (next_group schema old.frames) (length es) old e → ⊥
  group_never_refused e next h = refused_by e (subst (λ k. GroupRefused schema k (length es) old e) next h)

  pub group_opened : (mid : Held) → next_group schema old.frames ≡ n → Groups schema (length es) old mid → GroupOpened schema n g es old mid
  group_opened mid next groups =
      let numbers = dimension_numbers bl (length es) in
      let told : followed_by old.bytes (named_bytes schema.order (dimension_numbers bl (length es)) 0 dim) ≡ Some mid.bytes =
      sym (ap (λ k. followed_by old.bytes (dimension_in schema k (length es))) next
      ∙ ap (λ (o : Option (List Member)). followed_by old.bytes (option_and_then (λ (dim : List Member). named_bytes schema.order (dimension_numbers (block_at schema n) (length es)) 0 dim) o)) dim_is
      ∙ ap (λ b. followed_by old.bytes (named_bytes schema.order (dimension_numbers b (length es)) 0 dim)) (own_block schema n (out-Group g).level at))
      ∙ groups.bytes in
      let piece = behind_is old.bytes (named_bytes schema.order (dimension_numbers bl (length es)) 0 dim) mid.bytes told in
      let back : named_bytes schema.order (dimension_numbers (block_at schema n) (length es)) 0 dim ≡ Some piece.0 =
      ap (λ b. named_bytes schema.order (dimension_numbers b (length es)) 0 dim) (own_block schema n (out-Group g).level at) ∙ piece.1 in
      let wide = named_long schema.order (dimension_numbers (block_at schema n) (length es)) 0 dim piece.0 (dim_stands schema n dim checked dim_is) (dim_holds schema n (length es) dim checked dim_is admitted) back in
      record {
        bytes = told;
        long = omega (arith, wide, ap length piece.2, length-append old.bytes piece.0);
        frames = groups.frames ∙ ap (λ k. Entries k (length es) ∷ Tail (level_of old.frames) (parts_done old.frames + 1) ∷ drop 1 old.frames) next;
        limit = groups.limit;
      }

  -- its entries have room
  pub entries_have_room : (mid : Held) → GroupOpened schema n g es old mid → refusal_of (each_taken (λ at entry. entry_room mid.limit (out-Group g).level at entry) 0 (length mid.bytes) es) ≡ None
  entries_have_room mid opened =
      ap (λ m. refusal_of (each_taken (λ at entry. entry_room m (out-Group g).level at entry) 0 (length mid.bytes) es)) opened.limit
      ∙ ap (λ k. refusal_of (each_taken (λ at entry. entry_room old.limit (out-Group g).level at entry) 0 k es)) opened.long
      ∙ roomy.0.rest

  pub group_puts : (mid last new : Held) → GroupOpened schema n g es old mid →
      Puts (entries_stretch schema.order (out-Group g).level es) (Entries (level_of mid.frames) 0) mid last →
      new ≡ ends last → Puts (group_stretch schema.order g v) (Tail (level_of old.frames) (parts_done old.frames + 1)) old new
  group_puts mid last new opened puts ended =
      let order = schema.order in
      let by : ℕ → ℕ → Block → Taken = λ m at entry. entry_room m (out-Group g).level at entry in
      let written : followed_by old.bytes (group_bytes order g v) ≡ Some last.bytes =
      ap (followed_by old.bytes) (group_bytes_is order g v ∙ ap (entries_bytes order dim bl (λ entry. entry_put order (out-Group g).level entry)) is)
      ∙ behind_both old.bytes mid.bytes last.bytes _ _ opened.bytes puts.bytes in
      let counted : group_taken old.limit (length old.bytes) g v ≡ Ok (length last.bytes) =
      roomy.1 ∙ ap (λ k. each_taken (by old.limit) 0 k es) (sym opened.long) ∙ ap (λ m. each_taken (by m) 0 (length mid.bytes) es) (sym opened.limit) ∙ puts.counted in
      subst (λ h. Puts (group_stretch order g v) (Tail (level_of old.frames) (parts_done old.frames + 1)) old h) (sym ended) (record {
        bytes = written;
        counted = counted;
        frames = ap (drop 1) puts.frames ∙ ap (drop 1) opened.frames;
        limit = puts.limit ∙ opened.limit;
      })

-- ---- entries

-- The writer stands after the first i entries of a group; what is left of them follows after its bytes, and is counted on from
-- there.
pub record EntriesAt (schema : WireSchema) (n : ℕ) (level : Level) (es : List Block) (i : ℕ) (old now : Held) : Type 0 where
  pub state : AppendsEntries schema now
  pub frames : now.frames ≡ Entries n (length es - i) ∷ drop 1 old.frames
  pub bytes : followed_by now.bytes (all_bytes (λ entry. entry_put schema.order level entry) (drop i es)) ≡ followed_by old.bytes (all_bytes (λ entry. entry_put schema.order level entry) es)
  pub counted : each_taken (λ at entry. entry_room old.limit level at entry) i (length now.bytes) (drop i es) ≡ each_taken (λ at entry. entry_room old.limit level at entry) 0 (length old.bytes) es
  pub limit : now.limit ≡ old.limit

module _ (schema : WireSchema) (n : ℕ) (level : Level) (es : List Block) where
  pub entries_start : (old : Held) → AppendsEntries schema old → level_of old.frames ≡ n → entries_left old.frames ≡ length es → EntriesAt schema n level es 0 old old
  entries_start old state here left =
      let all : length es ≡ length es - 0 = omega arith in
      record {
        state = state;
        frames = state.frames ∙ ap (λ k. Entries k (entries_left old.frames) ∷ drop 1 old.frames) here ∙ ap (λ k. Entries n k ∷ drop 1 old.frames) (left ∙ all);
        bytes = refl;
        counted = refl;
        limit = refl;
      }

  module _ (i : ℕ) (old now : Held) (walk : EntriesAt schema n level es i old now) where
    pub entry_is_of : level_of now.frames ≡ n
    entry_is_of = ap level_of walk.frames

    left_now : entries_left now.frames ≡ length es - i
    left_now = ap entries_left walk.frames

    pub entry_is_left : i < length es → 0 < entries_left now.frames
    entry_is_left more = omega (arith, left_now, more)

    pub entry_counted : each_taken (λ at entry. entry_room now.limit level at entry) i (length now.bytes) (drop i es) ≡ each_taken (λ at entry. entry_room old.limit level at entry) 0 (length old.bytes) es
    entry_counted = ap (λ m. each_taken (λ at entry. entry_room m level at entry) i (length now.bytes) (drop i es)) walk.limit ∙ walk.counted

    pub entries_next : (e : Block) (new : Held) → slice_get es i ≡ Some e → AppendsEntries schema new →
        Puts (entry_stretch schema.order level e) (Entries (level_of now.frames) (entries_left now.frames - 1)) now new → EntriesAt schema n level es (i + 1) old new
    entries_next e new there state puts =
        let left : entries_left now.frames - 1 ≡ length es - (i + 1) = omega (arith, left_now) in
        let taken : Ok (length new.bytes) ≡ entry_room old.limit level (length now.bytes) e = sym (sym (ap (λ m. entry_room m level (length now.bytes) e) walk.limit) ∙ puts.counted) in
        record {
          state = state;
          frames = puts.frames ∙ ap (λ k. Entries k (entries_left now.frames - 1) ∷ drop 1 now.frames) entry_is_of ∙ ap (λ k. Entries n k ∷ drop 1 now.frames) left ∙ ap (λ fs. Entries n (length es - (i + 1)) ∷ drop 1 fs) walk.frames;
          bytes = left_behind now.bytes new.bytes (entry_put schema.order level e) _ _ _ puts.bytes (entries_step schema.order i level es e there) walk.bytes;
          counted = entry_went old.limit i (length now.bytes) level es e there (length new.bytes) taken ∙ walk.counted;
          limit = puts.limit ∙ walk.limit;
        }

    pub entries_end : length es ≡ i →
        Puts (entries_stretch schema.order level es) (Entries n 0) old now
    entries_end all =
        let none : drop i es ≡ [] = drop_all i es (omega (arith, all)) in
        let left : length es - i ≡ 0 = omega (arith, all) in
        record {
          bytes = nothing_left now.bytes _ _ (entries_over schema.order i level es (omega (arith, all))) walk.bytes;
          counted = sym walk.counted ∙ ap (each_taken (λ at entry. entry_room old.limit level at entry) i (length now.bytes)) none;
          frames = walk.frames ∙ ap (λ k. Entries n k ∷ drop 1 old.frames) left;
          limit = walk.limit;
        }

-- ---- an entry

-- an entry's block and its groups and data have room
pub record RoomyEntry (limit before : ℕ) (level : Level) (entry : Block) : Type 0 where
  pub within : before + (out-Level level).block_length ≤ limit
  pub fits : fields_misfit 0 (out-Level level).fields (out-Block entry).fields ≡ None
  pub rest : refusal_of (tail_taken limit (before + (out-Level level).block_length) level entry) ≡ None
  pub taken : tail_taken limit (before + (out-Level level).block_length) level entry ≡ entry_room limit level before entry

pub entry_roomy : (limit before : ℕ) (level : Level) (entry : Block) → refusal_of (entry_room limit level before entry) ≡ None → RoomyEntry limit before level entry
entry_roomy limit before level entry room =
    let h = block_roomy limit before (out-Level level).block_length (out-Level level).fields (out-Block entry).fields (λ after. tail_taken limit after level entry) room in
    record {
      within = h.0.within;
      fits = h.0.fits;
      rest = h.1;
      taken = behind_block limit before (before + (out-Level level).block_length) level entry (sym h.0.taken);
    }

module _ (schema : WireSchema) (n : ℕ) (level : Level) (entry : Block) (old opened filled : Held) (at : level_at schema n ≡ Some level) (here : level_of old.frames ≡ n)
    (opens : Opens schema old opened) (fills : Fills (task_of schema level entry) opened filled) where
  abbrev declared : ℕ
  declared = (out-Level level).block_length

  empty : followed_by old.bytes (empty_block schema.order declared (out-Level level).fields) ≡ Some opened.bytes
  empty =
      sym (ap (λ k. followed_by old.bytes (block_in schema k)) here
      ∙ ap (λ b. followed_by old.bytes (empty_block schema.order b (fields_at schema n))) (own_block schema n level at)
      ∙ ap (λ o. followed_by old.bytes (empty_block schema.order declared (fields_in o))) at)
      ∙ opens.bytes

  block_is : followed_by old.bytes (block_bytes schema.order declared (out-Level level).fields (out-Block entry).fields) ≡ Some filled.bytes
  block_is = fills.bytes old.bytes (sym opens.at) empty

  pub entry_long : length filled.bytes ≡ length old.bytes + declared
  entry_long = fills.long old.bytes (sym opens.at) empty

  pub filled_limit : filled.limit ≡ old.limit
  filled_limit = fills.same.limit ∙ opens.limit

  pub filled_frames : filled.frames ≡ Fields n ∷ Entries n (entries_left old.frames - 1) ∷ drop 1 old.frames
  filled_frames = fills.same.frames ∙ opens.frames ∙ ap (λ k. Fields k ∷ Entries k (entries_left old.frames - 1) ∷ drop 1 old.frames) here

  filled_level : level_of filled.frames ≡ n
  filled_level = ap level_of filled_frames

  -- the writer of the block goes on with its groups and data
  module _ (tailed : Held) (goes : tailed ≡ goes_on_as filled (Tail (level_of filled.frames) 0)) (room : refusal_of (entry_room old.limit level (length old.bytes) entry) ≡ None) where
    tailed_is : tailed ≡ goes_on_as filled (Tail n 0)
    tailed_is = goes ∙ ap (λ k. goes_on_as filled (Tail k 0)) filled_level

    pub tail_level : level_at schema (level_of tailed.frames) ≡ Some level
    tail_level = ap (λ (h : Held). level_at schema (level_of h.frames)) tailed_is ∙ at

    pub tail_begins : parts_done tailed.frames ≡ 0
    tail_begins = ap (λ (h : Held). parts_done h.frames) tailed_is

    -- what is after the block has room
    pub tail_has_room : refusal_of (tail_taken tailed.limit (length tailed.bytes) level entry) ≡ None
    tail_has_room =
        ap (λ (h : Held). refusal_of (tail_taken h.limit (length h.bytes) level entry)) tailed_is
        ∙ ap (λ m. refusal_of (tail_taken m (length filled.bytes) level entry)) filled_limit
        ∙ ap (λ k. refusal_of (tail_taken old.limit k level entry)) entry_long
        ∙ (entry_roomy old.limit (length old.bytes) level entry room).rest

    module _ (last : Held) (told : Puts (tail_stretch schema.order level entry) (behind_all schema tailed.frames) tailed last) where
      puts : Puts (tail_stretch schema.order level entry) (Tail n (parts_in_tail schema n)) (goes_on_as filled (Tail n 0)) last
      puts = subst (λ (h : Held). Puts (tail_stretch schema.order level entry) (behind_all schema h.frames) h last) tailed_is told

      last_frames : last.frames ≡ Tail n (parts_in_tail schema n) ∷ Entries n (entries_left old.frames - 1) ∷ drop 1 old.frames
      last_frames = puts.frames ∙ ap (λ fs. Tail n (parts_in_tail schema n) ∷ drop 1 fs) filled_frames

      pub entry_at_end : parts_done last.frames ≡ parts_in_tail schema (level_of last.frames)
      entry_at_end = ap parts_done last_frames ∙ ap (parts_in_tail schema) (sym (ap level_of last_frames))

      pub entry_inside : 1 < length last.frames
      entry_inside = omega (arith, ap length last_frames)

      pub entry_puts : (new : Held) → new ≡ ends last →
          Puts (entry_stretch schema.order level entry) (Entries n (entries_left old.frames - 1)) old new
      entry_puts new ended =
          let counted : entry_room old.limit level (length old.bytes) entry ≡ Ok (length last.bytes) =
          sym (entry_roomy old.limit (length old.bytes) level entry room).taken
          ∙ ap (λ k. tail_taken old.limit k level entry) (sym entry_long)
          ∙ ap (λ m. tail_taken m (length filled.bytes) level entry) (sym filled_limit)
          ∙ puts.counted in
          subst (λ h. Puts (entry_stretch schema.order level entry) (Entries n (entries_left old.frames - 1)) old h) (sym ended) (record {
            bytes = behind_both old.bytes filled.bytes last.bytes _ _ block_is puts.bytes;
            counted = counted;
            frames = ap (drop 1) last_frames;
            limit = puts.limit ∙ filled_limit;
          })
