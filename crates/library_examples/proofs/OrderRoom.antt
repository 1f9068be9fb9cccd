-- A part that has room and no misfit is never refused.
use Rattle.std.proofs.Common.{◌≡◌, ◌<◌, ◌+◌, ◌-◌, ◌^◌, ℕ, zero, suc, ℤ, false, List, [], ◌∷◌, length, drop, get_or, map, Option, Some, None, Ok, refl, sym, ap, ap₂, ◌∙◌, subst, arith}
use Rattle.std.specs.Prelude.{slice_get, OnErr, Result, Err}
use denote.Hole.Carrier as carrier
use Rattle.sbe_types.specs.declared.kind.Kind.{Kind, Leaf, Enum, Set, Const, Comp'}
use Rattle.sbe_types.specs.declared.message.Block.{Block, out-Block}
use Rattle.sbe_types.specs.declared.message.DataVal.{DataVal}
use Rattle.sbe_types.specs.declared.message.DataVal.TheVariants as dataval
use Rattle.sbe_types.specs.declared.message.Msg.{Msg}
use Rattle.sbe_types.specs.declared.message.Value.TheVariants as value
use Rattle.sbe_types.specs.declared.path.Step.TheVariants as way
use Rattle.sbe_types.specs.declared.schema.DataField.{DataField}
use Rattle.sbe_types.specs.declared.schema.Group.{Group, out-Group}
use Rattle.sbe_types.specs.declared.message.GroupVal.{GroupVal}
use Rattle.sbe_types.specs.declared.message.GroupVal.TheVariants as groupval
use Rattle.sbe_wire.specs.Canonical.{entries_in}
use Rattle.layout_tables.specs.Parts.{dim_at}
use Rattle.body_walk.proofs.Opens.{item_at}
use Rattle.std.specs.Option.{option_map}
use Rattle.std.proofs.lemmas.List.{length-map}
use Rattle.sbe_types.specs.declared.schema.Level.{Level, out-Level}
use Rattle.sbe_types.specs.declared.schema.WireSchema.{WireSchema}
use Rattle.sbe_types.specs.Places.{is_const}
use Rattle.sbe_wire.specs.Misfit.{Taken, ◌then◌, each_taken, fields_misfit, misfit, part_taken, parts_taken, refusal_of, tail_taken, taken_in, value_misfit}
use Rattle.schema_facts.specs.Levels.{fields_in, groups_in, level_at, parts_in, root_of}
use Rattle.body_walk.specs.inner.Ready.{IsReadySchema}
use Rattle.typed_writer.specs.declared.states.StartErr.{StartErr}
use Rattle.typed_writer.specs.declared.states.TailErr.{TailErr}
use Rattle.typed_writer.specs.declared.stack.Frame.{Frame}
use Rattle.typed_writer.specs.declared.stack.Frame.TheVariants.{Entries, Tail}
use Rattle.kind_bytes.specs.Members.{followed_by}
use Rattle.typed_writer.specs.Held.{Held}
use Rattle.typed_writer.specs.States.{AppendsEntries, SetsFields, entries_left, level_of, parts_done, parts_in_tail}
use Rattle.typed_writer.specs.Steps.{Begins, DataRefused, GroupRefused, Groups, Opens, SetsField, StartRefused, ends, first_unset, goes_on_as, misfit_at, next_data, next_group, unset_from}
use Rattle.typed_writer.proofs.Lists.{behind_none}
use Rattle.tree_codec.specs.Puts.{Fills, Puts, behind_all, entries_stretch, entry_stretch, group_stretch, tail_stretch, task_of}
use Rattle.tree_codec.specs.Rooms.{entry_room, groups_room}
use Rattle.tree_codec.proofs.FillSteps.{fits_at, never_refused, some_none}
use Rattle.tree_codec.proofs.PutGroups.{EntriesAt, GroupOpened, RoomyEntry, count_small, entries_end, entries_have_room, entries_next, entries_start, entry_counted, entry_is_of, entry_puts, entry_roomy, filled_frames, group_never_refused, group_opened, group_puts, groups_have_room}
use Rattle.tree_codec.proofs.PutParts.{part_never_refused, tail_many, tail_room}
use Rattle.tree_codec.proofs.PutRoots.{RoomyMessage, begin_never_refused, message_roomy, root_all_set, root_begun, root_tail_room}
use Rattle.tree_codec.proofs.PutSteps.{entry_fits, in_none}
use Rattle.tree_codec.proofs.RoomSteps.{entries_are, tail_is}
use Rattle.library_examples.specs.Orders.{IsOrderSchema, LegHasRoom, LegsHaveRoom, PutsLeg, PutsLegs, leg_block, legs_of, order_block, order_message}
use Rattle.library_examples.proofs.OrderBytes.{OrderLevels, leg_fields, no_item, no_tail, one_filled, one_item, order_fields, order_groups, order_levels, order_parts}

none_some : {A : Type 0} {x : A} → ◌≡◌ {A = Option A} None (Some x) → ⊥
none_some h = cc

some_same : {A : Type 0} {x y : A} → ◌≡◌ {A = Option A} (Some x) (Some y) → x ≡ y
some_same h = cc

head_is : {A : Type 0} {x y : A} {xs ys : List A} → x ∷ xs ≡ y ∷ ys → x ≡ y
head_is h = cc

pub if_err : {A E P : Type 0} (r : Result A E) → P → OnErr r P
if_err (Ok x) p = tt
if_err (Err e) p = p

-- what takes a number is no constant
moves : (kind : Kind) (n : ℤ) → value_misfit kind (value.Num n) ≡ None → is_const kind ≡ false
moves (Leaf l) n h = refl
moves (Enum l names) n h = refl
moves (Set p names) n h = refl
moves (Const c) n h = absurd (some_none h)
moves (Comp' k members) n h = refl

-- the number of a block's only field, where the block's values have no misfit
pub number_taken : (schema : WireSchema) (level : Level) (block : Block) (number : ℤ) (n : ℕ) → level_at schema n ≡ Some level → length (out-Level level).fields ≡ 1 →
    (out-Block block).fields ≡ value.Num number ∷ [] → fields_misfit 0 (out-Level level).fields (out-Block block).fields ≡ None → misfit_at schema n 0 (value.Num number) ≡ None
number_taken schema level block number n at one holds fits =
    let f = one_item (out-Level level).fields one in
    let first : slice_get (out-Level level).fields 0 ≡ Some f.0 = ap (λ fs. slice_get fs 0) f.1 in
    let there : slice_get (out-Block block).fields 0 ≡ Some (value.Num number) = ap (λ vs. slice_get vs 0) holds in
    let own = fits_at 0 (out-Level level).fields (out-Block block).fields 0 f.0 (value.Num number) fits first there in
    never_refused schema n 0 f.0 (value.Num number) (ap (λ o. slice_get (fields_in o) 0) at ∙ first) (moves f.0.kind number own) own

-- ---- a leg

module _ (schema : WireSchema) (ready : IsReadySchema schema) (order : IsOrderSchema schema) (quantity : ℤ) (old : Held) (here : level_of old.frames ≡ legs_of schema) (has : LegHasRoom schema quantity old) where
  abbrev leg : Block
  leg = leg_block quantity

  abbrev n : ℕ
  n = legs_of schema

  abbrev level : Level
  level = has.level

  roomy : RoomyEntry old.limit (length old.bytes) level leg
  roomy = entry_roomy old.limit (length old.bytes) level leg has.room

  one : length (out-Level level).fields ≡ 1
  one = sym (ap (λ o. length (fields_in o)) has.there) ∙ order.leg_fields

  no_groups : (out-Level level).groups ≡ []
  no_groups = no_item (out-Level level).groups (sym (ap (λ o. length (groups_in o)) has.there) ∙ order.leg_groups)

  no_parts : (out-Level level).parts ≡ []
  no_parts = no_item (out-Level level).parts (sym (ap (λ o. length (parts_in o)) has.there) ∙ order.leg_parts)

  module _ (opened : Held) (opens : Opens schema old opened) where
    opened_at : level_of opened.frames ≡ n
    opened_at = ap level_of opens.frames ∙ here

    pub leg_never_refused : misfit_at schema (level_of opened.frames) 0 (value.Num quantity) ≡ None
    leg_never_refused = ap (λ k. misfit_at schema k 0 (value.Num quantity)) opened_at ∙ number_taken schema level leg quantity n has.there one (leg_fields quantity) roomy.fits

    module _ (filled : Held) (state : SetsFields schema opened) (now : SetsFields schema filled) (sets : SetsField schema (level_of opened.frames) 0 (value.Num quantity) opened filled) where
      fills : Fills (task_of schema level leg) opened filled
      fills = one_filled schema level leg (value.Num quantity) ready one (leg_fields quantity) opened filled (ap (level_at schema) opened_at ∙ has.there) state now sets

      filled_at : level_of filled.frames ≡ n
      filled_at = ap level_of (filled_frames schema n level leg old opened filled has.there here opens fills)

      pub leg_all_set : first_unset schema (level_of filled.frames) filled.set ≡ None
      leg_all_set = ap (λ k. first_unset schema k filled.set) filled_at ∙ ap (λ o. unset_from 0 (fields_in o) filled.set) has.there ∙ fills.set

      module _ (tailed new : Held) (goes : tailed ≡ goes_on_as filled (Tail (level_of filled.frames) 0)) (ended : new ≡ ends tailed) where
        tailed_is : tailed ≡ goes_on_as filled (Tail n 0)
        tailed_is = goes ∙ ap (λ k. goes_on_as filled (Tail k 0)) filled_at

        none_behind : parts_in_tail schema n ≡ 0
        none_behind = tail_many schema n level has.there ∙ ap₂ (λ (gs : List Group) (ps : List DataField). length gs + length ps) no_groups no_parts

        nothing_taken : tail_taken tailed.limit (length tailed.bytes) level leg ≡ Ok (length tailed.bytes)
        unfolding carrier.out
        nothing_taken =
            let fields = length (out-Level level).fields in
            tail_is tailed.limit (length tailed.bytes) level leg
            ∙ ap₂ (λ gs ps. groups_room tailed.limit fields (length tailed.bytes) gs [] then (λ after. parts_taken tailed.limit (fields + 0) after ps [])) no_groups no_parts

        tail : Puts (tail_stretch schema.order level leg) (behind_all schema tailed.frames) tailed tailed
        tail = record {
          bytes = ap (followed_by tailed.bytes) (no_tail schema.order level quantity no_groups no_parts) ∙ behind_none tailed.bytes;
          counted = nothing_taken;
          frames = frames_same;
          limit = refl;
        }
          where
            top : tailed.frames ≡ Tail n 0 ∷ drop 1 filled.frames
            top = ap (λ (h : Held). h.frames) tailed_is

            frames_same : tailed.frames ≡ behind_all schema tailed.frames ∷ drop 1 tailed.frames
            frames_same =
                top ∙ ap (λ k. Tail n k ∷ drop 1 filled.frames) (sym none_behind)
                ∙ sym (ap (λ fs. behind_all schema fs ∷ drop 1 fs) top)

        pub leg_puts : PutsLeg schema quantity old new
        leg_puts = record {
          level = level;
          there = has.there;
          puts = entry_puts schema n level leg old opened filled has.there here opens fills tailed goes has.room tailed tail new ended;
        }

-- ---- all legs

leg_at : (xs : List ℤ) (i : ℕ) (x : ℤ) → slice_get xs i ≡ Some x → slice_get (map leg_block xs) i ≡ Some (leg_block x)
leg_at [] i x h = absurd (none_some h)
leg_at (y ∷ ys) zero x h = ap (option_map leg_block) h
leg_at (y ∷ ys) (suc i) x h = leg_at ys i x h

module _ (schema : WireSchema) (ready : IsReadySchema schema) (order : IsOrderSchema schema) (xs : List ℤ) (old : Held) (at : old.frames ≡ Tail (root_of schema 0) 0 ∷ []) (has : LegsHaveRoom schema xs old) where
  abbrev group : Group
  group = has.group

  abbrev entries : List Block
  entries = map leg_block xs

  abbrev all : GroupVal
  all = groupval.Entries entries

  abbrev leg_level : Level
  leg_level = (out-Group group).level

  levels : OrderLevels schema
  levels = order_levels schema order

  same : group ≡ levels.group
  same = head_is (sym has.one ∙ ap groups_in levels.root_at ∙ levels.groups)

  level_is : level_at schema (legs_of schema) ≡ Some leg_level
  level_is = levels.legs_at ∙ ap (λ g. Some (out-Group g).level) (sym same)

  dim_is : dim_at schema (legs_of schema) ≡ Some (out-Group group).dim
  dim_is = levels.dim_is ∙ ap (λ g. Some (out-Group g).dim) (sym same)

  is : entries_in all ≡ Some entries
  is = entries_are all entries refl

  many : length entries ≡ length xs
  many = length-map xs leg_block

  next : next_group schema old.frames ≡ legs_of schema
  next = ap (next_group schema) at

  pub legs_few : length xs < 2 ^ 32
  legs_few = let few = count_small schema (legs_of schema) group all entries old ready.checked level_is dim_is is has.room in omega (arith, few, many)

  pub legs_never_refused : (e : TailErr) → GroupRefused schema (next_group schema old.frames) (length xs) old e → ⊥
  legs_never_refused e h =
      group_never_refused schema (legs_of schema) group all entries old ready.checked level_is dim_is is has.room e next (subst (λ k. GroupRefused schema (next_group schema old.frames) k old e) (sym many) h)

  module _ (opened : Held) (groups : Groups schema (length xs) old opened) where
    begun : GroupOpened schema (legs_of schema) group entries old opened
    begun = group_opened schema (legs_of schema) group all entries old ready.checked level_is dim_is is has.room opened next (subst (λ k. Groups schema k old opened) (sym many) groups)

    pub walk_begins : AppendsEntries schema opened → EntriesAt schema (legs_of schema) leg_level entries 0 opened opened
    walk_begins state = entries_start schema (legs_of schema) leg_level entries opened state (ap level_of begun.frames) (ap entries_left begun.frames)

    module _ (i : ℕ) (now : Held) (walk : EntriesAt schema (legs_of schema) leg_level entries i opened now) where
      pub next_has_room : (x : ℤ) → i < length xs → x ≡ get_or xs i x → LegHasRoom schema x now
      next_has_room x low one = record {
        level = leg_level;
        there = level_is;
        room = entry_fits now.limit i (length now.bytes) (each_taken (λ at entry. entry_room opened.limit leg_level at entry) 0 (length opened.bytes) entries)
            (entries_have_room schema (legs_of schema) group all entries old ready.checked level_is dim_is is has.room opened begun) leg_level entries (leg_block x) (leg_at xs i x (item_at xs i x low one))
            (entry_counted schema (legs_of schema) leg_level entries i opened now walk);
      }

      pub walk_goes_on : (x : ℤ) (new : Held) → i < length xs → x ≡ get_or xs i x → AppendsEntries schema new → (LegHasRoom schema x now → PutsLeg schema x now new) →
          EntriesAt schema (legs_of schema) leg_level entries (i + 1) opened new
      walk_goes_on x new low one state told =
          let put = told (next_has_room x low one) in
          let own : put.level ≡ leg_level = some_same (sym put.there ∙ level_is) in
          let here : legs_of schema ≡ level_of now.frames = sym (entry_is_of schema (legs_of schema) leg_level entries i opened now walk) in
          entries_next schema (legs_of schema) leg_level entries i opened now walk (leg_block x) new (leg_at xs i x (item_at xs i x low one)) state
          (subst (λ k. Puts (entry_stretch schema.order leg_level (leg_block x)) (Entries k (entries_left now.frames - 1)) now new) here
          (subst (λ l. Puts (entry_stretch schema.order l (leg_block x)) (Entries (legs_of schema) (entries_left now.frames - 1)) now new) own put.puts))

      pub walk_ends : (new : Held) → length xs ≡ i → new ≡ ends now → PutsLegs schema xs old new
      walk_ends new over ended =
          let last = entries_end schema (legs_of schema) leg_level entries i opened now walk (many ∙ over) in
          let top : legs_of schema ≡ level_of opened.frames = sym (ap level_of begun.frames) in
          let puts = group_puts schema (legs_of schema) group all entries old ready.checked level_is dim_is is has.room opened now new begun
          (subst (λ k. Puts (entries_stretch schema.order leg_level entries) (Entries k 0) opened now) top last) ended in
          record {
            group = group;
            one = has.one;
            puts = subst (λ (t : Frame). Puts (group_stretch schema.order group all) t old new) (ap (λ fs. Tail (level_of fs) (parts_done fs + 1)) at) puts;
          }

-- ---- the whole

module _ (schema : WireSchema) (ready : IsReadySchema schema) (order : IsOrderSchema schema) (number : ℤ) (xs : List ℤ) (note : List ℕ) (old : Held)
    (fits : misfit schema (order_message schema.version number xs note) old.limit ≡ None) where
  abbrev message : Msg
  message = order_message schema.version number xs note

  abbrev block : Block
  block = order_block number xs note

  abbrev root_number : ℕ
  root_number = root_of schema 0

  parts_of : OrderLevels schema
  parts_of = order_levels schema order

  whole : RoomyMessage schema old.limit parts_of.root block
  whole = message_roomy schema message old.limit parts_of.root parts_of.message fits

  pub order_never_refused : (e : StartErr) → StartRefused schema 0 old.limit e → ⊥
  order_never_refused e h = begin_never_refused schema message parts_of.root old root_number ready.checked parts_of.message parts_of.root_at refl fits e h

  module _ (begun : Held) (begins : Begins schema 0 old begun) where
    begun_at : level_of begun.frames ≡ root_number
    begun_at = root_begun schema message parts_of.root old root_number ready.checked parts_of.message parts_of.root_at refl fits begun begins

    pub number_never_refused : misfit_at schema (level_of begun.frames) 0 (value.Num number) ≡ None
    number_never_refused =
        ap (λ k. misfit_at schema k 0 (value.Num number)) begun_at ∙ number_taken schema parts_of.root block number root_number parts_of.root_at parts_of.field (order_fields number xs note) whole.fits

    module _ (filled : Held) (state : SetsFields schema begun) (now : SetsFields schema filled) (sets : SetsField schema (level_of begun.frames) 0 (value.Num number) begun filled) where
      root_fills : Fills (task_of schema parts_of.root block) begun filled
      root_fills = one_filled schema parts_of.root block (value.Num number) ready parts_of.field (order_fields number xs note) begun filled (ap (level_at schema) begun_at ∙ parts_of.root_at) state now sets

      pub order_all_set : first_unset schema (level_of filled.frames) filled.set ≡ None
      order_all_set = root_all_set schema message parts_of.root old root_number ready.checked parts_of.message parts_of.root_at refl fits begun begins filled root_fills

      module _ (tailed : Held) (goes : tailed ≡ goes_on_as filled (Tail (level_of filled.frames) 0)) where
        abbrev taken_by_groups : List Group → List GroupVal → Taken
        taken_by_groups gs vs = groups_room tailed.limit (length (out-Level parts_of.root).fields) (length tailed.bytes) gs vs

        rest_has_room : refusal_of (tail_taken tailed.limit (length tailed.bytes) parts_of.root block) ≡ None
        rest_has_room = root_tail_room schema message parts_of.root old root_number ready.checked parts_of.message parts_of.root_at refl fits begun begins filled root_fills tailed goes

        groups_are : taken_by_groups (out-Level parts_of.root).groups (out-Block block).groups ≡ taken_by_groups (parts_of.group ∷ []) (groupval.Entries (map leg_block xs) ∷ [])
        groups_are = ap₂ taken_by_groups parts_of.groups (order_groups number xs note)

        pub legs_have_room : LegsHaveRoom schema xs tailed
        legs_have_room = record {
          group = parts_of.group;
          one = ap groups_in parts_of.root_at ∙ parts_of.groups;
          room = in_none (way.Part (length (out-Level parts_of.root).fields)) _ _ (ap refusal_of (sym groups_are) ∙ groups_have_room tailed.limit (length tailed.bytes) parts_of.root block rest_has_room);
        }

        module _ (mid : Held) (told : LegsHaveRoom schema xs tailed → PutsLegs schema xs tailed mid) (behind_legs : mid.frames ≡ Tail root_number 1 ∷ []) where
          abbrev after_legs : ℕ → List DataField → List DataVal → Taken
          after_legs limit ps vs = parts_taken limit (length (out-Level parts_of.root).fields + length (out-Level parts_of.root).groups) (length mid.bytes) ps vs

          put : PutsLegs schema xs tailed mid
          put = told legs_have_room

          counted : taken_by_groups (out-Level parts_of.root).groups (out-Block block).groups ≡ Ok (length mid.bytes)
          counted =
              let own : put.group ≡ parts_of.group = head_is (sym put.one ∙ ap groups_in parts_of.root_at ∙ parts_of.groups) in
              groups_are
              ∙ ap (λ g. taken_by_groups (g ∷ []) (groupval.Entries (map leg_block xs) ∷ [])) (sym own)
              ∙ ap (λ (t : Taken). taken_in (way.Part (length (out-Level parts_of.root).fields)) t then (λ after. Ok after)) put.puts.counted

          note_room : refusal_of (part_taken mid.limit (length mid.bytes) parts_of.part (dataval.Bytes note)) ≡ None
          note_room =
              in_none (way.Part (length (out-Level parts_of.root).fields + length (out-Level parts_of.root).groups)) _ _
              (ap (λ k. refusal_of (after_legs k (parts_of.part ∷ []) (dataval.Bytes note ∷ []))) put.puts.limit
              ∙ ap refusal_of (sym (ap₂ (after_legs tailed.limit) parts_of.parts (order_parts number xs note)))
              ∙ tail_room tailed.limit (length tailed.bytes) (length mid.bytes) parts_of.root block whole.shape rest_has_room counted)

          note_is_next : next_data schema mid.frames ≡ Some parts_of.part
          note_is_next =
              ap (next_data schema) behind_legs
              ∙ ap (λ o. slice_get (parts_in o) (1 - length (groups_in o))) parts_of.root_at
              ∙ ap₂ (λ ps (gs : List Group). slice_get ps (1 - length gs)) parts_of.parts parts_of.groups

          pub note_never_refused : (e : TailErr) → DataRefused schema (length note) mid e → ⊥
          note_never_refused e h = part_never_refused schema parts_of.part (dataval.Bytes note) note mid refl note_is_next note_room e h
