-- What has room goes on: the steps of the loops that put a message's parts one after another.
use Rattle.std.proofs.Common.{◌≡◌, ◌≤◌, ◌<◌, ◌+◌, ◌-◌, ◌*◌, ◌^◌, ℕ, suc, Bool, true, false, cond, List, [], ◌∷◌, ◌++◌, length, drop, replicate, length-append, Option, Some, None, Ok, Err, Result, pos, refl, sym, ap, ap₂, ◌∙◌, subst, arith, eqb-true}
use Rattle.std.specs.Prelude.{slice_get, nat_le, codes, int_le, ◌==◌}
use Rattle.std.specs.Option.{option_map_or}
use Rattle.std.specs.Str.{bytes_eq}
use Rattle.std.proofs.lemmas.Bool.Decides.{nat_tests}
use Rattle.std.proofs.lemmas.Int.{ints}
use Rattle.std.proofs.lemmas.List.{length-replicate, drop_all}
use Rattle.std.proofs.lemmas.Slice.Eq.{bytes_eq-Decides}
use denote.Hole.Carrier as carrier
use Rattle.sbe_types.specs.declared.kind.Kind.{Kind, Leaf, Enum, Set, Const, Comp'}
use Rattle.sbe_types.specs.declared.kind.Member.{Member}
use Rattle.sbe_types.specs.declared.kind.Order.{Order}
use Rattle.sbe_types.specs.declared.message.Block.{Block, out-Block}
use Rattle.sbe_types.specs.declared.message.DataVal.{DataVal}
use Rattle.sbe_types.specs.declared.message.DataVal.TheVariants as dataval
use Rattle.sbe_types.specs.declared.message.GroupVal.{GroupVal}
use Rattle.sbe_types.specs.declared.path.Step.{Step}
use Rattle.sbe_types.specs.declared.path.Step.TheVariants as way
use Rattle.sbe_types.specs.declared.schema.DataField.{DataField}
use Rattle.sbe_types.specs.declared.schema.Field.{Field}
use Rattle.sbe_types.specs.declared.schema.Group as groups_of
use Rattle.sbe_types.specs.declared.schema.Group.{Group, Group', out-Group}
use Rattle.sbe_types.specs.declared.schema.Level as levels
use Rattle.sbe_types.specs.declared.schema.Level.{Level, Level', out-Level, Row_of-Group, end_of-Group, more_of-Group, items-the_row-Group, items_shown-the_row-Group-0}
use Rattle.sbe_types.specs.declared.message.Value.{Value}
use Rattle.sbe_types.specs.Numbers.{bytes_of, prim_width}
use Rattle.sbe_types.specs.Places.{is_const, begin_of, end_past, members_end, width}
use Rattle.sbe_types.specs.Shown.{admits}
use Rattle.sbe_types.specs.Wire.{both}
use Rattle.sbe_types.proofs.Inverse.{bytes_of-width}
use Rattle.sbe_wire.specs.Canonical.{all_bytes, entries_bytes, entries_in, group_bytes, groups_bytes, named_bytes, number_bytes_in, part_bytes, parts_bytes, tail_bytes}
use Rattle.sbe_wire.specs.Misfit.{Misfit, Taken, ◌then◌, taken_in, take_bytes, refused, passed, refusal_of, fields_misfit, block_taken, part_taken, parts_taken, each_taken, entries_taken, group_taken}
use Rattle.sbe_wire.specs.declared.codes.NCode.TheVariants as code
use Rattle.sbe_wire.specs.Named.{Spot, spot_of, spot_named, is_admitted}
use Rattle.schema_rules.specs.Counters.{leaf_in, is_counter, is_counter_primitive, holds_in}
use Rattle.schema_facts.proofs.KindCounters.{small_primitive}
use Rattle.schema_facts.proofs.KindNumbers.{both_true}
use Rattle.typed_writer.specs.Counted.{HasRoomFor, HaveRoomFor}
use Rattle.kind_bytes.specs.Members.{followed_by}
use Rattle.typed_writer.specs.Ready.{MembersStand}
use Rattle.typed_writer.proofs.Lists.{behind_next, behind_none}
use Rattle.tree_codec.specs.Puts.{entry_put, groups_put}
use Rattle.tree_codec.specs.Rooms.{entry_room, groups_room}
use Rattle.tree_codec.proofs.CountSmall.{below}
use Rattle.tree_codec.proofs.RoomSteps.{drop_at, entry_next, group_is, group_next, part_next}

err_none : {A : Type 0} {m : Misfit} → refusal_of (Err m) ≡ None → A
err_none h = cc

-- ---- what has no misfit

pub then_none : (t : Taken) (f : ℕ → Taken) → refusal_of (t then f) ≡ None → (k : ℕ) × (t ≡ Ok k) × (refusal_of (f k) ≡ None)
then_none (Ok k) f h = (k, refl, h)
then_none (Err m) f h = err_none h

pub in_none : (s : Step) (t : Taken) (f : ℕ → Taken) → refusal_of (taken_in s t then f) ≡ None → refusal_of t ≡ None
in_none s (Ok k) f h = refl
in_none s (Err m) f h = err_none h

-- so many bytes more have room
pub take_none : (limit before n : ℕ) → refusal_of (take_bytes limit before n) ≡ None → (take_bytes limit before n ≡ Ok (before + n)) × (before + n ≤ limit)
take_none limit before n h = by (nat_le (before + n) limit) refl h
  where
    by : (t : Bool) → nat_le (before + n) limit ≡ t → refusal_of (cond t (Ok (before + n)) (refused code.Full (before + n))) ≡ None →
        (take_bytes limit before n ≡ Ok (before + n)) × (before + n ≤ limit)
    by true e h =
        let fits : before + n ≤ limit = grind (arith, nat_tests) in
        (ap (λ t. cond t (Ok (before + n)) (refused code.Full (before + n))) e, fits)
    by false e h = err_none h

passed_none : (n : ℕ) (m : Option Misfit) → refusal_of (passed n m) ≡ None → m ≡ None
passed_none n None h = refl
passed_none n (Some m) h = err_none h

ok_same : {A : Type 0} (a b : ℕ) → ◌≡◌ {A = Result ℕ A} (Ok a) (Ok b) → a ≡ b
ok_same a b h = cc

-- a block and what follows it
pub record RoomyBlock (limit before many : ℕ) (fields : List Field) (values : List Value) : Type 0 where
  pub within : before + many ≤ limit
  pub fits : fields_misfit 0 fields values ≡ None
  pub taken : block_taken limit before many fields values ≡ Ok (before + many)

pub block_roomy : (limit before many : ℕ) (fs : List Field) (vs : List Value) (f : ℕ → Taken) → refusal_of (block_taken limit before many fs vs then f) ≡ None →
    RoomyBlock limit before many fs vs × (refusal_of (f (before + many)) ≡ None)
block_roomy limit before many fs vs f h =
    let all = then_none (block_taken limit before many fs vs) f h in
    let room = then_none (take_bytes limit before many) (λ after. passed after (fields_misfit 0 fs vs)) (ap refusal_of all.1) in
    let take = take_none limit before many (ap refusal_of room.1) in
    let fits = passed_none room.0 (fields_misfit 0 fs vs) room.2 in
    let taken : block_taken limit before many fs vs ≡ Ok (before + many) =
    ap (λ (t : Taken). t then (λ after. passed after (fields_misfit 0 fs vs))) take.0 ∙ ap (passed (before + many)) fits in
    let same : all.0 ≡ before + many = ok_same all.0 (before + many) (sym all.1 ∙ taken) in
    (record { within = take.1; fits = fits; taken = taken }, ap (λ k. refusal_of (f k)) (sym same) ∙ all.2)

-- ---- data

-- a data part has room
pub record RoomyPart (limit before many : ℕ) (part : DataField) : Type 0 where
  pub admitted : admits part.length (pos many) ≡ true
  pub within : before + (prim_width part.length.prim + many) ≤ limit

pub part_roomy : (limit before : ℕ) (part : DataField) (bytes : List ℕ) → refusal_of (part_taken limit before part (dataval.Bytes bytes)) ≡ None →
    RoomyPart limit before (length bytes) part × (part_taken limit before part (dataval.Bytes bytes) ≡ Ok (before + (prim_width part.length.prim + length bytes)))
part_roomy limit before part bytes h = by (admits part.length (pos (length bytes))) refl h
  where
    by : (t : Bool) → admits part.length (pos (length bytes)) ≡ t
        → refusal_of (cond t (take_bytes limit before (prim_width part.length.prim + length bytes)) (refused code.Length (length bytes))) ≡ None
        → RoomyPart limit before (length bytes) part × (part_taken limit before part (dataval.Bytes bytes) ≡ Ok (before + (prim_width part.length.prim + length bytes)))
    by true e h =
        let take = take_none limit before (prim_width part.length.prim + length bytes) h in (
          record { admitted = e; within = take.1 },
          ap (λ t. cond t (take_bytes limit before (prim_width part.length.prim + length bytes)) (refused code.Length (length bytes))) e ∙ take.0,
        )
    by false e h = err_none h

-- ---- bytes and how many they are

none_some : {A : Type 0} {x : A} → ◌≡◌ {A = Option A} None (Some x) → ⊥
none_some h = cc

some_is : {A : Type 0} {x y : A} → ◌≡◌ {A = Option A} (Some x) (Some y) → x ≡ y
some_is h = cc

pub both_are : (a b : Option (List ℕ)) (all : List ℕ) → both a b ≡ Some all → (x : List ℕ) × (y : List ℕ) × (a ≡ Some x) × (b ≡ Some y) × (all ≡ x ++ y)
both_are None b all h = absurd (none_some h)
both_are (Some x) None all h = absurd (none_some h)
both_are (Some x) (Some y) all h = (x, y, refl, refl, sym (some_is h))

-- the piece after the front
pub behind_is : (front : List ℕ) (o : Option (List ℕ)) (all : List ℕ) → followed_by front o ≡ Some all → (piece : List ℕ) × (o ≡ Some piece) × (all ≡ front ++ piece)
behind_is front None all h = absurd (none_some h)
behind_is front (Some piece) all h = (piece, refl, sym (some_is h))

pub both_behind : (front : List ℕ) (o : Option (List ℕ)) → both (Some front) o ≡ followed_by front o
both_behind front None = refl
both_behind front (Some piece) = refl

pub part_long : (order : Order) (part : DataField) (bytes old new : List ℕ) → followed_by old (part_bytes order part (dataval.Bytes bytes)) ≡ Some new →
    length new ≡ length old + (prim_width part.length.prim + length bytes)
part_long order part bytes old new h =
    let piece = behind_is old (part_bytes order part (dataval.Bytes bytes)) new h in
    let two = both_are (bytes_of order part.length.prim (pos (length bytes))) (Some bytes) piece.0 piece.1 in
    let wide = (bytes_of-width order part.length.prim (pos (length bytes)) two.0 two.2).0 in
    let last : length bytes ≡ length two.1 = ap length (some_is two.3) in
    omega (arith, ap length piece.2, length-append old piece.0, ap length two.4, length-append two.0 two.1, wide, last)

-- a number of a header or dimension
record OneWide (kind : Kind) (piece : List ℕ) : Type 0 where
  wide : length piece ≡ width kind
  moves : is_const kind ≡ false

kind_long : (order : Order) (kind : Kind) (n : ℕ) (piece : List ℕ) → is_counter (leaf_in kind) ≡ true → number_bytes_in order kind n ≡ Some piece → OneWide kind piece
kind_long order (Leaf l) n piece counter h =
    let w = prim_width l.prim in
    let one = both_true (is_counter_primitive l.prim) (l.length == 1) counter in
    let single : l.length ≡ 1 = eqb-true l.length 1 one.1 in
    let all : w * l.length ≡ w * 1 = ap (λ k. w * k) single in
    let wide = (bytes_of-width order l.prim (pos n) piece h).0 in
    record { wide = omega (arith, wide, all); moves = refl }
kind_long order (Enum l names) n piece counter h = cc
kind_long order (Set p names) n piece counter h = cc
kind_long order (Const c) n piece counter h = cc
kind_long order (Comp' k members) n piece counter h = cc

-- members that each are one number end where their bytes do
pub named_long : (order : Order) (numbers : List ℕ → ℕ) (e : ℕ) (ms : List Member) (piece : List ℕ) → MembersStand e ms → HaveRoomFor numbers ms → named_bytes order numbers e ms ≡ Some piece →
    e + length piece ≡ members_end e ms
named_long order numbers e [] piece stand room h = let none : [] ≡ piece = some_is h in omega (arith, ap length none)
named_long order numbers e (m ∷ ms) piece stand room h =
    let begin = begin_of e m.offset in
    let next = end_past e m.offset m.kind in
    let zeros : List ℕ = replicate (begin - e) 0 in
    let all = both_are (both (Some zeros) (number_bytes_in order m.kind (numbers m.name))) (named_bytes order numbers next ms) piece h in
    let here = both_are (Some zeros) (number_bytes_in order m.kind (numbers m.name)) all.0 all.2 in
    let one = kind_long order m.kind (numbers m.name) here.1 room.0.counter here.3 in
    let rest = named_long order numbers next ms all.1 stand.2 room.1 all.3 in
    let ends : next ≡ begin + width m.kind = ap (λ t. cond t e (begin + width m.kind)) one.moves in
    let begins : e ≤ begin = stand.0 one.moves in
    let gap : length here.0 ≡ begin - e = sym (ap length (some_is here.2)) ∙ length-replicate (begin - e) 0 in
    let wide = one.wide in
    omega (arith, ap length all.4, length-append all.0 all.1, ap length here.4, length-append here.0 here.1, gap, wide, rest, ends, begins)

-- ---- a number of entries that is admitted is one of four bytes

counted_small : (kind : Kind) (many : ℕ) → is_counter (leaf_in kind) ≡ true → holds_in (leaf_in kind) many ≡ true → many < 2 ^ 32
counted_small (Leaf l) many counter h =
    let same : int_le (pos many) (pos many) ≡ true = grind (arith, ints, nat_tests) in
    below l.prim many (pos many) (small_primitive l.prim (both_true (is_counter_primitive l.prim) (l.length == 1) counter).0) h same
counted_small (Enum l names) many counter h = cc
counted_small (Set p names) many counter h = cc
counted_small (Const c) many counter h = cc
counted_small (Comp' k members) many counter h = cc

abbrev told : ℕ → Option Spot → Bool
told many o = option_map_or (λ (s : Spot). admits s.leaf (pos many)) o false

step_small : (numbers : List ℕ → ℕ) (many : ℕ) (m : Member) (here later : Option Spot) (t : Bool) → bytes_eq m.name (codes "numInGroup") ≡ t → numbers (codes "numInGroup") ≡ many → HasRoomFor numbers m →
    (told many later ≡ true → many < 2 ^ 32) → told many (cond t here later) ≡ true → many < 2 ^ 32
step_small numbers many m here later true same own room rest h =
    let is : m.name ≡ codes "numInGroup" = (bytes_eq-Decides m.name (codes "numInGroup")).0 same in
    counted_small m.kind many room.counter (subst (λ n. holds_in (leaf_in m.kind) n ≡ true) (ap numbers is ∙ own) room.holds)
step_small numbers many m here later false other own room rest h = rest h

pub admitted_small : (numbers : List ℕ → ℕ) (many e : ℕ) (ms : List Member) → numbers (codes "numInGroup") ≡ many → HaveRoomFor numbers ms → told many (spot_named e (codes "numInGroup") ms) ≡ true → many < 2 ^ 32
admitted_small numbers many e [] own room h = cc
admitted_small numbers many e (m ∷ ms) own room h =
    step_small numbers many m (spot_of (begin_of e m.offset) m.kind) (spot_named (end_past e m.offset m.kind) (codes "numInGroup") ms) (bytes_eq m.name (codes "numInGroup")) refl own room.0
    (λ k. admitted_small numbers many (end_past e m.offset m.kind) ms own room.1 k) h

-- ---- levels by the lists of their parts

row_put : (order : Order) (n : _) (row : Row_of-Group n) (vs : List GroupVal) → groups_bytes order row vs ≡ groups_put order (items-the_row-Group n row) vs
unfolding tail_bytes
row_put order n end_of-Group [] = refl
row_put order n end_of-Group (v ∷ vs) = refl
row_put order n (more_of-Group g rest) [] = refl
row_put order n (more_of-Group g rest) (v ∷ vs) = ap (both (group_bytes order g v)) (row_put order _ rest vs)

pub tail_bytes_is : (order : Order) (level : Level) (block : Block) →
    tail_bytes order level block ≡ both (groups_put order (out-Level level).groups (out-Block block).groups) (parts_bytes order (out-Level level).parts (out-Block block).parts)
unfolding tail_bytes levels.out-Level carrier.out
tail_bytes_is order (Level' name id semantic since block_length fields n groups parts) block =
    ap (λ o. both o (parts_bytes order parts (out-Block block).parts))
    (row_put order _ groups (out-Block block).groups ∙ ap (λ gs. groups_put order gs (out-Block block).groups) (sym (items_shown-the_row-Group-0 n groups)))

pub group_bytes_is : (order : Order) (g : Group) (v : GroupVal) →
    group_bytes order g v ≡ entries_bytes order (out-Group g).dim (out-Level (out-Group g).level).block_length (λ entry. entry_put order (out-Group g).level entry) (entries_in v)
unfolding tail_bytes groups_of.out-Group carrier.out
group_bytes_is order (Group' dim level) v = refl

-- ---- a group

-- a group of these entries may have as many, and its dimension and they have room
pub record RoomyGroup (limit before : ℕ) (g : Group) (es : List Block) : Type 0 where
  pub admitted : is_admitted (out-Group g).dim (codes "numInGroup") (length es) ≡ true
  pub within : before + members_end 0 (out-Group g).dim ≤ limit
  pub rest : refusal_of (each_taken (λ at entry. entry_room limit (out-Group g).level at entry) 0 (before + members_end 0 (out-Group g).dim) es) ≡ None

module _ (limit before : ℕ) (g : Group) (v : GroupVal) (es : List Block) (is : entries_in v ≡ Some es) where
  abbrev wide : ℕ
  wide = members_end 0 (out-Group g).dim

  abbrev by : ℕ → Block → Taken
  by at entry = entry_room limit (out-Group g).level at entry

  abbrev fill : Taken
  fill = take_bytes limit before wide then (λ after. each_taken by 0 after es)

  opened : group_taken limit before g v ≡ cond (is_admitted (out-Group g).dim (codes "numInGroup") (length es)) fill (refused code.Count (length es))
  opened = group_is limit before g v ∙ ap (entries_taken limit before (out-Group g).dim by) is

  roomy_by : (t : Bool) → is_admitted (out-Group g).dim (codes "numInGroup") (length es) ≡ t → refusal_of (cond t fill (refused code.Count (length es))) ≡ None →
      RoomyGroup limit before g es × (group_taken limit before g v ≡ each_taken by 0 (before + wide) es)
  roomy_by true e h =
      let all = then_none (take_bytes limit before wide) (λ after. each_taken by 0 after es) h in
      let take = take_none limit before wide (ap refusal_of all.1) in
      let same : all.0 ≡ before + wide = ok_same all.0 (before + wide) (sym all.1 ∙ take.0) in (
        record { admitted = e; within = take.1; rest = ap (λ k. refusal_of (each_taken by 0 k es)) (sym same) ∙ all.2 },
        opened ∙ ap (λ t. cond t fill (refused code.Count (length es))) e ∙ ap (λ (t : Taken). t then (λ after. each_taken by 0 after es)) take.0,
      )
  roomy_by false e h = err_none h

  pub group_roomy : refusal_of (group_taken limit before g v) ≡ None → RoomyGroup limit before g es × (group_taken limit before g v ≡ each_taken by 0 (before + wide) es)
  group_roomy h = roomy_by (is_admitted (out-Group g).dim (codes "numInGroup") (length es)) refl (ap refusal_of (sym opened) ∙ h)

-- ---- one part of a row more

-- what is left after a piece
pub left_behind : (old new : List ℕ) (piece rest all goal : Option (List ℕ)) → followed_by old piece ≡ Some new → all ≡ both piece rest → followed_by old all ≡ goal → followed_by new rest ≡ goal
left_behind old new piece rest all goal h is left = sym (behind_next old new piece rest h) ∙ ap (followed_by old) (sym is) ∙ left

-- nothing is left
pub nothing_left : (now : List ℕ) (all goal : Option (List ℕ)) → all ≡ Some [] → followed_by now all ≡ goal → goal ≡ Some now
nothing_left now all goal is left = sym left ∙ ap (followed_by now) is ∙ behind_none now

module _ (order : Order) (i : ℕ) where
  on : suc i ≡ i + 1
  on = omega arith

  pub groups_step : (gs : List Group) (vs : List GroupVal) (g : Group) (v : GroupVal) → slice_get gs i ≡ Some g → slice_get vs i ≡ Some v →
      groups_put order (drop i gs) (drop i vs) ≡ both (group_bytes order g v) (groups_put order (drop (i + 1) gs) (drop (i + 1) vs))
  groups_step gs vs g v at there =
      ap₂ (groups_put order) (drop_at gs i g at) (drop_at vs i v there) ∙ ap (λ j. both (group_bytes order g v) (groups_put order (drop j gs) (drop j vs))) on

  pub parts_step : (ps : List DataField) (vs : List DataVal) (p : DataField) (v : DataVal) → slice_get ps i ≡ Some p → slice_get vs i ≡ Some v →
      parts_bytes order (drop i ps) (drop i vs) ≡ both (part_bytes order p v) (parts_bytes order (drop (i + 1) ps) (drop (i + 1) vs))
  parts_step ps vs p v at there =
      ap₂ (parts_bytes order) (drop_at ps i p at) (drop_at vs i v there) ∙ ap (λ j. both (part_bytes order p v) (parts_bytes order (drop j ps) (drop j vs))) on

  pub entries_step : (level : Level) (es : List Block) (e : Block) → slice_get es i ≡ Some e →
      all_bytes (λ entry. entry_put order level entry) (drop i es) ≡ both (entry_put order level e) (all_bytes (λ entry. entry_put order level entry) (drop (i + 1) es))
  entries_step level es e at =
      ap (all_bytes (λ entry. entry_put order level entry)) (drop_at es i e at) ∙ ap (λ j. both (entry_put order level e) (all_bytes (λ entry. entry_put order level entry) (drop j es))) on

  pub groups_over : (gs : List Group) (vs : List GroupVal) → length gs ≤ i → length vs ≤ i → groups_put order (drop i gs) (drop i vs) ≡ Some []
  groups_over gs vs h k = ap₂ (groups_put order) (drop_all i gs h) (drop_all i vs k)

  pub parts_over : (ps : List DataField) (vs : List DataVal) → length ps ≤ i → length vs ≤ i → parts_bytes order (drop i ps) (drop i vs) ≡ Some []
  parts_over ps vs h k = ap₂ (parts_bytes order) (drop_all i ps h) (drop_all i vs k)

  pub entries_over : (level : Level) (es : List Block) → length es ≤ i → all_bytes (λ entry. entry_put order level entry) (drop i es) ≡ Some []
  entries_over level es h = ap (all_bytes (λ entry. entry_put order level entry)) (drop_all i es h)

-- ---- the next part has room where all that is left has

module _ (limit k i at : ℕ) (all : Taken) (none : refusal_of all ≡ None) where
  pub group_fits : (gs : List Group) (vs : List GroupVal) (g : Group) (v : GroupVal) → slice_get gs i ≡ Some g → slice_get vs i ≡ Some v → groups_room limit k at (drop i gs) (drop i vs) ≡ all →
      refusal_of (group_taken limit at g v) ≡ None
  group_fits gs vs g v here there counted =
      in_none (way.Part k) (group_taken limit at g v) (λ after. groups_room limit (suc k) after (drop (suc i) gs) (drop (suc i) vs))
      (ap refusal_of (sym (group_next limit k i at gs vs g v here there) ∙ counted) ∙ none)

  pub part_fits : (ps : List DataField) (vs : List DataVal) (p : DataField) (v : DataVal) → slice_get ps i ≡ Some p → slice_get vs i ≡ Some v → parts_taken limit k at (drop i ps) (drop i vs) ≡ all →
      refusal_of (part_taken limit at p v) ≡ None
  part_fits ps vs p v here there counted =
      in_none (way.Part k) (part_taken limit at p v) (λ after. parts_taken limit (suc k) after (drop (suc i) ps) (drop (suc i) vs))
      (ap refusal_of (sym (part_next limit k i at ps vs p v here there) ∙ counted) ∙ none)

pub entry_fits : (limit i at : ℕ) (all : Taken) → refusal_of all ≡ None → (level : Level) (es : List Block) (e : Block) → slice_get es i ≡ Some e →
    each_taken (λ at entry. entry_room limit level at entry) i at (drop i es) ≡ all → refusal_of (entry_room limit level at e) ≡ None
entry_fits limit i at all none level es e here counted =
    in_none (way.Entry i) (entry_room limit level at e) (λ after. each_taken (λ at entry. entry_room limit level at entry) (suc i) after (drop (suc i) es))
    (ap refusal_of (sym (entry_next limit i at level es e here) ∙ counted) ∙ none)
