-- Steps of the loops that count the bytes of a message.
use Rattle.std.proofs.Common.{◌≡◌, ◌<◌, ◌≤◌, ◌+◌, ◌^◌, ℕ, zero, suc, min, Bool, true, false, cond, List, [], ◌∷◌, length, drop, length-drop, get_or, Option, Some, None, Ok, Err, pos, refl, sym, ap, ap₂, ◌∙◌, subst, arith}
use Rattle.std.specs.Prelude.{slice_get, unwrap_or, IfSome, if◌then◌else◌, codes}
use Rattle.std.specs.Option.{IsSome, option_map_or}
use denote.Hole.Carrier as carrier
use Rattle.sbe_types.specs.declared.kind.Member.{Member}
use Rattle.sbe_types.specs.declared.message.Block.{Block, out-Block}
use Rattle.sbe_types.specs.declared.message.DataVal.{DataVal}
use Rattle.sbe_types.specs.declared.message.GroupVal.{GroupVal}
use Rattle.sbe_types.specs.declared.path.Step.{Step}
use Rattle.sbe_types.specs.declared.path.Step.TheVariants as way
use Rattle.sbe_types.specs.declared.schema.DataField.{DataField}
use Rattle.sbe_types.specs.declared.schema.Group as groups_of
use Rattle.sbe_types.specs.declared.schema.Group.{Group, Group', out-Group}
use Rattle.sbe_types.specs.declared.schema.Level as levels
use Rattle.sbe_types.specs.declared.schema.Level.{Level, Level', out-Level, Row_of-Group, end_of-Group, more_of-Group, items-the_row-Group, items_shown-the_row-Group-0}
use Rattle.sbe_wire.specs.Canonical.{entries_in}
use Rattle.sbe_wire.specs.Misfit.{Misfit, Taken, ◌then◌, taken_in, is_full, inside_step, block_taken, part_taken, parts_taken, each_taken, entries_taken, tail_taken, groups_taken, group_taken, take_bytes, refused}
use Rattle.sbe_wire.specs.declared.codes.NCode.TheVariants as code
use Rattle.sbe_wire.specs.Named.{Spot, is_admitted}
use Rattle.sbe_types.specs.Places.{members_end}
use Rattle.sbe_types.specs.Shown.{admits}
use Rattle.sbe_types.specs.declared.schema.WireSchema.{WireSchema}
use Rattle.layout_tables.specs.declared.rows.DimRow.{DimRow}
use Rattle.layout_tables.specs.declared.rows.LevelRow.{LevelRow}
use Rattle.layout_tables.specs.Parts.{dim_at}
use Rattle.layout_tables.specs.Rowed.{DimIs, RowFor}
use Rattle.group_codec.proofs.DimRows.{row_dim, never_none}
use Rattle.tree_codec.specs.declared.first_misfit.FirstMisfit.{FirstMisfit}
use Rattle.tree_codec.specs.Rooms.{dim_room, groups_room, entry_room}
use Rattle.tree_codec.specs.Shapes.{misfit_of}
use Rattle.body_walk.specs.inner.Ready.{IsReadySchema}
use Rattle.tree_codec.proofs.CountSmall.{count_small}
use Rattle.sbe_types.specs.declared.message.GroupVal.{items_hidden-the_row-Block-1}
use Rattle.sbe_types.specs.declared.message.GroupVal.TheVariants as groupval

some_is : {A : Type 0} {x y : A} → ◌≡◌ {A = Option A} (Some x) (Some y) → x ≡ y
some_is h = cc

pub drop_at : {A : Type 0} (xs : List A) (i : ℕ) (x : A) → slice_get xs i ≡ Some x → drop i xs ≡ x ∷ drop (suc i) xs
drop_at [] i x h = absurd cc
drop_at (y ∷ ys) zero x h = ap (λ z. z ∷ ys) (some_is h)
drop_at (y ∷ ys) (suc i) x h = drop_at ys i x h

pub got : {A : Type 0} (xs : List A) (i : ℕ) (x : A) → slice_get xs i ≡ Some x → x ≡ get_or xs i x
got [] i x h = absurd cc
got (y ∷ ys) zero x h = sym (ap (λ o. unwrap_or o x) h)
got (y ∷ ys) (suc i) x h = got ys i x h

-- ---- one step, and what follows

then_same : (t : Taken) (f g : ℕ → Taken) → ((n : ℕ) → f n ≡ g n) → (t then f) ≡ (t then g)
then_same (Ok n) f g h = h n
then_same (Err m) f g h = refl

-- the misfit inside a step
abbrev lifted : Step → Misfit → Misfit
lifted step m = if is_full m.code then m else inside_step step m

step_went : (s : Step) (t : Taken) (f : ℕ → Taken) (m : ℕ) → Ok m ≡ t → f m ≡ (taken_in s t then f)
step_went s t f m h = ap (λ (x : Taken). taken_in s x then f) h

step_stopped : (s : Step) (t : Taken) (f : ℕ → Taken) (u next : FirstMisfit) → Err (misfit_of u) ≡ t → misfit_of next ≡ lifted s (misfit_of u) → ◌≡◌ {A = Taken} (Err (misfit_of next)) (taken_in s t then f)
step_stopped s t f u next h is = ap Err is ∙ ap (λ (x : Taken). taken_in s x then f) h

-- ---- data parts

module _ (limit k i at : ℕ) (ps : List DataField) (vs : List DataVal) (p : DataField) (v : DataVal) (there : slice_get ps i ≡ Some p) (value : slice_get vs i ≡ Some v) where
  abbrev parts_behind : ℕ → Taken
  parts_behind after = parts_taken limit (suc k) after (drop (suc i) ps) (drop (suc i) vs)

  pub part_next : parts_taken limit k at (drop i ps) (drop i vs) ≡ (taken_in (way.Part k) (part_taken limit at p v) then parts_behind)
  part_next = ap₂ (parts_taken limit k at) (drop_at ps i p there) (drop_at vs i v value)

  pub part_went : (m k' : ℕ) → k' ≡ suc k → Ok m ≡ part_taken limit at p v → parts_taken limit k' m (drop (i + 1) ps) (drop (i + 1) vs) ≡ parts_taken limit k at (drop i ps) (drop i vs)
  part_went m k' is h =
      let on : suc i ≡ i + 1 = omega arith in
      ap₂ (λ n j. parts_taken limit n m (drop j ps) (drop j vs)) is (sym on) ∙ step_went (way.Part k) (part_taken limit at p v) parts_behind m h ∙ sym part_next

  pub part_stopped : (u next : FirstMisfit) → Err (misfit_of u) ≡ part_taken limit at p v → misfit_of next ≡ lifted (way.Part k) (misfit_of u) → Err (misfit_of next) ≡ parts_taken limit k at (drop i ps) (drop i vs)
  part_stopped u next h is = step_stopped (way.Part k) (part_taken limit at p v) parts_behind u next h is ∙ sym part_next

no_parts : (limit k at : ℕ) (ps : List DataField) (vs : List DataVal) → min (length ps) (length vs) ≤ 0 → parts_taken limit k at ps vs ≡ Ok at
no_parts limit k at [] vs h = refl
no_parts limit k at (p ∷ ps) [] h = refl
no_parts limit k at (p ∷ ps) (v ∷ vs) h = absurd (omega (arith, h))

pub no_part : (limit k i at : ℕ) (ps : List DataField) (vs : List DataVal) → min (length ps) (length vs) ≤ i → Ok at ≡ parts_taken limit k at (drop i ps) (drop i vs)
no_part limit k i at ps vs h = sym (no_parts limit k at (drop i ps) (drop i vs) (omega (arith, length-drop i ps, length-drop i vs, h)))

-- ---- entries

module _ (limit i at : ℕ) (level : Level) (bs : List Block) (b : Block) (there : slice_get bs i ≡ Some b) where
  abbrev by : ℕ → Block → Taken
  by n e = entry_room limit level n e

  abbrev entries_behind : ℕ → Taken
  entries_behind after = each_taken by (suc i) after (drop (suc i) bs)

  pub entry_next : each_taken by i at (drop i bs) ≡ (taken_in (way.Entry i) (by at b) then entries_behind)
  entry_next = ap (each_taken by i at) (drop_at bs i b there)

  pub entry_went : (m : ℕ) → Ok m ≡ by at b → each_taken by (i + 1) m (drop (i + 1) bs) ≡ each_taken by i at (drop i bs)
  entry_went m h =
      let on : suc i ≡ i + 1 = omega arith in
      ap (λ j. each_taken by j m (drop j bs)) (sym on) ∙ step_went (way.Entry i) (by at b) entries_behind m h ∙ sym entry_next

  pub entry_stopped : (u next : FirstMisfit) → Err (misfit_of u) ≡ by at b → misfit_of next ≡ lifted (way.Entry i) (misfit_of u) → Err (misfit_of next) ≡ each_taken by i at (drop i bs)
  entry_stopped u next h is = step_stopped (way.Entry i) (by at b) entries_behind u next h is ∙ sym entry_next

-- ---- groups

module _ (limit k i at : ℕ) (gs : List Group) (vs : List GroupVal) (g : Group) (v : GroupVal) (there : slice_get gs i ≡ Some g) (value : slice_get vs i ≡ Some v) where
  abbrev groups_behind : ℕ → Taken
  groups_behind after = groups_room limit (suc k) after (drop (suc i) gs) (drop (suc i) vs)

  pub group_next : groups_room limit k at (drop i gs) (drop i vs) ≡ (taken_in (way.Part k) (group_taken limit at g v) then groups_behind)
  group_next = ap₂ (groups_room limit k at) (drop_at gs i g there) (drop_at vs i v value)

  pub group_went : (m k' : ℕ) → k' ≡ suc k → Ok m ≡ group_taken limit at g v → groups_room limit k' m (drop (i + 1) gs) (drop (i + 1) vs) ≡ groups_room limit k at (drop i gs) (drop i vs)
  group_went m k' is h =
      let on : suc i ≡ i + 1 = omega arith in
      ap₂ (λ n j. groups_room limit n m (drop j gs) (drop j vs)) is (sym on) ∙ step_went (way.Part k) (group_taken limit at g v) groups_behind m h ∙ sym group_next

  pub group_stopped : (u next : FirstMisfit) → Err (misfit_of u) ≡ group_taken limit at g v → misfit_of next ≡ lifted (way.Part k) (misfit_of u) → Err (misfit_of next) ≡ groups_room limit k at (drop i gs) (drop i vs)
  group_stopped u next h is = step_stopped (way.Part k) (group_taken limit at g v) groups_behind u next h is ∙ sym group_next

no_groups : (limit k at : ℕ) (gs : List Group) (vs : List GroupVal) → min (length gs) (length vs) ≤ 0 → groups_room limit k at gs vs ≡ Ok at
no_groups limit k at [] vs h = refl
no_groups limit k at (g ∷ gs) [] h = refl
no_groups limit k at (g ∷ gs) (v ∷ vs) h = absurd (omega (arith, h))

pub no_group : (limit k i at : ℕ) (gs : List Group) (vs : List GroupVal) → min (length gs) (length vs) ≤ i → Ok at ≡ groups_room limit k at (drop i gs) (drop i vs)
no_group limit k i at gs vs h = sym (no_groups limit k at (drop i gs) (drop i vs) (omega (arith, length-drop i gs, length-drop i vs, h)))

-- ---- levels by the lists of their parts

row_room : (limit i before : ℕ) (n : _) (row : Row_of-Group n) (vs : List GroupVal) → groups_taken limit i before row vs ≡ groups_room limit i before (items-the_row-Group n row) vs
unfolding tail_taken
row_room limit i before n end_of-Group vs = refl
row_room limit i before n (more_of-Group g rest) [] = refl
row_room limit i before n (more_of-Group g rest) (v ∷ vs) =
    then_same (taken_in (way.Part i) (group_taken limit before g v)) (λ after. groups_taken limit (suc i) after rest vs) (λ after. groups_room limit (suc i) after (items-the_row-Group _ rest) vs) (λ after. row_room limit (suc i) after _ rest vs)

pub tail_is : (limit before : ℕ) (level : Level) (block : Block) → tail_taken limit before level block
    ≡ (groups_room limit (length (out-Level level).fields) before (out-Level level).groups (out-Block block).groups
    then (λ after. parts_taken limit (length (out-Level level).fields + length (out-Block block).groups) after (out-Level level).parts (out-Block block).parts))
unfolding tail_taken levels.out-Level carrier.out
tail_is limit before (Level' name id semantic since block_length fields n groups parts) block =
    ap (λ (t : Taken). t then (λ after. parts_taken limit (length fields + length (out-Block block).groups) after parts (out-Block block).parts))
    (row_room limit (length fields) before _ groups (out-Block block).groups ∙ ap (λ gs. groups_room limit (length fields) before gs (out-Block block).groups) (sym (items_shown-the_row-Group-0 n groups)))

pub group_is : (limit before : ℕ) (g : Group) (v : GroupVal) → group_taken limit before g v ≡ entries_taken limit before (out-Group g).dim (λ at entry. entry_room limit (out-Group g).level at entry) (entries_in v)
unfolding tail_taken groups_of.out-Group carrier.out
group_is limit before (Group' dim level) v = refl

-- a block, and what follows
pub behind_block : (limit before n : ℕ) (level : Level) (entry : Block) → Ok n ≡ block_taken limit before (out-Level level).block_length (out-Level level).fields (out-Block entry).fields
    → tail_taken limit n level entry ≡ entry_room limit level before entry
behind_block limit before n level entry h = ap (λ (t : Taken). t then (λ after. tail_taken limit after level entry)) h

-- ---- the dimension

dim_is : (schema : WireSchema) (n : ℕ) (row : LevelRow) (spot : DimRow) (dim : List Member) → RowFor schema n row → row.dim ≡ Some spot → dim_at schema n ≡ Some dim → DimIs spot dim
dim_is schema n row spot dim is here there =
    let found = row_dim schema n row spot is here in
    let both : Some found.0 ≡ Some dim = sym found.1 ∙ there in
    subst (DimIs spot) (some_is both) found.2

admits_is : (spot : DimRow) (dim : List Member) (many : ℕ) → DimIs spot dim → is_admitted dim (codes "numInGroup") many ≡ admits spot.count.leaf (pos many)
admits_is spot dim many h = ap (λ o. option_map_or (λ (s : Spot). admits s.leaf (pos many)) o false) h.count.named

module _ (schema : WireSchema) (n : ℕ) (row : LevelRow) (spot : DimRow) (dim : List Member) (is : RowFor schema n row) (here : row.dim ≡ Some spot) (there : dim_at schema n ≡ Some dim) (limit before many : ℕ) where
  pub count_is : (t : Bool) → t ≡ admits spot.count.leaf (pos many) → is_admitted dim (codes "numInGroup") many ≡ t
  count_is t h = admits_is spot dim many (dim_is schema n row spot dim is here there) ∙ sym h

  pub dim_refused : false ≡ admits spot.count.leaf (pos many) → refused code.Count many ≡ dim_room limit before dim many
  dim_refused h = sym (ap (λ t. cond t (take_bytes limit before (members_end 0 dim)) (refused code.Count many)) (count_is false h))

  pub dim_taken : true ≡ admits spot.count.leaf (pos many) → take_bytes limit before spot.width ≡ dim_room limit before dim many
  dim_taken h =
      ap (take_bytes limit before) (dim_is schema n row spot dim is here there).width
      ∙ sym (ap (λ t. cond t (take_bytes limit before (members_end 0 dim)) (refused code.Count many)) (count_is true h))

pub count_few : (schema : WireSchema) (n : ℕ) (row : LevelRow) (spot : DimRow) (many : ℕ) → IsReadySchema schema → RowFor schema n row → row.dim ≡ Some spot → true ≡ admits spot.count.leaf (pos many) → many < 2 ^ 32
count_few schema n row spot many h is here t =
    let found = row_dim schema n row spot is here in
    count_small schema n many spot found.0 h.checked found.1 found.2 (admits_is spot found.0 many found.2 ∙ sym t)

pub dim_there : (schema : WireSchema) (n : ℕ) (row : LevelRow) → RowFor schema n row → row.dim ≡ None → IsSome (dim_at schema n) → ⊥
dim_there schema n row is none some = never_none schema n row is none some

-- a group's entries after its dimension
pub group_entries : (limit before after : ℕ) (g : Group) (v : GroupVal) (entries : List Block) → entries_in v ≡ Some entries → Ok after ≡ dim_room limit before (out-Group g).dim (length entries)
    → is_admitted (out-Group g).dim (codes "numInGroup") (length entries) ≡ true
    → each_taken (λ at entry. entry_room limit (out-Group g).level at entry) 0 after entries ≡ group_taken limit before g v
group_entries limit before after g v entries is h admitted =
    let by : ℕ → Block → Taken = λ at entry. entry_room limit (out-Group g).level at entry in
    let fill = take_bytes limit before (members_end 0 (out-Group g).dim) in
    let filled : Ok after ≡ fill = h ∙ ap (λ t. cond t fill (refused code.Count (length entries))) admitted in
    ap (λ (t : Taken). t then (λ n. each_taken by 0 n entries)) filled
    ∙ sym (ap (λ t. cond t (fill then (λ n. each_taken by 0 n entries)) (refused code.Count (length entries))) admitted)
    ∙ sym (group_is limit before g v ∙ ap (entries_taken limit before (out-Group g).dim by) is)

pub group_dim_refused : (limit before : ℕ) (g : Group) (v : GroupVal) (entries : List Block) (m : Misfit) → entries_in v ≡ Some entries → Err m ≡ dim_room limit before (out-Group g).dim (length entries)
    → ◌≡◌ {A = Taken} (Err m) (group_taken limit before g v)
group_dim_refused limit before g v entries m is h =
    let by : ℕ → Block → Taken = λ at entry. entry_room limit (out-Group g).level at entry in
    by_test (is_admitted (out-Group g).dim (codes "numInGroup") (length entries)) (take_bytes limit before (members_end 0 (out-Group g).dim)) (λ n. each_taken by 0 n entries) h
    ∙ sym (group_is limit before g v ∙ ap (entries_taken limit before (out-Group g).dim by) is)
  where
    by_test : (t : Bool) (fill : Taken) (f : ℕ → Taken) → Err m ≡ cond t fill (refused code.Count (length entries)) → ◌≡◌ {A = Taken} (Err m) (cond t (fill then f) (refused code.Count (length entries)))
    by_test true fill f h = ap (λ (x : Taken). x then f) h
    by_test false fill f h = h

pub group_none : (limit before : ℕ) (g : Group) (v : GroupVal) → entries_in v ≡ None → ◌≡◌ {A = Taken} (Ok before) (group_taken limit before g v)
group_none limit before g v is =
    sym (group_is limit before g v ∙ ap (entries_taken limit before (out-Group g).dim (λ at entry. entry_room limit (out-Group g).level at entry)) is)

pub tail_went : (limit before after : ℕ) (level : Level) (block : Block) → length (out-Level level).groups ≡ length (out-Block block).groups
    → Ok after ≡ groups_room limit (length (out-Level level).fields) before (out-Level level).groups (out-Block block).groups
    → parts_taken limit (length (out-Level level).fields + length (out-Level level).groups) after (out-Level level).parts (out-Block block).parts ≡ tail_taken limit before level block
tail_went limit before after level block same h =
    let f : ℕ → Taken = λ n. parts_taken limit (length (out-Level level).fields + length (out-Block block).groups) n (out-Level level).parts (out-Block block).parts in
    ap (λ k. parts_taken limit (length (out-Level level).fields + k) after (out-Level level).parts (out-Block block).parts) same
    ∙ ap (λ (t : Taken). t then f) h ∙ sym (tail_is limit before level block)

pub tail_stopped : (limit before : ℕ) (level : Level) (block : Block) (m : Misfit) → Err m ≡ groups_room limit (length (out-Level level).fields) before (out-Level level).groups (out-Block block).groups
    → ◌≡◌ {A = Taken} (Err m) (tail_taken limit before level block)
tail_stopped limit before level block m h =
    let f : ℕ → Taken = λ n. parts_taken limit (length (out-Level level).fields + length (out-Block block).groups) n (out-Level level).parts (out-Block block).parts in
    ap (λ (t : Taken). t then f) h ∙ sym (tail_is limit before level block)

pub block_stopped : (limit before : ℕ) (level : Level) (entry : Block) (m : Misfit) → Err m ≡ block_taken limit before (out-Level level).block_length (out-Level level).fields (out-Block entry).fields
    → ◌≡◌ {A = Taken} (Err m) (entry_room limit level before entry)
block_stopped limit before level entry m h = ap (λ (t : Taken). t then (λ after. tail_taken limit after level entry)) h

pub entries_are : (v : GroupVal) (entries : List Block) → v ≡ groupval.Entries entries → entries_in v ≡ Some entries
entries_are v entries is = ap entries_in is ∙ ap Some (items_hidden-the_row-Block-1 entries)

pub some_few : (o : Option ℕ) (many : ℕ) → many < 2 ^ 32 → IfSome o (λ k. many < 2 ^ 32)
some_few None many h = tt
some_few (Some n) many h = h
