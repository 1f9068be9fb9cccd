-- The walk of a level, step by step.
use Rattle.std.proofs.Common.{◌≡◌, ◌≤◌, ◌<◌, ℕ, zero, suc, ◌+◌, ◌-◌, true, false, cond, List, [], ◌∷◌, length, take, drop, get_or, Some, Result, Ok, Err, refl, sym, ap, ◌∙◌, subst, arith}
use Rattle.std.specs.Prelude.{Bool, ◌&&◌, ◌==◌, nat_le, pos, slice_get, map}
use Rattle.std.specs.List.{AllByRecursion}
use Rattle.std.specs.Option.{option_map, option_and_then}
use Rattle.std.proofs.lemmas.Bool.{le-leb, leb-true}
use Rattle.std.proofs.lemmas.Bool.Decides.{nat_tests}
use Rattle.std.proofs.lemmas.Option.{slice_get_within, get_or_from_slice_get}
use denote.Hole.Carrier as carrier
use Rattle.sbe_types.specs.declared.schema.Group as groups_of
use Rattle.sbe_types.specs.declared.path.Step.TheVariants as way
use Rattle.sbe_types.specs.declared.schema.Group.{Group, Group', out-Group}
use Rattle.sbe_types.specs.declared.schema.Level.{Level, out-Level}
use Rattle.sbe_types.specs.declared.schema.WireSchema.{WireSchema}
use Rattle.sbe_types.specs.Places.{members_end}
use Rattle.sbe_wire.specs.declared.codes.FCode.TheVariants as code
use Rattle.sbe_wire.specs.Faults.{Fault, fault_at, under}
use Rattle.sbe_wire.specs.Reading.{◌>>=◌, inside, fields_read, tail_read, group_read}
use Rattle.sbe_wire.specs.Versions.{is_alive, floor}
use Rattle.schema_facts.specs.Levels.{Node, all_nodes, level_at, groups_at, groups_in}
use Rattle.layout_tables.specs.declared.rows.LevelRow.{LevelRow}
use Rattle.layout_tables.specs.declared.rows.DimRow.{DimRow}
use Rattle.layout_tables.specs.declared.rows.PartRow.{PartRow}
use Rattle.layout_tables.specs.Parts.{dim_at}
use Rattle.layout_tables.specs.Rowed.{RowFor, FieldsAre, DimIs, part_row}
use Rattle.layout_tables.proofs.Items.{drop_is}
use Rattle.layout_tables.proofs.GroupWalk.{GroupsFrom, groups_go, here}
use Rattle.group_codec.proofs.DimRows.{row_dim}
use Rattle.sbe_wire.specs.declared.mode.Mode.{Mode}
use Rattle.body_walk.specs.inner.Cursor.{skim, entries_read, groups_end, steps_end, parts_end, data_end, dim_from, block_end}
use Rattle.body_walk.specs.inner.Blocks.{IsBlockAt}
use Rattle.body_walk.specs.inner.Fields.{fields_check}
use Rattle.body_walk.specs.inner.Outcomes.{piece, check_at}
use Rattle.body_walk.proofs.FieldsTold.{fields_are}
use Rattle.body_walk.proofs.LevelsReady.{row_parts}
use Rattle.body_walk.proofs.Walks.{block_walked, entry_walked, group_walked, tail_walked}

-- ---- steps

one_more : (n i : ℕ) → i < n → n - i ≡ suc (n - (i + 1))
one_more n i h = omega arith

pub steps_more : (f : ℕ → Result ℕ Fault) (i n at next : ℕ) → i < n → Ok next ≡ f at → steps_end f (i + 1) (n - (i + 1)) next ≡ steps_end f i (n - i) at
steps_more f i n at next h is =
    ap (λ r. inside (way.Entry i) r >>= (λ m. steps_end f (i + 1) (n - (i + 1)) m)) is
    ∙ ap (λ k. steps_end f i k at) (sym (one_more n i h))

pub steps_err : (f : ℕ → Result ℕ Fault) (i n at : ℕ) (e : Fault) → i < n → Err e ≡ f at → Err (under (way.Entry i) e) ≡ steps_end f i (n - i) at
steps_err f i n at e h is =
    ap (λ r. inside (way.Entry i) r >>= (λ m. steps_end f (i + 1) (n - (i + 1)) m)) is
    ∙ ap (λ k. steps_end f i k at) (sym (one_more n i h))

-- ---- data parts

pub parts_next : (mode : Mode) (first i : ℕ) (rows : List PartRow) (r : PartRow) (body : List ℕ) (at : ℕ) → i < length rows → r ≡ get_or rows i r →
    parts_end mode (first + i) (drop i rows) body at ≡ (inside (way.Part (first + i)) (data_end mode r body at) >>= (λ next. parts_end mode (first + (i + 1)) (drop (i + 1) rows) body next))
parts_next mode first i rows r body at h is =
    let next : first + i + 1 ≡ first + (i + 1) = omega arith in
    ap (λ rs. parts_end mode (first + i) rs body at) (drop_is rows i r h is)
    ∙ ap (λ k. inside (way.Part (first + i)) (data_end mode r body at) >>= (λ n. parts_end mode k (drop (i + 1) rows) body n)) next

pub all_next : {X : Type 0} (P : X → Type 0) (xs : List X) (i : ℕ) (x : X) → i < length xs → x ≡ get_or xs i x → AllByRecursion P (drop i xs) → P x × AllByRecursion P (drop (i + 1) xs)
all_next P xs i x h is all = subst (AllByRecursion P) (drop_is xs i x h is) all

-- ---- groups and then data

module _ (schema : WireSchema) (n : ℕ) (row : LevelRow) (level : Level) (is : RowFor schema n row) (there : level_at schema n ≡ Some level) (mode : Mode) (body : List ℕ) (at : ℕ) (near : at ≤ length body) where
  pub tail_told : (first : ℕ) (rows : List PartRow) (next : ℕ) → first ≡ length (out-Level level).fields + length (out-Level level).groups → rows ≡ row.parts.items →
      Ok next ≡ groups_end mode (length (out-Level level).fields) (out-Level level).groups body at →
      parts_end mode first rows body next ≡ skim (tail_read mode level) body at
  tail_told first rows next begins same went =
      ap (λ k. parts_end mode k rows body next) begins
      ∙ ap (λ rs. parts_end mode (length (out-Level level).fields + length (out-Level level).groups) rs body next) (same ∙ row_parts schema n row level is there)
      ∙ ap (λ r. r >>= (λ m. parts_end mode (length (out-Level level).fields + length (out-Level level).groups) (map part_row (out-Level level).parts) body m)) went
      ∙ sym (tail_walked mode level body at near)

pub tail_refused : (mode : Mode) (level : Level) (body : List ℕ) (at : ℕ) (f : Fault) → at ≤ length body → Err f ≡ groups_end mode (length (out-Level level).fields) (out-Level level).groups body at →
    Err f ≡ skim (tail_read mode level) body at
tail_refused mode level body at f near went =
    ap (λ r. r >>= (λ m. parts_end mode (length (out-Level level).fields + length (out-Level level).groups) (map part_row (out-Level level).parts) body m)) went
    ∙ sym (tail_walked mode level body at near)

-- a level without groups and data ends where its block does
pub tail_flat : (mode : Mode) (level : Level) (body : List ℕ) (at : ℕ) → at ≤ length body → (out-Level level).groups ≡ [] → (out-Level level).parts ≡ [] → Ok at ≡ skim (tail_read mode level) body at
tail_flat mode level body at near no_groups no_parts =
    let fields = length (out-Level level).fields in
    sym (tail_walked mode level body at near
    ∙ ap (λ gs. groups_end mode fields gs body at >>= (λ m. parts_end mode (fields + length gs) (map part_row (out-Level level).parts) body m)) no_groups
    ∙ ap (λ ps. parts_end mode (fields + 0) (map part_row ps) body at) no_parts)

pub none_there : {X : Type 0} (xs : List X) → length xs ≡ 0 → xs ≡ []
none_there [] h = refl
none_there (x ∷ xs) h = absurd (omega (arith, h))

-- ---- a block

module _ (mode : Mode) (level : Level) (k : ℕ) (body : List ℕ) (at : ℕ) (near : at ≤ length body) where
  abbrev block : Result Unit Fault
  block = check_at at (fields_read mode 0 0 (out-Level level).fields (take k (drop at body)))

  abbrev short : Fault
  short = fault_at code.Truncated at (pos k)

  abbrev tail : ℕ → Result ℕ Fault
  tail next = skim (tail_read mode level) body next

  pub block_short : length body - at < k → Err short ≡ block_end mode level k body at
  block_short few =
      let below : nat_le k (length body - at) ≡ false = grind (arith, nat_tests) in
      sym (block_walked mode level k body at near ∙ ap (λ t. cond t (block >>= (λ _. Ok (at + k))) (Err short)) below)

  -- where the block lies, its row tells the same
  pub block_known : (row : LevelRow) (bytes : List ℕ) (r : Result Unit Fault) → FieldsAre 0 (out-Level level).fields row.fields.items → IsBlockAt body at k bytes →
      r ≡ fields_check mode (piece at bytes) 0 (out-Level level).fields row.fields.items → (r >>= (λ _. Ok (at + k))) ≡ block_end mode level k body at
  block_known row bytes r are lies told =
      let fields = (out-Level level).fields in
      let fits : nat_le k (length body - at) ≡ true = le-leb k (length body - at) (omega (arith, lies.room)) in
      let same : r ≡ block = told ∙ ap (λ b. fields_check mode (piece at b) 0 fields row.fields.items) lies.bytes_are ∙ sym (fields_are mode (piece at (take k (drop at body))) 0 0 fields row.fields.items are) in
      ap (λ t. t >>= (λ _. Ok (at + k))) same
      ∙ sym (block_walked mode level k body at near ∙ ap (λ t. cond t (block >>= (λ _. Ok (at + k))) (Err short)) fits)

  -- ---- an entry: its block, and then the groups and the data of its level

  then_tail : (t : Bool) (r : Result Unit Fault) → (cond t (r >>= (λ _. Ok (at + k))) (Err short) >>= tail) ≡ cond t (r >>= (λ _. tail (at + k))) (Err short)
  then_tail true (Ok u) = refl
  then_tail true (Err f) = refl
  then_tail false r = refl

  pub entry_told : (r : Result ℕ Fault) → r ≡ block_end mode level k body at → (r >>= tail) ≡ skim (entries_read mode level k) body at
  entry_told r told =
      ap (λ s. s >>= tail) (told ∙ block_walked mode level k body at near)
      ∙ then_tail (nat_le k (length body - at)) block
      ∙ sym (entry_walked mode level k body at near)

  -- without groups and data it ends where its block does
  flat_by : (t : Bool) (r : Result Unit Fault) → (t ≡ true → Ok (at + k) ≡ tail (at + k)) → cond t (r >>= (λ _. Ok (at + k))) (Err short) ≡ cond t (r >>= (λ _. tail (at + k))) (Err short)
  flat_by true (Ok u) h = h refl
  flat_by true (Err f) h = refl
  flat_by false r h = refl

  pub flat_told : length (out-Level level).groups ≡ 0 → length (out-Level level).parts ≡ 0 → block_end mode level k body at ≡ skim (entries_read mode level k) body at
  flat_told no_groups no_parts =
      block_walked mode level k body at near
      ∙ flat_by (nat_le k (length body - at)) block
      (λ fits. tail_flat mode level body (at + k) (omega (arith, leb-true k (length body - at) fits, near)) (none_there (out-Level level).groups no_groups) (none_there (out-Level level).parts no_parts))
      ∙ sym (entry_walked mode level k body at near)

-- a level without groups and data
pub flat_groups : (level : Level) → (length (out-Level level).groups == 0) && (length (out-Level level).parts == 0) ≡ true → length (out-Level level).groups ≡ 0
flat_groups level h = grind (arith, nat_tests)

pub flat_parts : (level : Level) → (length (out-Level level).groups == 0) && (length (out-Level level).parts == 0) ≡ true → length (out-Level level).parts ≡ 0
flat_parts level h = grind (arith, nat_tests)

-- ---- a group

open_group : (mode : Mode) (g : Group) → group_read mode g ≡ group_read mode (Group' (out-Group g).dim (out-Group g).level)
unfolding groups_of.out-Group carrier.out
open_group mode (Group' dim level) = refl

module _ (mode : Mode) (g : Group) (body : List ℕ) (at : ℕ) (near : at ≤ length body) where
  abbrev level : Level
  level = (out-Group g).level

  abbrev after : ℕ × ℕ → Result ℕ Fault
  after d = steps_end (skim (entries_read mode level d.0) body) 0 d.1 (at + members_end 0 (out-Group g).dim)

  group_opens : skim (group_read mode g) body at
      ≡ cond (is_alive mode.version (out-Level level).since) (dim_from mode.order (out-Group g).dim (floor mode.version (out-Level level).fields) body at >>= after) (Ok at)
  group_opens = ap (λ p. skim p body at) (open_group mode g) ∙ group_walked mode (out-Group g).dim level body at near

  pub group_dead : (since : ℕ) → since ≡ (out-Level level).since → mode.version < since → Ok at ≡ skim (group_read mode g) body at
  group_dead since is dead =
      let below : is_alive mode.version (out-Level level).since ≡ false = grind (arith, nat_tests) in
      sym (group_opens ∙ ap (λ t. cond t (dim_from mode.order (out-Group g).dim (floor mode.version (out-Level level).fields) body at >>= after) (Ok at)) below)

  pub group_told : (since least : ℕ) (r : Result (ℕ × ℕ) Fault) → since ≡ (out-Level level).since → since ≤ mode.version → least ≡ floor mode.version (out-Level level).fields →
      r ≡ dim_from mode.order (out-Group g).dim least body at → (r >>= after) ≡ skim (group_read mode g) body at
  group_told since least r is alive floors told =
      let here : is_alive mode.version (out-Level level).since ≡ true = le-leb (out-Level level).since mode.version (omega arith) in
      ap (λ t. t >>= after) (told ∙ ap (λ k. dim_from mode.order (out-Group g).dim k body at) floors)
      ∙ sym (group_opens ∙ ap (λ t. cond t (dim_from mode.order (out-Group g).dim (floor mode.version (out-Level level).fields) body at >>= after) (Ok at)) here)

-- ---- the groups of a level

pub groups_next : (mode : Mode) (first i : ℕ) (gs : List Group) (g : Group) (body : List ℕ) (at : ℕ) → i < length gs → g ≡ get_or gs i g →
    groups_end mode (first + i) (drop i gs) body at ≡ (inside (way.Part (first + i)) (skim (group_read mode g) body at) >>= (λ next. groups_end mode (first + (i + 1)) (drop (i + 1) gs) body next))
groups_next mode first i gs g body at h is =
    let next : first + i + 1 ≡ first + (i + 1) = omega arith in
    ap (λ l. groups_end mode (first + i) l body at) (drop_is gs i g h is)
    ∙ ap (λ k. inside (way.Part (first + i)) (skim (group_read mode g) body at) >>= (λ n. groups_end mode k (drop (i + 1) gs) body n)) next

level_of : (schema : WireSchema) (n : ℕ) (level : Level) (this : Node) → level_at schema n ≡ Some level → slice_get (all_nodes schema) n ≡ Some this → this.level ≡ level
level_of schema n level this there at =
    let both : Some this.level ≡ Some level = sym (ap (option_map (λ (x : Node). x.level)) at) ∙ there in
    cc

-- a group of a level, by the number of its entries' level
pub record Child (schema : WireSchema) (child : ℕ) (g : Group) : Type 0 where
  pub level_is : level_at schema child ≡ Some (out-Group g).level
  pub dim_is : dim_at schema child ≡ Some (out-Group g).dim
  pub within : child < length (all_nodes schema)

module _ (schema : WireSchema) (n : ℕ) (level : Level) (there : level_at schema n ≡ Some level) (child i : ℕ) (from : GroupsFrom schema n i child) (more : i < length (out-Level level).groups) where
  own_groups : groups_at schema n ≡ (out-Level level).groups
  own_groups = ap groups_in there

  few : i < length (groups_at schema n)
  few = omega (arith, more, ap length own_groups)

  pub child_here : (g : Group) → g ≡ get_or (out-Level level).groups i g → Child schema child g
  child_here g is =
      let found = here schema n i child from few in
      let groups : (out-Level from.this.level).groups ≡ (out-Level level).groups = ap (λ (l : Level). (out-Level l).groups) (level_of schema n level from.this there from.at) in
      let same : found.g ≡ g = sym (get_or_from_slice_get (out-Level level).groups i found.g g (ap (λ gs. slice_get gs i) (sym groups) ∙ found.there)) ∙ sym is in
      subst (λ (x : Group). Child schema child x) same (record {
        level_is = ap (option_map (λ (x : Node). x.level)) found.child_is.at;
        dim_is = ap (option_and_then (λ (x : Node). x.dim)) found.child_is.at;
        within = slice_get_within (all_nodes schema) child _ found.child_is.at;
      })

  pub child_next : (row : LevelRow) → RowFor schema child row → GroupsFrom schema n (i + 1) row.end
  child_next row is = groups_go schema n i child row from few is

pub item_at : {X : Type 0} (xs : List X) (i : ℕ) (x : X) → i < length xs → x ≡ get_or xs i x → slice_get xs i ≡ Some x
item_at [] i x h is = absurd (omega arith)
item_at (y ∷ xs) zero x h is = ap Some (sym is)
item_at (y ∷ xs) (suc i) x h is = item_at xs i x (omega arith) is

pub level_within : (schema : WireSchema) (n : ℕ) (level : Level) → level_at schema n ≡ Some level → n < length (all_nodes schema)
level_within schema n level there = within (all_nodes schema) n there
  where
    within : (ns : List Node) (k : ℕ) → option_map (λ (x : Node). x.level) (slice_get ns k) ≡ Some level → k < length ns
    within [] k h = cc
    within (x ∷ ns) zero h = omega arith
    within (x ∷ ns) (suc k) h = let rest = within ns k h in omega (arith, rest)

-- the row of a group's dimension is that of its members
pub group_dim : (schema : WireSchema) (n : ℕ) (row : LevelRow) (dim : DimRow) (g : Group) → RowFor schema n row → row.dim ≡ Some dim → dim_at schema n ≡ Some (out-Group g).dim → DimIs dim (out-Group g).dim
group_dim schema n row dim g is here there =
    let found = row_dim schema n row dim is here in
    let both : Some found.0 ≡ Some (out-Group g).dim = sym found.1 ∙ there in
    let same : found.0 ≡ (out-Group g).dim = cc in
    subst (λ ms. DimIs dim ms) same found.2
