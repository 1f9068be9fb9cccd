-- What is read of a level's groups and data is what lies there, by induction on the schema.
use Rattle.std.proofs.Common.{◌≡◌, ◌⊎◌, inl, inr, ℕ, suc, ◌+◌, ◌≤◌, ◌<◌, List, [], ◌∷◌, length, take, Ok, refl, sym, subst, arith, length-take}
use mathlib.Core.Former as former
use denote.Hole.Carrier as carrier
use Rattle.lists.specs.formers.list.List as lists
use Rattle.sbe_types.specs.declared.schema.Level as levels
use Rattle.sbe_types.specs.declared.kind.Member.{Member}
use Rattle.sbe_types.specs.declared.path.Step.TheVariants as way
use Rattle.sbe_types.specs.declared.schema.Field.{Field}
use Rattle.sbe_types.specs.declared.schema.DataField.{DataField}
use Rattle.sbe_types.specs.declared.schema.Group.{Group, Group'}
use Rattle.sbe_types.specs.declared.schema.Level.{Level, Level', out-Level, Row_of-Group, end_of-Group, more_of-Group}
use Rattle.sbe_types.specs.declared.message.Value.{Value}
use Rattle.sbe_types.specs.declared.message.DataVal.{DataVal}
use Rattle.sbe_types.specs.declared.message.Block.{Block}
use Rattle.sbe_types.specs.declared.message.GroupVal.{GroupVal}
use Rattle.sbe_types.specs.declared.message.GroupVal.TheVariants as groupval
use Rattle.sbe_wire.specs.declared.mode.Mode.{Mode}
use Rattle.sbe_wire.specs.Versions.{is_alive, floor, BlockForm, form_of}
use Rattle.sbe_wire.specs.Lays.{IsConcatenation, IsConcatenationOfBoth, DataLays, DimensionLays, EntryLays, GroupLies, TailLays, GroupsLay, GroupLays}
use Rattle.sbe_wire.specs.Faults.{Fault, FaultAfter, Under, TimesFault, EachFault, DataFault, DimensionFault, DimensionGood, EntryFault, TailFault, GroupsFault, GroupFault}
use Rattle.sbe_wire.specs.Reading.{Reader, then_read, nothing, read_in, times_read, each_read, data_read, dimension_read, Tail, block_of, entry_read, tail_read, groups_read, group_read}
use Rattle.sbe_wire.specs.Agree.{Reads}
use Rattle.sbe_wire.specs.Placed.{IsPlacedLevel, ArePlacedGroups, IsPlacedGroup, ArePlaced}
use Rattle.sbe_wire.proofs.Combine.{restated, After, after, MadeOf, made, stepped, choice, none_read, Times, times, each}
use Rattle.sbe_wire.proofs.Blocks.{entry_reads}
use Rattle.sbe_wire.proofs.Tails.{data_reads, dimension_reads}

-- the groups of a level, so many
abbrev RowOf : List (Unit {0}) → Type 0
RowOf n = Row_of-Group (former.arity (lists.the_former (former.this {0})) n)

pub placed_fields : (level : Level) → IsPlacedLevel level → ArePlaced 0 (out-Level level).fields
unfolding levels.out-Level carrier.out
placed_fields (Level' name id semantic since block_length fields n groups parts) h = h.0

module _ (mode : Mode) where
  -- the groups and data of a level, without its fields
  abbrev pub TailIs : Level → Tail → List ℕ → Type 0
  TailIs level t b = TailLays mode level (block_of [] t) b

  abbrev pub ReadsTail : Level → Type 0
  ReadsTail level = Reads (tail_read mode level) (TailIs level) (TailFault mode level)

  abbrev ReadsGroups : ℕ → {n : _} → Row_of-Group n → Type 0
  ReadsGroups i groups = Reads (groups_read mode i groups) (GroupsLay mode groups) (GroupsFault mode i groups)

  abbrev ReadsGroup : Group → Type 0
  ReadsGroup g = Reads (group_read mode g) (GroupLays mode g) (GroupFault mode g)

  -- ---- a tail: groups, and then data

  module _ (name : List ℕ) (id : ℕ) (semantic : List ℕ) (since block_length : ℕ) (fields : List Field) (n : List (Unit {0})) (groups : RowOf n) (parts : List DataField) where
    abbrev this : Level
    this = Level' name id semantic since block_length fields n groups parts

    abbrev Two : Tail → List ℕ → Type 0
    Two = After (GroupsLay mode groups) (λ gs. MadeOf (λ (ds : List DataVal). (gs, ds)) (IsConcatenationOfBoth (DataLays mode.order mode.version) parts))

    two_to : (t : Tail) (b : List ℕ) → Two t b → TailIs this t b
    two_to t b h =
        let whole : TailIs this (h.0, h.5.0) b = (h.1, h.2, h.3, h.4, h.5.2) in
        subst (λ t. TailIs this t b) (sym h.5.1) whole

    two_from : (t : Tail) (b : List ℕ) → TailIs this t b → Two t b
    two_from t b h = (t.0, h.0, h.1, h.2, h.3, (t.1, refl, h.4))

    of_tail : ReadsGroups (length fields) groups → ReadsTail this
    unfolding tail_read
    of_tail here =
        restated (tail_read mode this) Two (TailIs this)
        (FaultAfter (GroupsFault mode (length fields) groups) (GroupsLay mode groups) (λ vs. EachFault (DataFault mode.order mode.version) (DataLays mode.order mode.version) (length fields + length vs) parts))
        (TailFault mode this)
        two_to two_from (λ f b h. h) (λ f b h. h)
        (after (groups_read mode (length fields) groups) (λ gs. then_read (each_read (data_read mode.order mode.version) (length fields + length gs) parts) (λ ds. nothing (gs, ds)))
        (GroupsLay mode groups) (GroupsFault mode (length fields) groups)
        (λ gs. MadeOf (λ (ds : List DataVal). (gs, ds)) (IsConcatenationOfBoth (DataLays mode.order mode.version) parts)) (λ vs. EachFault (DataFault mode.order mode.version) (DataLays mode.order mode.version) (length fields + length vs) parts)
        here
        (λ gs front h. made (each_read (data_read mode.order mode.version) (length fields + length gs) parts) (λ (ds : List DataVal). (gs, ds)) (IsConcatenationOfBoth (DataLays mode.order mode.version) parts) (EachFault (DataFault mode.order mode.version) (DataLays mode.order mode.version) (length fields + length gs) parts)
        (each (data_read mode.order mode.version) (DataLays mode.order mode.version) (DataFault mode.order mode.version) (λ part. data_reads mode.order part mode.version) (length fields + length gs) parts)))

  -- ---- groups

  no_groups : (i : ℕ) → ReadsGroups i end_of-Group
  unfolding groups_read
  no_groups i =
      restated (λ b. Ok ([], b)) (λ (vs : List GroupVal) b. (vs ≡ []) × (b ≡ [])) (GroupsLay mode end_of-Group) (λ _ _. ⊥) (GroupsFault mode i end_of-Group)
      (λ vs b h. subst (λ vs. GroupsLay mode end_of-Group vs b) (sym h.0) h.1) none (λ f b h. h) (λ f b h. h) none_read
    where
      none : (vs : List GroupVal) (b : List ℕ) → GroupsLay mode end_of-Group vs b → (vs ≡ []) × (b ≡ [])
      none [] b h = (refl, h)
      none (v ∷ vs) b h = absurd h

  module _ (i : ℕ) (g : Group) {n : _} (rest : Row_of-Group n) where
    abbrev Cons : List GroupVal → List ℕ → Type 0
    Cons = After (GroupLays mode g) (λ v. MadeOf (λ vs. v ∷ vs) (GroupsLay mode rest))

    cons_to : (vs : List GroupVal) (b : List ℕ) → Cons vs b → GroupsLay mode (more_of-Group g rest) vs b
    cons_to vs b h =
        let whole : GroupsLay mode (more_of-Group g rest) (h.0 ∷ h.5.0) b = (h.1, h.2, h.3, h.4, h.5.2) in
        subst (λ vs. GroupsLay mode (more_of-Group g rest) vs b) (sym h.5.1) whole

    cons_from : (vs : List GroupVal) (b : List ℕ) → GroupsLay mode (more_of-Group g rest) vs b → Cons vs b
    cons_from [] b h = absurd h
    cons_from (v ∷ vs) b h = (v, h.0, h.1, h.2, h.3, (vs, refl, h.4))

    one_more : ReadsGroup g → ReadsGroups (suc i) rest → ReadsGroups i (more_of-Group g rest)
    unfolding groups_read
    one_more here there =
        restated (groups_read mode i (more_of-Group g rest)) Cons (GroupsLay mode (more_of-Group g rest))
        (FaultAfter (Under (way.Part i) (GroupFault mode g)) (GroupLays mode g) (λ _. GroupsFault mode (suc i) rest)) (GroupsFault mode i (more_of-Group g rest))
        cons_to cons_from (λ f b h. h) (λ f b h. h)
        (after (read_in (way.Part i) (group_read mode g)) (λ v. then_read (groups_read mode (suc i) rest) (λ vs. nothing (v ∷ vs)))
        (GroupLays mode g) (Under (way.Part i) (GroupFault mode g)) (λ v. MadeOf (λ vs. v ∷ vs) (GroupsLay mode rest)) (λ _. GroupsFault mode (suc i) rest)
        (stepped (way.Part i) (group_read mode g) (GroupLays mode g) (GroupFault mode g) here)
        (λ v front h. made (groups_read mode (suc i) rest) (λ vs. v ∷ vs) (GroupsLay mode rest) (GroupsFault mode (suc i) rest) there))

  -- the tail says nothing of the fields
  pub ignores : (l : Level) (x y : List Value) (t : Tail) (b : List ℕ) → TailLays mode l (block_of x t) b → TailLays mode l (block_of y t) b
  ignores (Level' name id semantic since block_length fs n groups parts) x y t b h = h

  -- ---- a group

  module _ (dim : List Member) (level : Level) where
    abbrev fields : List Field
    fields = (out-Level level).fields

    abbrev least : ℕ
    least = floor mode.version fields

    abbrev form : BlockForm
    form = form_of mode level

    abbrev EntryIs : ℕ → Block → List ℕ → Type 0
    EntryIs k = EntryLays (λ entry e. TailLays mode level entry e) form k

    abbrev EntryBad : ℕ → Fault → List ℕ → Type 0
    EntryBad k = EntryFault (TailFault mode level) form k

    abbrev entries : ℕ → ℕ → Reader (List Block)
    entries k n = times_read (entry_read (tail_read mode level) mode fields k) 0 n

    abbrev alive_read : Reader GroupVal
    alive_read = then_read (dimension_read mode.order dim least) (λ d. then_read (entries d.0 d.1) (λ es. nothing (groupval.Entries es)))

    abbrev Alike : GroupVal → List ℕ → Type 0
    Alike = After (DimensionGood mode.order dim least) (λ d. MadeOf groupval.Entries (Times (EntryIs d.0) d.1))

    abbrev AliveIs : GroupVal → List ℕ → Type 0
    AliveIs v b = (es : List Block) × (v ≡ groupval.Entries es) × GroupLies (λ entry e. TailLays mode level entry e) form dim es b

    abbrev AliveBad : Fault → List ℕ → Type 0
    AliveBad = FaultAfter (DimensionFault mode.order dim least) (DimensionGood mode.order dim least) (λ d. TimesFault (EntryBad d.0) (EntryIs d.0) 0 d.1)

    alive_to : (v : GroupVal) (b : List ℕ) → Alike v b → AliveIs v b
    alive_to v b h =
        let counted : DimensionLays mode.order dim h.0.0 (length h.5.0) h.1 = subst (λ n. DimensionLays mode.order dim h.0.0 n h.1) (sym h.5.2.0) h.4.0 in
        (h.5.0, h.5.1, (h.0.0, h.1, h.2, h.3, counted, h.5.2.1))

    -- where an entry lies, the block length reaches the floor
    reaches : (k : ℕ) (es : List Block) (b : List ℕ) → IsConcatenation (EntryIs k) es b → (length es ≡ 0) ⊎ (least ≤ k)
    reaches k [] b h = inl refl
    reaches k (e ∷ es) b h =
        let floor_met : least ≤ length (take k h.0) = h.3.1.0 in
        let short : length (take k h.0) ≤ k = simp length-take (omega arith) in
        inr (omega arith)

    alive_from : (v : GroupVal) (b : List ℕ) → AliveIs v b → Alike v b
    alive_from v b h =
        let lies = h.2 in
        ((lies.0, length h.0), lies.1, lies.2, lies.3, (lies.4, reaches lies.0 h.0 lies.2 lies.5), (h.0, h.1, (refl, lies.5)))

    entry_of : IsPlacedLevel level → ReadsTail level → (k : ℕ) → least ≤ k → Reads (entry_read (tail_read mode level) mode fields k) (EntryIs k) (EntryBad k)
    entry_of placed reads k enough =
        entry_reads mode (tail_read mode level) (λ entry e. TailLays mode level entry e) (TailFault mode level) fields k
        (ignores level) enough (placed_fields level placed) reads

    some_entry : (d : ℕ × ℕ) (front : List ℕ) → DimensionGood mode.order dim least d front → 0 < d.1 → least ≤ d.0
    some_entry d front h some = elim h.1 [ inl e ↦ omega (arith, e, some) | inr e ↦ e ]

    of_group : IsPlacedLevel level → ReadsTail level → ReadsGroup (Group' dim level)
    unfolding group_read
    of_group placed reads =
        choice (is_alive mode.version (out-Level level).since) alive_read groupval.Absent AliveIs AliveBad
        (restated alive_read Alike AliveIs AliveBad AliveBad alive_to alive_from (λ f b h. h) (λ f b h. h)
        (after (dimension_read mode.order dim least) (λ d. then_read (entries d.0 d.1) (λ es. nothing (groupval.Entries es)))
        (DimensionGood mode.order dim least) (DimensionFault mode.order dim least) (λ d. MadeOf groupval.Entries (Times (EntryIs d.0) d.1)) (λ d. TimesFault (EntryBad d.0) (EntryIs d.0) 0 d.1)
        (dimension_reads mode.order dim least)
        (λ d front h. made (entries d.0 d.1) groupval.Entries (Times (EntryIs d.0) d.1) (TimesFault (EntryBad d.0) (EntryIs d.0) 0 d.1)
        (times (entry_read (tail_read mode level) mode fields d.0) (EntryIs d.0) (EntryBad d.0) 0 d.1
        (λ some. entry_of placed reads d.0 (some_entry d front h some))))))

  mutual
    pub tail_reads : (level : Level) → IsPlacedLevel level → ReadsTail level
    tail_reads (Level' name id semantic since block_length fs n groups parts) placed =
        of_tail name id semantic since block_length fs n groups parts (groups_reads (length fs) groups placed.1)

    groups_reads : (i : ℕ) {n : _} (groups : Row_of-Group n) → ArePlacedGroups groups → ReadsGroups i groups
    groups_reads i end_of-Group placed = no_groups i
    groups_reads i (more_of-Group g rest) placed = one_more i g rest (group_reads g placed.0) (groups_reads (suc i) rest placed.1)

    group_reads : (g : Group) → IsPlacedGroup g → ReadsGroup g
    group_reads (Group' dim level) placed = of_group dim level placed (tail_reads level placed)
