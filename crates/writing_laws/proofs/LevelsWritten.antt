-- Groups and levels that fit are written as bytes in which they lie, by induction on the schema.
use Rattle.std.proofs.Common.{◌≡◌, ℕ, suc, ◌+◌, ◌≤◌, true, cond, List, [], ◌∷◌, ◌++◌, length, take, drop, Option, Some, refl, sym, ap, ◌∙◌, subst, arith, length-append}
use Rattle.std.specs.Prelude.{codes}
use Rattle.std.proofs.Math.Seq.{take-append_seam, drop-append_seam}
use Rattle.sbe_types.specs.declared.kind.Order.{Order}
use Rattle.sbe_types.specs.declared.kind.Member.{Member}
use Rattle.sbe_types.specs.declared.path.Step.TheVariants as way
use Rattle.sbe_types.specs.declared.schema.Field.{Field}
use Rattle.sbe_types.specs.declared.schema.Group.{Group, Group'}
use Rattle.sbe_types.specs.declared.schema.Level.{Level, Level', out-Level, Row_of-Group, end_of-Group, more_of-Group}
use Rattle.sbe_types.specs.declared.message.Block.{Block, out-Block}
use Rattle.sbe_types.specs.declared.message.GroupVal.{GroupVal, items_hidden-the_row-Block-1}
use Rattle.sbe_types.specs.declared.message.GroupVal.TheVariants as groupval
use Rattle.sbe_types.specs.Places.{members_end}
use Rattle.sbe_types.specs.Wire.{both}
use Rattle.sbe_wire.specs.Versions.{own_mode, form_of, BlockForm}
use Rattle.sbe_wire.specs.declared.codes.NCode.TheVariants as code
use Rattle.sbe_wire.specs.Named.{is_admitted}
use Rattle.sbe_wire.specs.Lays.{IsConcatenation, IsConcatenationOfBoth, BlockLays, DataLays, DimensionLays, EntryLays, GroupLies, TailLays, GroupsLay, GroupLays}
use Rattle.sbe_wire.specs.Canonical.{named_bytes, dimension_numbers, block_bytes, parts_bytes, all_bytes, entries_in, entries_bytes, tail_bytes, groups_bytes, group_bytes}
use Rattle.sbe_wire.specs.Fits.{EachFits, BlockFits, GroupsFit, GroupFits}
use Rattle.sbe_wire.specs.Misfit.{Taken, ◌then◌, taken_in, take_bytes, refused, block_taken, parts_taken, each_taken, entries_taken, tail_taken, groups_taken, group_taken}
use Rattle.sbe_wire.specs.Placed.{IsPlacedLevel, ArePlacedGroups, IsPlacedGroup}
use Rattle.sbe_wire.proofs.Levels.{placed_fields}
use Rattle.writing_laws.specs.Writable.{IsWritableDimension, IsWritableLevel, AreWritableGroups, IsWritableGroup}
use Rattle.writing_laws.proofs.Own.{alive_to, writable_fields, ends_within, fields_fit}
use Rattle.writing_laws.proofs.Takings.{Takes, takes_bytes, Written, Then, nothing_written, written_then, written_in, written_as, counted_as}
use Rattle.writing_laws.proofs.NamesWritten.{names_written, names_read, admitted_named}
use Rattle.writing_laws.proofs.BlocksWritten.{BlockIs, block_written, parts_written}

module _ (order : Order) (version : ℕ) where
  -- ---- a dimension

  dimension_written : (dim : List Member) (wide count : ℕ) → IsWritableDimension dim wide → is_admitted dim (codes "numInGroup") count ≡ true →
      Written (named_bytes order (dimension_numbers wide count) 0 dim) (DimensionLays order dim wide count) (λ limit before. take_bytes limit before (members_end 0 dim))
  dimension_written dim wide count writable admitted =
      let numbers = dimension_numbers wide count in
      let w = names_written order numbers 0 dim (writable.holds count admitted) in
      let long : length w.0 ≡ members_end 0 dim = omega (arith, w.2) in
      record {
        bytes = w.0;
        is = w.1;
        lies = record {
          wide = long;
          says_block = names_read order numbers dim w (codes "blockLength") writable.block;
          says_count = names_read order numbers dim w (codes "numInGroup") (admitted_named dim (codes "numInGroup") count admitted);
          admitted = admitted;
        };
        takes = subst (Takes (λ limit before. take_bytes limit before (members_end 0 dim))) (sym long) (takes_bytes (members_end 0 dim));
      }

  -- ---- entries

  -- each item is written, one after another
  each_written : {X : Type 0} (out : X → Option (List ℕ)) (R : X → List ℕ → Type 0) (took : ℕ → ℕ → X → Taken) (i : ℕ) (xs : List X) →
      EachFits (λ x. Written (out x) (R x) (λ limit before. took limit before x)) xs → Written (all_bytes out xs) (IsConcatenation R xs) (λ limit before. each_taken (took limit) i before xs)
  each_written out R took i [] h = nothing_written
  each_written out R took i (x ∷ xs) h =
      written_then (out x) (all_bytes out xs) (R x) (IsConcatenation R xs) (λ limit before. taken_in (way.Entry i) (took limit before x)) (λ limit before. each_taken (took limit) (suc i) before xs)
      (written_in (way.Entry i) (out x) (R x) (λ limit before. took limit before x) h.0)
      (each_written out R took (suc i) xs h.1)

  each_of : {X : Type 0} (P Q : X → Type 0) → ((x : X) → P x → Q x) → (xs : List X) → EachFits P xs → EachFits Q xs
  each_of P Q to [] h = tt
  each_of P Q to (x ∷ xs) h = (to x h.0, each_of P Q to xs h.1)

  module _ (level : Level) where
    abbrev fields : List Field
    fields = (out-Level level).fields

    abbrev wide : ℕ
    wide = (out-Level level).block_length

    abbrev form : BlockForm
    form = form_of (own_mode order version) level

    abbrev TailIs : Block → List ℕ → Type 0
    TailIs entry e = TailLays (own_mode order version) level entry e

    abbrev entry_bytes : Block → Option (List ℕ)
    entry_bytes entry = both (block_bytes order wide fields (out-Block entry).fields) (tail_bytes order level entry)

    abbrev entry_taken : ℕ → ℕ → Block → Taken
    entry_taken limit at entry = block_taken limit at wide fields (out-Block entry).fields then (λ after. tail_taken limit after level entry)

    abbrev EntryIs : Block → List ℕ → Type 0
    EntryIs = EntryLays TailIs form wide

    entry_lies : (entry : Block) (b : List ℕ) → Then (BlockIs order version wide fields (out-Block entry).fields) (TailIs entry) b → EntryIs entry b
    entry_lies entry b h =
        let front : take wide b ≡ h.0 = ap (take wide) h.2 ∙ ap (λ n. take n (h.0 ++ h.1)) (sym h.3.0) ∙ take-append_seam h.0 h.1 in
        let back : drop wide b ≡ h.1 = ap (drop wide) h.2 ∙ ap (λ n. drop n (h.0 ++ h.1)) (sym h.3.0) ∙ drop-append_seam h.0 h.1 in (
          omega (arith, ap length h.2, length-append h.0 h.1, h.3.0),
          subst (BlockLays (own_mode order version) fields (out-Block entry).fields) (sym front) h.3.1,
          subst (TailIs entry) (sym back) h.4,
        )

    abbrev TailWritten : Block → Type 0
    TailWritten entry = Written (tail_bytes order level entry) (TailIs entry) (λ limit before. tail_taken limit before level entry)

    entry_written : IsPlacedLevel level → IsWritableLevel version level → (entry : Block) →
        Written (block_bytes order wide fields (out-Block entry).fields) (BlockIs order version wide fields (out-Block entry).fields) (λ limit before. block_taken limit before wide fields (out-Block entry).fields) →
        TailWritten entry → Written (entry_bytes entry) (EntryIs entry) (λ limit at. entry_taken limit at entry)
    entry_written placed writable entry block tail =
        written_as (entry_bytes entry) (Then (BlockIs order version wide fields (out-Block entry).fields) (TailIs entry)) (EntryIs entry) (λ limit at. entry_taken limit at entry) (entry_lies entry)
        (written_then (block_bytes order wide fields (out-Block entry).fields) (tail_bytes order level entry) (BlockIs order version wide fields (out-Block entry).fields) (TailIs entry)
        (λ limit before. block_taken limit before wide fields (out-Block entry).fields) (λ limit before. tail_taken limit before level entry) block tail)

    -- ---- a group

    module _ (dim : List Member) where
      abbrev counted : ℕ → ℕ → List Block → Taken
      counted limit before es = take_bytes limit before (members_end 0 dim) then (λ after. each_taken (entry_taken limit) 0 after es)

      entries_written : IsWritableDimension dim wide → (es : List Block) → is_admitted dim (codes "numInGroup") (length es) ≡ true →
          EachFits (λ entry. Written (entry_bytes entry) (EntryIs entry) (λ limit at. entry_taken limit at entry)) es →
          Written (entries_bytes order dim wide entry_bytes (Some es)) (GroupLies TailIs form dim es) (λ limit before. entries_taken limit before dim (entry_taken limit) (Some es))
      entries_written writable es admitted each =
          counted_as (entries_bytes order dim wide entry_bytes (Some es)) (GroupLies TailIs form dim es) (λ limit before. counted limit before es)
          (λ limit before. entries_taken limit before dim (entry_taken limit) (Some es))
          (λ limit before. ap (λ t. cond t (counted limit before es) (refused code.Count (length es))) admitted)
          (written_as (entries_bytes order dim wide entry_bytes (Some es)) (Then (DimensionLays order dim wide (length es)) (IsConcatenation EntryIs es)) (GroupLies TailIs form dim es)
          (λ limit before. counted limit before es) (λ b h. (wide, h.0, h.1, h.2, h.3, h.4))
          (written_then (named_bytes order (dimension_numbers wide (length es)) 0 dim) (all_bytes entry_bytes es) (DimensionLays order dim wide (length es)) (IsConcatenation EntryIs es)
          (λ limit before. take_bytes limit before (members_end 0 dim)) (λ limit before. each_taken (entry_taken limit) 0 before es)
          (dimension_written dim wide (length es) writable admitted) (each_written entry_bytes EntryIs entry_taken 0 es each)))

      abbrev GroupWritten : GroupVal → Type 0
      GroupWritten v = Written (group_bytes order (Group' dim level) v) (GroupLays (own_mode order version) (Group' dim level) v) (λ limit before. group_taken limit before (Group' dim level) v)

      of_entries : (out-Level level).since ≤ version → (es : List Block) →
          Written (entries_bytes order dim wide entry_bytes (Some es)) (GroupLies TailIs form dim es) (λ limit before. entries_taken limit before dim (entry_taken limit) (Some es)) →
          GroupWritten (groupval.Entries es)
      unfolding tail_bytes tail_taken
      of_entries known es w =
          let same : entries_in (groupval.Entries es) ≡ Some es = ap Some (items_hidden-the_row-Block-1 es) in
          let there : Written (group_bytes order (Group' dim level) (groupval.Entries es)) (GroupLies TailIs form dim es) (λ limit before. group_taken limit before (Group' dim level) (groupval.Entries es)) =
          subst (λ o. Written (entries_bytes order dim wide entry_bytes o) (GroupLies TailIs form dim es) (λ limit before. entries_taken limit before dim (entry_taken limit) o)) (sym same) w in
          written_as (group_bytes order (Group' dim level) (groupval.Entries es)) (GroupLies TailIs form dim es) (GroupLays (own_mode order version) (Group' dim level) (groupval.Entries es))
          (λ limit before. group_taken limit before (Group' dim level) (groupval.Entries es))
          (λ b h. alive_to ((entries : List Block) × (groupval.Entries es ≡ groupval.Entries entries) × GroupLies TailIs form dim entries b) ((groupval.Entries es ≡ groupval.Absent) × (b ≡ []))
          version (out-Level level).since known (es, refl, h))
          there

  -- ---- levels

  abbrev GroupsWritten : ℕ → {n : _} → Row_of-Group n → List GroupVal → Type 0
  GroupsWritten i groups vs = Written (groups_bytes order groups vs) (GroupsLay (own_mode order version) groups vs) (λ limit before. groups_taken limit i before groups vs)

  mutual
    unfolding tail_bytes tail_taken

    pub tail_written : (level : Level) → IsPlacedLevel level → IsWritableLevel version level → (block : Block) → BlockFits order level block → TailWritten level block
    tail_written (Level' name id semantic since block_length fields n groups parts) placed writable block h =
        written_then (groups_bytes order groups (out-Block block).groups) (parts_bytes order parts (out-Block block).parts)
        (GroupsLay (own_mode order version) groups (out-Block block).groups) (IsConcatenationOfBoth (DataLays order version) parts (out-Block block).parts)
        (λ limit before. groups_taken limit (length fields) before groups (out-Block block).groups)
        (λ limit before. parts_taken limit (length fields + length (out-Block block).groups) before parts (out-Block block).parts)
        (groups_written (length fields) groups placed.1 writable.2 (out-Block block).groups h.1)
        (parts_written order version (length fields + length (out-Block block).groups) parts (out-Block block).parts writable.3 h.2)

    groups_written : (i : ℕ) {n : _} (groups : Row_of-Group n) → ArePlacedGroups groups → AreWritableGroups version groups → (vs : List GroupVal) → GroupsFit order groups vs → GroupsWritten i groups vs
    groups_written i end_of-Group placed writable [] h = nothing_written
    groups_written i end_of-Group placed writable (v ∷ vs) h = absurd h
    groups_written i (more_of-Group g rest) placed writable [] h = absurd h
    groups_written i (more_of-Group g rest) placed writable (v ∷ vs) h =
        written_then (group_bytes order g v) (groups_bytes order rest vs) (GroupLays (own_mode order version) g v) (GroupsLay (own_mode order version) rest vs)
        (λ limit before. taken_in (way.Part i) (group_taken limit before g v)) (λ limit before. groups_taken limit (suc i) before rest vs)
        (written_in (way.Part i) (group_bytes order g v) (GroupLays (own_mode order version) g v) (λ limit before. group_taken limit before g v) (group_written g placed.0 writable.0 v h.0))
        (groups_written (suc i) rest placed.1 writable.1 vs h.1)

    group_written : (g : Group) → IsPlacedGroup g → IsWritableGroup version g → (v : GroupVal) → GroupFits order g v →
        Written (group_bytes order g v) (GroupLays (own_mode order version) g v) (λ limit before. group_taken limit before g v)
    group_written (Group' dim level) placed writable v h =
        let es = h.0 in
        let each = each_of (λ entry. BlockFits order level entry) (λ entry. Written (entry_bytes level entry) (EntryIs level entry) (λ limit at. entry_taken level limit at entry))
        (λ entry fits. entry_written level placed writable.2 entry
        (block_written order version (wide level) (fields level) (out-Block entry).fields (placed_fields level placed) (writable_fields version level writable.2) (ends_within version level writable.2) (fields_fit order level entry fits))
        (tail_written level placed writable.2 entry fits)) es h.3 in
        subst (GroupWritten level dim) (sym h.1) (of_entries level dim writable.0 es (entries_written level dim writable.1 es h.2 each))
