-- A group whose dimension and entries are its canonical ones.
use Rattle.std.proofs.Common.{◌≡◌, ℕ, ◌+◌, ◌≤◌, List, [], ◌++◌, length, take, drop, Some, sym, ap, ◌∙◌, subst, arith, append_assoc}
use Rattle.std.specs.Prelude.{codes}
use Rattle.std.proofs.lemmas.List.{take_at, take-append-drop, length-take-le}
use Rattle.byte_digits.specs.Digits.{IsBytes}
use Rattle.byte_digits.proofs.Bytes.{IsBytes-front, IsBytes-drop}
use Rattle.sbe_types.specs.declared.kind.Order.{Order}
use Rattle.sbe_types.specs.declared.kind.Member.{Member}
use Rattle.sbe_types.specs.declared.schema.Field.{Field}
use Rattle.sbe_types.specs.declared.schema.Group.{Group'}
use Rattle.sbe_types.specs.declared.schema.Level.{Level, out-Level}
use Rattle.sbe_types.specs.declared.message.Block.{Block, out-Block}
use Rattle.sbe_types.specs.declared.message.GroupVal.{GroupVal, items_hidden-the_row-Block-1}
use Rattle.sbe_types.specs.declared.message.GroupVal.TheVariants as groupval
use Rattle.sbe_types.specs.Places.{fields_end, members_end}
use Rattle.sbe_wire.specs.Versions.{own_mode, form_of, BlockForm}
use Rattle.sbe_wire.specs.Canonical.{dimension_numbers, named_bytes, block_bytes, all_bytes, entries_in, entries_bytes, tail_bytes, group_bytes}
use Rattle.sbe_wire.specs.Lays.{IsConcatenation, BlockLays, EntryLays, GroupLies, TailLays, GroupLays}
use Rattle.sbe_wire.proofs.Levels.{placed_fields}
use Rattle.writing_laws.specs.Writable.{IsWritableDimension}
use Rattle.writing_laws.proofs.NamesWritten.{admitted_named}
use Rattle.writing_laws.proofs.Own.{alive_from, writable_fields, ends_within}
use Rattle.clean_bodies.specs.Clean.{IsCleanBlock}
use Rattle.clean_bodies.specs.Good.{IsGoodLevel}
use Rattle.clean_bodies.specs.Says.{SayNumbers}
use Rattle.clean_bodies.specs.Whole.{Times}
use Rattle.clean_bodies.specs.Steps.{Place, TailStep, entry_bytes, EntryIs, EntryStep, GroupStep}
use Rattle.clean_bodies.proofs.CleanFields.{block_clean}
use Rattle.clean_bodies.proofs.Named.{named_are, named_read}
use Rattle.clean_bodies.proofs.Chains.{Ends, whole_of, two_pieces, times_whole}

module _ (place : Place) (level : Level) where
  abbrev order : Order
  order = place.order

  abbrev version : ℕ
  version = place.version

  abbrev body : List ℕ
  body = place.body

  abbrev fields : List Field
  fields = (out-Level level).fields

  abbrev wide : ℕ
  wide = (out-Level level).block_length

  abbrev form : BlockForm
  form = form_of (own_mode order version) level

  abbrev TailIs : Block → List ℕ → Type 0
  TailIs entry b = TailLays (own_mode order version) level entry b

  -- ---- an entry

  pub block_ends : IsGoodLevel version level → IsBytes body → (at : ℕ) → IsCleanBlock fields (take wide (drop at body))
      → (entry : Block) (f r : List ℕ) → length f ≡ wide → drop at body ≡ f ++ r
      → BlockLays (own_mode order version) fields (out-Block entry).fields f
      → Ends at (at + wide) f (block_bytes order wide fields (out-Block entry).fields)
  block_ends known good at clean entry f r long there h =
      let values = (out-Block entry).fields in
      let same : take wide (drop at body) ≡ f = ap (take wide) there ∙ take_at f r wide long in
      let bytes : IsBytes f = IsBytes-front f r (subst IsBytes there (IsBytes-drop at body good)) in
      let ends : fields_end 0 fields ≤ length f = subst (λ n. fields_end 0 fields ≤ n) (sym long) (ends_within version level known.writable) in
      let is =
      block_clean order version fields (placed_fields level known.placed) (writable_fields version level known.writable)
      values f bytes ends h.1 (subst (IsCleanBlock fields) same clean) in
      (omega (arith, long), ap (λ n. block_bytes order n fields values) (sym long) ∙ is)

  pub entry_whole : IsGoodLevel version level → IsBytes body → (at next : ℕ)
      → IsCleanBlock fields (take wide (drop at body)) → TailStep place level (at + wide) next
      → EntryStep place level at next
  entry_whole known good at next clean tail =
      whole_of Block (EntryIs order version level) (entry_bytes order level) body at next
      (λ entry front rest there h.
      let f : List ℕ = take wide front in
      let b : List ℕ = drop wide front in
      two_pieces body at (at + wide) next front f b rest (block_bytes order wide fields (out-Block entry).fields)
      (tail_bytes order level entry) there (sym (take-append-drop wide front))
      (λ r t. block_ends known good at clean entry f r (length-take-le wide front h.0) t h.1)
      (λ t. (tail.ends entry b rest t h.2, tail.is entry b rest t h.2)))

  -- ---- a group

  module _ (dim : List Member) where
    abbrev size : ℕ
    size = members_end 0 dim

    -- the dimension says this number of entries, and the declared block length
    abbrev pub DimSays : ℕ → ℕ → Type 0
    DimSays count at = SayNumbers order (dimension_numbers wide count) 0 dim (take (members_end 0 dim) (drop at body))

    entries_end : (count at next : ℕ) → IsWritableDimension dim wide → IsBytes body → DimSays count at
        → Times (EntryStep place level) count (at + size) next → (entries : List Block) (front rest : List ℕ)
        → drop at body ≡ front ++ rest → GroupLies TailIs form dim entries front
        → Ends at next front (entries_bytes order dim wide (entry_bytes order level) (Some entries))
    entries_end count at next writable good says steps entries front rest there h =
        let k : ℕ = h.0 in
        let head : List ℕ = h.1 in
        let back : List ℕ = h.2 in
        let lays = h.4 in
        let start : drop at body ≡ head ++ (back ++ rest) = there ∙ ap (λ z. z ++ rest) h.3 ∙ append_assoc head back rest in
        let same : take size (drop at body) ≡ head = ap (take size) start ∙ take_at head (back ++ rest) size lays.wide in
        let there_says : SayNumbers order (dimension_numbers wide count) 0 dim head = subst (SayNumbers order (dimension_numbers wide count) 0 dim) same says in
        let bytes : IsBytes head = IsBytes-front head (back ++ rest) (subst IsBytes start (IsBytes-drop at body good)) in
        let block : k ≡ wide = sym lays.says_block ∙ named_read order (dimension_numbers wide count) head dim there_says (codes "blockLength") writable.block in
        let many : length entries ≡ count =
        sym lays.says_count
        ∙ named_read order (dimension_numbers wide count) head dim there_says (codes "numInGroup")
        (admitted_named dim (codes "numInGroup") (length entries) lays.admitted) in
        let own : named_bytes order (dimension_numbers wide (length entries)) 0 dim ≡ Some head =
        ap (λ n. named_bytes order (dimension_numbers wide n) 0 dim) many
        ∙ named_are order (dimension_numbers wide count) head dim there_says bytes lays.wide in
        let each : IsConcatenation (EntryIs order version level) entries back =
        subst (λ n. IsConcatenation (EntryLays TailIs form n) entries back) block h.5 in
        two_pieces body at (at + size) next front head back rest
        (named_bytes order (dimension_numbers wide (length entries)) 0 dim) (all_bytes (entry_bytes order level) entries)
        there h.3
        (λ r t. (ap (λ n. at + n) (sym lays.wide), own))
        (λ t. times_whole Block (EntryIs order version level) (entry_bytes order level) body entries count (at + size) next many steps back rest t each)

    pub group_whole : (count at next : ℕ) → (out-Level level).since ≤ version → IsWritableDimension dim wide
        → IsBytes body → DimSays count at → Times (EntryStep place level) count (at + size) next
        → GroupStep place (Group' dim level) at next
    unfolding tail_bytes
    group_whole count at next known writable good says steps =
        whole_of GroupVal (λ v b. GroupLays (own_mode order version) (Group' dim level) v b) (λ v. group_bytes order (Group' dim level) v) body at next
        (λ v front rest there h.
        let lies =
        alive_from
        ((entries : List Block) × (v ≡ groupval.Entries entries) × GroupLies TailIs form dim entries front)
        ((v ≡ groupval.Absent) × (front ≡ [])) version
        (out-Level level).since known h in
        let ends = entries_end count at next writable good says steps lies.0 front rest there lies.2 in
        let same : entries_in v ≡ Some lies.0 = ap entries_in lies.1 ∙ ap Some (items_hidden-the_row-Block-1 lies.0) in
        (ends.0, ap (entries_bytes order dim wide (entry_bytes order level)) same ∙ ends.1))
