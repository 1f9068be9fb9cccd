-- Want of room is told with a number above the limit, by less than one part may have.
use Rattle.std.proofs.Common.{◌≡◌, inl, inr, ◌≤◌, ◌<◌, ◌+◌, ◌^◌, ℕ, suc, Bool, true, false, true≢false, cond, List, [], ◌∷◌, length, Option, Some, None, Ok, Err, ℤ, pos, refl, sym, ap, ◌∙◌, subst, arith}
use Rattle.std.specs.Prelude.{◌&&◌, nat_le, int_le, slice_get, codes}
use Rattle.std.specs.List.{AllByRecursion}
use Rattle.std.proofs.lemmas.Bool.Decides.{nat_tests}
use Rattle.std.proofs.lemmas.Int.{ints}
use denote.Hole.Carrier as carrier
use Rattle.sbe_types.specs.declared.schema.Group as groups_of
use Rattle.sbe_types.specs.declared.schema.Level as levels
use Rattle.sbe_types.specs.declared.limits.TheConstants.{PLACE_LIMIT}
use Rattle.sbe_types.specs.declared.kind.Kind.{Comp}
use Rattle.sbe_types.specs.declared.kind.Member.{Member}
use Rattle.sbe_types.specs.declared.kind.Primitive.{Primitive}
use Rattle.sbe_types.specs.declared.kind.Primitive.TheVariants.{Char, I8, I16, I32, I64, U8, U16, U32, U64}
use Rattle.sbe_types.specs.declared.path.Step.{Step}
use Rattle.sbe_types.specs.declared.path.Step.TheVariants as way
use Rattle.sbe_types.specs.declared.schema.DataField.{DataField}
use Rattle.sbe_types.specs.declared.schema.Group.{Group, Group', out-Group}
use Rattle.sbe_types.specs.declared.schema.Level.{Level, Level', out-Level, Row_of-Group, end_of-Group, more_of-Group}
use Rattle.sbe_types.specs.declared.schema.WireSchema.{WireSchema}
use Rattle.sbe_types.specs.declared.message.Value.{Value}
use Rattle.sbe_types.specs.declared.message.DataVal.{DataVal}
use Rattle.sbe_types.specs.declared.message.DataVal.TheVariants as dataval
use Rattle.sbe_types.specs.declared.message.Block.{Block, out-Block}
use Rattle.sbe_types.specs.declared.message.GroupVal.{GroupVal}
use Rattle.sbe_types.specs.declared.message.Msg.{Msg}
use Rattle.sbe_types.specs.Numbers.{prim_width}
use Rattle.sbe_types.specs.Places.{members_end}
use Rattle.sbe_types.specs.Shown.{admits}
use Rattle.sbe_wire.specs.declared.codes.NCode.{NCode}
use Rattle.sbe_wire.specs.declared.codes.NCode.TheVariants as code
use Rattle.sbe_wire.specs.Canonical.{entries_in}
use Rattle.sbe_wire.specs.Named.{is_admitted}
use Rattle.sbe_wire.specs.Misfit.{Misfit, inside_step, is_full, fields_misfit, Taken, ◌then◌, taken_in, refused, take_bytes, passed, block_taken, part_taken, parts_taken, each_taken, entries_taken, tail_taken, groups_taken, group_taken, root_taken, misfit}
use Rattle.schema_rules.specs.Ranges.{is_number_of}
use Rattle.schema_facts.specs.CheckedLevels.{HasKinds, HasDimensionKind, HasBlock, HasLengths, IsLength, counting}
use Rattle.schema_facts.specs.InOrder.{IsLeafInOrder, IsCompositeInOrder}
use Rattle.schema_facts.specs.IsChecked.{IsChecked}
use Rattle.schema_facts.specs.Levels.{Node, node, nodes, nodes_below, nodes_of, all_nodes}
use Rattle.schema_facts.specs.Measured.{IsSmall}
use Rattle.schema_facts.proofs.KindLists.{width_comp}
use Rattle.schema_facts.proofs.LevelForms.{all_apart, all_of_message, holds_below}
use Rattle.layout_tables.specs.Paths.{Inside, in_level}
use Rattle.misfit_laws.specs.Misfits.{part_bound, IsWanted}
use Rattle.misfit_laws.proofs.Leading.{fields_stand}
use Rattle.misfit_laws.proofs.ValueWays.{LeadsOn, fields_told}
use Rattle.misfit_laws.proofs.Ways.{root_cases, misfit_is, no_template}

-- ---- how many bytes a part may have

-- data with its length has few bytes
abbrev IsShort : DataField → Type 0
IsShort part = (n : ℕ) → admits part.length (pos n) ≡ true → prim_width part.length.prim + n < part_bound

below : (prim : Primitive) (n : ℕ) (high : ℤ) → IsSmall prim → is_number_of prim high ≡ true → int_le (pos n) high ≡ true → n < 2 ^ 32
below U8 n high small h k = grind (arith, ints, nat_tests, h, k)
below U16 n high small h k = grind (arith, ints, nat_tests, h, k)
below U32 n high small h k = grind (arith, ints, nat_tests, h, k)
below U64 n high small h k = absurd small
below Char n high small h k = absurd small
below I8 n high small h k = absurd small
below I16 n high small h k = absurd small
below I32 n high small h k = absurd small
below I64 n high small h k = absurd small

narrow : (prim : Primitive) → prim_width prim ≤ 8
narrow Char = omega arith
narrow I8 = omega arith
narrow I16 = omega arith
narrow I32 = omega arith
narrow I64 = omega arith
narrow U8 = omega arith
narrow U16 = omega arith
narrow U32 = omega arith
narrow U64 = omega arith

second : (a b : Bool) → (a && b) ≡ true → b ≡ true
second true true h = refl
second true false h = cc
second false true h = refl
second false false h = cc

short : (part : DataField) → IsLength part.length → IsLeafInOrder part.length → IsShort part
short part length leaf n admitted =
    let high = second (int_le part.length.low (pos n)) (int_le (pos n) part.length.high) admitted in
    let few = below part.length.prim n part.length.high length.small leaf.high high in
    omega (arith, few, narrow part.length.prim)

all_short : (parts : List DataField) → AllByRecursion (λ (d : DataField). IsLength d.length) parts → AllByRecursion (λ (d : DataField). IsLeafInOrder d.length) parts → AllByRecursion IsShort parts
all_short [] lengths leaves = tt
all_short (p ∷ ps) lengths leaves = (short p lengths.0 leaves.0, all_short ps lengths.1 leaves.1)

dim_narrow : (dim : List Member) → IsCompositeInOrder (Comp dim) → members_end 0 dim ≤ PLACE_LIMIT
dim_narrow dim h = subst (λ w. w ≤ PLACE_LIMIT) (width_comp dim) h.within.width

-- ---- levels

-- what is needed of each level
record Facts (this : Node) : Type 0 where
  block : (out-Level this.level).block_length ≤ PLACE_LIMIT
  dim : HasDimensionKind this.dim
  parts : AllByRecursion IsShort (out-Level this.level).parts

facts_list : (schema : WireSchema) (ns : List Node) → AllByRecursion (λ n. HasBlock (counting schema.header.members n) n.level) ns → AllByRecursion HasKinds ns → AllByRecursion (λ n. HasLengths n.level) ns →
    AllByRecursion Facts ns
facts_list schema [] blocks kinds lengths = tt
facts_list schema (n ∷ ns) blocks kinds lengths =
    (record { block = blocks.0.narrow; dim = kinds.0.dim; parts = all_short (out-Level n.level).parts lengths.0 kinds.0.lengths }, facts_list schema ns blocks.1 kinds.1 lengths.1)

-- ---- bytes that are counted, or a misfit

-- so many bytes within the limit; or a misfit, and if it is lack of room, it tells a number just above the limit
abbrev Near : ℕ → Taken → Type 0
Near limit (Ok n) = n ≤ limit
Near limit (Err m) = m.code ≡ code.Full → IsWanted limit m.detail

not_full : (c : NCode) → is_full c ≡ false → c ≡ code.Full → ⊥
not_full c h full = true≢false (sym (ap is_full full) ∙ h)

near_then : (limit : ℕ) (r : Taken) (f : ℕ → Taken) → Near limit r → ((n : ℕ) → n ≤ limit → Near limit (f n)) → Near limit (r then f)
near_then limit (Ok n) f h g = g n h
near_then limit (Err m) f h g = h

near_step : (limit : ℕ) (step : Step) (r : Taken) → Near limit r → Near limit (taken_in step r)
near_step limit step (Ok n) h = h
near_step limit step (Err m) h = by (is_full m.code)
  where
    by : (t : Bool) → Near limit (Err (cond t m (inside_step step m)))
    by true = h
    by false = h

near_refused : (limit : ℕ) (c : NCode) (n : ℕ) → is_full c ≡ false → Near limit (refused c n)
near_refused limit c n h = λ full. absurd (not_full c h full)

near_bytes : (limit before n : ℕ) → before ≤ limit → n < part_bound → Near limit (take_bytes limit before n)
near_bytes limit before n within few = by (nat_le (before + n) limit) refl
  where
    by : (t : Bool) → nat_le (before + n) limit ≡ t → Near limit (cond t (Ok (before + n)) (refused code.Full (before + n)))
    by true e = let fits : before + n ≤ limit = grind (arith, nat_tests, e) in fits
    by false e = λ full.
        let over : limit < before + n = grind (arith, nat_tests, e) in
        record { bytes = before + n; told = refl; over = over; near = omega (arith, within, few) }

near_passed : (inside : Inside) (limit n : ℕ) (m : Option Misfit) → n ≤ limit → LeadsOn inside m → Near limit (passed n m)
near_passed inside limit n None within h = within
near_passed inside limit n (Some m) within h = λ full. absurd (not_full m.code h.0 full)

near_block : (level : Level) (limit before n : ℕ) (values : List Value) → before ≤ limit → n < part_bound → Near limit (block_taken limit before n (out-Level level).fields values)
near_block level limit before n values within few =
    let fields = (out-Level level).fields in
    near_then limit (take_bytes limit before n) (λ after. passed after (fields_misfit 0 fields values)) (near_bytes limit before n within few)
    (λ after still. near_passed (in_level level) limit after (fields_misfit 0 fields values) still (fields_told (in_level level) 0 fields values (fields_stand level)))

near_data : (limit before : ℕ) (part : DataField) (v : DataVal) → before ≤ limit → IsShort part → Near limit (part_taken limit before part v)
near_data limit before part dataval.Absent within few = within
near_data limit before part (dataval.Bytes bytes) within few = by (admits part.length (pos (length bytes))) refl
  where
    by : (t : Bool) → admits part.length (pos (length bytes)) ≡ t → Near limit (cond t (take_bytes limit before (prim_width part.length.prim + length bytes)) (refused code.Length (length bytes)))
    by true e = near_bytes limit before (prim_width part.length.prim + length bytes) within (few (length bytes) e)
    by false e = near_refused limit code.Length (length bytes) refl

near_parts : (limit i before : ℕ) (ps : List DataField) (vs : List DataVal) → before ≤ limit → AllByRecursion IsShort ps → Near limit (parts_taken limit i before ps vs)
near_parts limit i before [] vs within few = within
near_parts limit i before (p ∷ ps) [] within few = within
near_parts limit i before (p ∷ ps) (v ∷ vs) within few =
    near_then limit (taken_in (way.Part i) (part_taken limit before p v)) (λ after. parts_taken limit (suc i) after ps vs)
    (near_step limit (way.Part i) (part_taken limit before p v) (near_data limit before p v within few.0))
    (λ after still. near_parts limit (suc i) after ps vs still few.1)

near_each : (limit : ℕ) (taken : ℕ → Block → Taken) → ((block : Block) (at : ℕ) → at ≤ limit → Near limit (taken at block)) → (i before : ℕ) (blocks : List Block) → before ≤ limit → Near limit (each_taken taken i before blocks)
near_each limit taken near i before [] within = within
near_each limit taken near i before (block ∷ blocks) within =
    near_then limit (taken_in (way.Entry i) (taken before block)) (λ after. each_taken taken (suc i) after blocks)
    (near_step limit (way.Entry i) (taken before block) (near block before within))
    (λ after still. near_each limit taken near (suc i) after blocks still)

near_admitted : (limit : ℕ) (t : Bool) (r : Taken) (n : ℕ) → Near limit r → Near limit (cond t r (refused code.Count n))
near_admitted limit true r n h = h
near_admitted limit false r n h = near_refused limit code.Count n refl

near_entries : (limit before : ℕ) (dim : List Member) (taken : ℕ → Block → Taken) → members_end 0 dim < part_bound → ((block : Block) (at : ℕ) → at ≤ limit → Near limit (taken at block)) →
    (blocks : Option (List Block)) → before ≤ limit → Near limit (entries_taken limit before dim taken blocks)
near_entries limit before dim taken few near None within = within
near_entries limit before dim taken few near (Some blocks) within =
    near_admitted limit (is_admitted dim (codes "numInGroup") (length blocks)) (take_bytes limit before (members_end 0 dim) then (λ after. each_taken taken 0 after blocks)) (length blocks)
    (near_then limit (take_bytes limit before (members_end 0 dim)) (λ after. each_taken taken 0 after blocks) (near_bytes limit before (members_end 0 dim) within few)
    (λ after still. near_each limit taken near 0 after blocks still))

module _ (limit : ℕ) where
  mutual
    unfolding nodes nodes_below nodes_of tail_taken levels.out-Level groups_of.out-Group carrier.out

    near_tail : (t : ℕ) (dim : Option (List Member)) (level : Level) → AllByRecursion Facts (nodes t dim level) → (block : Block) (before : ℕ) → before ≤ limit → Near limit (tail_taken limit before level block)
    near_tail t dim (Level' name id semantic since block_length fields n groups parts) facts block before within =
        let gs = (out-Block block).groups in
        let ps = (out-Block block).parts in
        near_then limit (groups_taken limit (length fields) before groups gs) (λ after. parts_taken limit (length fields + length gs) after parts ps)
        (near_groups t (length fields) before groups facts.1 gs within)
        (λ after still. near_parts limit (length fields + length gs) after parts ps still facts.0.parts)

    near_groups : (t i before : ℕ) {n : _} (row : Row_of-Group n) → AllByRecursion Facts (nodes_below t row) → (vs : List GroupVal) → before ≤ limit → Near limit (groups_taken limit i before row vs)
    near_groups t i before end_of-Group facts vs within = within
    near_groups t i before (more_of-Group g rest) facts [] within = within
    near_groups t i before (more_of-Group g rest) facts (v ∷ vs) within =
        let two = all_apart Facts (nodes_of t g) (nodes_below t rest) facts in
        near_then limit (taken_in (way.Part i) (group_taken limit before g v)) (λ after. groups_taken limit (suc i) after rest vs)
        (near_step limit (way.Part i) (group_taken limit before g v) (near_group t g two.0 v before within))
        (λ after still. near_groups t (suc i) after rest two.1 vs still)

    near_group : (t : ℕ) (g : Group) → AllByRecursion Facts (nodes_of t g) → (v : GroupVal) (before : ℕ) → before ≤ limit → Near limit (group_taken limit before g v)
    near_group t (Group' dim level) facts v before within =
        let own : Facts (node t (Some dim) level) = (holds_below Facts t (Some dim) level facts).0 in
        let size = (out-Level level).block_length in
        near_entries limit before dim
        (λ at entry. block_taken limit at size (out-Level level).fields (out-Block entry).fields then (λ after. tail_taken limit after level entry))
        (omega (arith, dim_narrow dim own.dim))
        (λ entry at here.
        near_then limit (block_taken limit at size (out-Level level).fields (out-Block entry).fields) (λ after. tail_taken limit after level entry)
        (near_block level limit at size (out-Block entry).fields here (omega (arith, own.block)))
        (λ after still. near_tail t (Some dim) level facts entry after still))
        (entries_in v) within

-- ---- a message

root_facts : (schema : WireSchema) (i : ℕ) (level : Level) → IsChecked schema → slice_get schema.messages i ≡ Some level → AllByRecursion Facts (nodes (0 + i) None level)
root_facts schema i level h at = all_of_message Facts 0 i schema.messages level (facts_list schema (all_nodes schema) h.blocks h.kinds.levels h.lengths) at

near_root : (schema : WireSchema) (limit i : ℕ) (level : Level) (block : Block) → IsChecked schema → slice_get schema.messages i ≡ Some level → Near limit (root_taken schema limit level block)
near_root schema limit i level block h at =
    let facts = root_facts schema i level h at in
    let own : Facts (node (0 + i) None level) = (holds_below Facts (0 + i) None level facts).0 in
    let size : ℕ = members_end 0 schema.header.members + (out-Level level).block_length in
    near_then limit (block_taken limit 0 size (out-Level level).fields (out-Block block).fields) (λ after. tail_taken limit after level block)
    (near_block level limit 0 size (out-Block block).fields (omega arith) (omega (arith, dim_narrow schema.header.members h.kinds.header, own.block)))
    (λ after still. near_tail limit (0 + i) None level facts block after still)

module _ (schema : WireSchema) (m : Msg) (limit : ℕ) (why : Misfit) where
  pub full_near : IsChecked schema → misfit schema m limit ≡ Some why → why.code ≡ code.Full → IsWanted limit why.detail
  full_near checked h full = by (slice_get schema.messages m.template) refl
    where
      by : (o : Option Level) → slice_get schema.messages m.template ≡ o → IsWanted limit why.detail
      by None at = absurd (not_full why.code (no_template schema m limit why (misfit_is schema m limit why None at h)).0 full)
      by (Some level) at = elim (root_cases schema m limit why level (misfit_is schema m limit why (Some level) at h)) [
        | inl told ↦ absurd (not_full why.code told.0 full)
        | inr parts ↦ subst (Near limit) parts.1 (near_root schema limit m.template level m.block checked at) full
      ]

  pub full_detail : IsChecked schema → limit < 2 ^ 64 → misfit schema m limit ≡ Some why → why.code ≡ code.Full → (n : ℕ) × (why.detail ≡ pos n) × (n < 2 ^ 65)
  full_detail checked few h full = let wanted = full_near checked h full in (wanted.bytes, wanted.told, omega (arith, wanted.near, few))
