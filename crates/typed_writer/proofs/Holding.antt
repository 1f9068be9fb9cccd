-- Each member of a header or a dimension has room for the number of its name: there are no more members than names, and each
-- name has one.
use Rattle.std.proofs.Common.{◌≡◌, ◌≤◌, ◌<◌, ℕ, zero, suc, ◌+◌, Bool, true, false, List, [], ◌∷◌, length, take, length-append, Option, Some, None, refl, sym, ap, ◌∙◌, subst, arith, eqb-true}
use Rattle.std.specs.Prelude.{◌&&◌, ◌||◌, ◌==◌, codes, slice_get}
use Rattle.std.specs.List.{AllByRecursion, list_any}
use Rattle.std.specs.Option.{option_and_then}
use Rattle.std.specs.Str.{bytes_eq}
use Rattle.std.proofs.lemmas.Slice.Eq.{bytes_eq-Decides}
use Rattle.sbe_types.specs.declared.kind.Member.{Member}
use Rattle.sbe_types.specs.declared.schema.Level.{Level, out-Level}
use Rattle.sbe_types.specs.declared.schema.WireSchema.{WireSchema}
use Rattle.sbe_types.specs.Places.{end_past}
use Rattle.schema_rules.specs.Counters.{leaf_in, is_counter, holds_in, holds, has_counter, has_both}
use Rattle.schema_facts.specs.CheckedLevels.{HasBlock, counting}
use Rattle.schema_facts.specs.IsChecked.{IsChecked}
use Rattle.schema_facts.specs.Levels.{Node, node, nodes, nodes_from, all_nodes, root_of}
use Rattle.schema_facts.proofs.KindDeclared.{all_at}
use Rattle.schema_facts.proofs.KindLists.{PlacedList, placed_members, NarrowList, narrow_members}
use Rattle.schema_facts.proofs.KindNumbers.{both_true}
use Rattle.schema_facts.proofs.LevelForms.{all_of_message, holds_below}
use Rattle.layout_tables.proofs.Items.{item_there}
use Rattle.layout_tables.proofs.Nodes.{nodes_open}
use Rattle.sbe_wire.specs.HeadNumbers.{number_of_name}
use Rattle.typed_writer.specs.Counted.{HaveRoomFor}
use Rattle.sbe_wire.specs.declared.counters.Counters.TheVariants.{Header, Dimension}
use Rattle.sbe_types.specs.Wire.{both}
use Rattle.sbe_wire.specs.Canonical.{named_bytes, header_numbers}
use Rattle.kind_bytes.specs.Members.{followed_by}
use Rattle.typed_writer.specs.Ready.{MembersStand}
use Rattle.typed_writer.specs.Steps.{header_in}
use Rattle.typed_writer.proofs.Lists.{behind_both}

-- ---- how many members pass a test

abbrev bit : Bool → ℕ
bit true = 1
bit false = 0

abbrev count : (Member → Bool) → List Member → ℕ
count p [] = 0
count p (m ∷ ms) = bit (p m) + count p ms

by_head : (b rest : Bool) (n : ℕ) → b || rest ≡ true → (rest ≡ true → 1 ≤ n) → 1 ≤ bit b + n
by_head true rest n h k = omega arith
by_head false rest n h k = let later = k h in omega (arith, later)

any_counts : (p : Member → Bool) (ms : List Member) → list_any p ms ≡ true → 1 ≤ count p ms
any_counts p [] h = cc
any_counts p (m ∷ ms) h = by_head (p m) (list_any p ms) (count p ms) h (λ k. any_counts p ms k)

bit_small : (b : Bool) → bit b ≤ 1
bit_small true = omega arith
bit_small false = omega arith

count_most : (p : Member → Bool) (ms : List Member) → count p ms ≤ length ms
count_most p [] = omega arith
count_most p (m ∷ ms) = let here = bit_small (p m) in let rest = count_most p ms in omega (arith, here, rest)

is_one : (b : Bool) (c n : ℕ) → suc n ≤ bit b + c → c ≤ n → b ≡ true
is_one true c n h most = refl
is_one false c n h most = absurd (omega (arith, h, most))

all_good : (good : Member → Bool) (ms : List Member) → length ms ≤ count good ms → AllByRecursion (λ (m : Member). good m ≡ true) ms
all_good good [] h = tt
all_good good (m ∷ ms) h =
    let most = count_most good ms in
    let here = bit_small (good m) in
    (is_one (good m) (count good ms) (length ms) h most, all_good good ms (omega (arith, h, here)))

below_four : (p q r s good : Member → Bool) (ms : List Member) → ((m : Member) → bit (p m) + bit (q m) + bit (r m) + bit (s m) ≤ bit (good m)) →
    count p ms + count q ms + count r ms + count s ms ≤ count good ms
below_four p q r s good [] one = omega arith
below_four p q r s good (m ∷ ms) one = let here = one m in let rest = below_four p q r s good ms one in omega (arith, here, rest)

below_two : (p q good : Member → Bool) (ms : List Member) → ((m : Member) → bit (p m) + bit (q m) ≤ bit (good m)) → count p ms + count q ms ≤ count good ms
below_two p q good [] one = omega arith
below_two p q good (m ∷ ms) one = let here = one m in let rest = below_two p q good ms one in omega (arith, here, rest)

-- ---- by the names

-- a member of that name passes the test with the number
abbrev pub has_named : (Member → ℕ → Bool) → List ℕ → ℕ → Member → Bool
has_named x name n m = bytes_eq name m.name && x m n

equal_names : (a b : List ℕ) → bytes_eq a b ≡ true → a ≡ b
equal_names a b h = (bytes_eq-Decides a b).0 h

module _ (x : ℕ → Bool) (block template schema version : ℕ) where
  abbrev FitsHeader : List ℕ → Type 0
  FitsHeader name =
      bit (bytes_eq (codes "blockLength") name && x block) + bit (bytes_eq (codes "templateId") name && x template)
      + bit (bytes_eq (codes "schemaId") name && x schema) + bit (bytes_eq (codes "version") name && x version)
      ≤ bit (x (number_of_name (Header block template schema version) name))

  at_block : FitsHeader (codes "blockLength")
  at_block = omega arith

  at_template : FitsHeader (codes "templateId")
  at_template = omega arith

  at_schema : FitsHeader (codes "schemaId")
  at_schema = omega arith

  at_version : FitsHeader (codes "version")
  at_version = omega arith

  by_version : (name : List ℕ) (t : Bool) → bytes_eq (codes "blockLength") name ≡ false → bytes_eq (codes "templateId") name ≡ false → bytes_eq (codes "schemaId") name ≡ false →
      bytes_eq (codes "version") name ≡ t → FitsHeader name
  by_version name true b c d e = subst FitsHeader (equal_names (codes "version") name e) at_version
  by_version name false b c d e = rw (b, c, d, e) (omega arith)

  by_schema : (name : List ℕ) (t : Bool) → bytes_eq (codes "blockLength") name ≡ false → bytes_eq (codes "templateId") name ≡ false → bytes_eq (codes "schemaId") name ≡ t → FitsHeader name
  by_schema name true b c d = subst FitsHeader (equal_names (codes "schemaId") name d) at_schema
  by_schema name false b c d = by_version name (bytes_eq (codes "version") name) b c d refl

  by_template : (name : List ℕ) (t : Bool) → bytes_eq (codes "blockLength") name ≡ false → bytes_eq (codes "templateId") name ≡ t → FitsHeader name
  by_template name true b c = subst FitsHeader (equal_names (codes "templateId") name c) at_template
  by_template name false b c = by_schema name (bytes_eq (codes "schemaId") name) b c refl

  by_block : (name : List ℕ) (t : Bool) → bytes_eq (codes "blockLength") name ≡ t → FitsHeader name
  by_block name true b = subst FitsHeader (equal_names (codes "blockLength") name b) at_block
  by_block name false b = by_template name (bytes_eq (codes "templateId") name) b refl

  fits_header : (name : List ℕ) → FitsHeader name
  fits_header name = by_block name (bytes_eq (codes "blockLength") name) refl

module _ (x : ℕ → Bool) (block many : ℕ) where
  abbrev FitsDim : List ℕ → Type 0
  FitsDim name = bit (bytes_eq (codes "blockLength") name && x block) + bit (bytes_eq (codes "numInGroup") name && x many) ≤ bit (x (number_of_name (Dimension block many) name))

  dim_block : FitsDim (codes "blockLength")
  dim_block = omega arith

  dim_count : FitsDim (codes "numInGroup")
  dim_count = omega arith

  by_dim_count : (name : List ℕ) (t : Bool) → bytes_eq (codes "blockLength") name ≡ false → bytes_eq (codes "numInGroup") name ≡ t → FitsDim name
  by_dim_count name true b c = subst FitsDim (equal_names (codes "numInGroup") name c) dim_count
  by_dim_count name false b c = rw (b, c) (omega arith)

  by_dim_block : (name : List ℕ) (t : Bool) → bytes_eq (codes "blockLength") name ≡ t → FitsDim name
  by_dim_block name true b = subst FitsDim (equal_names (codes "blockLength") name b) dim_block
  by_dim_block name false b = by_dim_count name (bytes_eq (codes "numInGroup") name) b refl

  fits_dim : (name : List ℕ) → FitsDim name
  fits_dim name = by_dim_block name (bytes_eq (codes "blockLength") name) refl

-- ---- headers and dimensions

header_good : (x : Member → ℕ → Bool) (b t s v : ℕ) (ms : List Member) → length ms ≡ 4 →
    list_any (has_named x (codes "blockLength") b) ms ≡ true → list_any (has_named x (codes "templateId") t) ms ≡ true →
    list_any (has_named x (codes "schemaId") s) ms ≡ true → list_any (has_named x (codes "version") v) ms ≡ true →
    AllByRecursion (λ (m : Member). x m (number_of_name (Header b t s v) m.name) ≡ true) ms
header_good x b t s v ms long hb ht hs hv =
    let good : Member → Bool = λ m. x m (number_of_name (Header b t s v) m.name) in
    let below = below_four (has_named x (codes "blockLength") b) (has_named x (codes "templateId") t) (has_named x (codes "schemaId") s) (has_named x (codes "version") v)
    good ms (λ m. fits_header (x m) b t s v m.name) in
    let cb = any_counts (has_named x (codes "blockLength") b) ms hb in
    let ct = any_counts (has_named x (codes "templateId") t) ms ht in
    let cs = any_counts (has_named x (codes "schemaId") s) ms hs in
    let cv = any_counts (has_named x (codes "version") v) ms hv in
    all_good good ms (omega (arith, below, cb, ct, cs, cv, long))

pub dim_good : (x : Member → ℕ → Bool) (b n : ℕ) (ms : List Member) → length ms ≡ 2 →
    list_any (has_named x (codes "blockLength") b) ms ≡ true → list_any (has_named x (codes "numInGroup") n) ms ≡ true →
    AllByRecursion (λ (m : Member). x m (number_of_name (Dimension b n) m.name) ≡ true) ms
dim_good x b n ms long hb hn =
    let good : Member → Bool = λ m. x m (number_of_name (Dimension b n) m.name) in
    let below = below_two (has_named x (codes "blockLength") b) (has_named x (codes "numInGroup") n) good ms (λ m. fits_dim (x m) b n m.name) in
    let cb = any_counts (has_named x (codes "blockLength") b) ms hb in
    let cn = any_counts (has_named x (codes "numInGroup") n) ms hn in
    all_good good ms (omega (arith, below, cb, cn, long))

abbrev pub counts : Member → ℕ → Bool
counts m n = is_counter (leaf_in m.kind)

abbrev pub has_room : Member → ℕ → Bool
has_room m n = holds_in (leaf_in m.kind) n

pub both_good : (numbers : List ℕ → ℕ) (ms : List Member) → AllByRecursion (λ (m : Member). counts m (numbers m.name) ≡ true) ms →
    AllByRecursion (λ (m : Member). has_room m (numbers m.name) ≡ true) ms → HaveRoomFor numbers ms
both_good numbers [] h k = tt
both_good numbers (m ∷ ms) h k = (record { counter = h.0; holds = k.0 }, both_good numbers ms h.1 k.1)

abbrev HasHeaderBlock : WireSchema → Node → Type 0
HasHeaderBlock schema this = HasBlock (counting schema.header.members this) this.level

-- the header of message t
pub header_holds : (schema : WireSchema) (t : ℕ) (root : Level) → IsChecked schema → slice_get schema.messages t ≡ Some root →
    HaveRoomFor (number_of_name (Header (out-Level root).block_length (out-Level root).id schema.id schema.version)) schema.header.members
header_holds schema t root checked at =
    let ms = schema.header.members in
    let b = (out-Level root).block_length in
    let i = (out-Level root).id in
    let is = both_true (length ms == 4) _ checked.counters.header in
    let four : length ms ≡ 4 = eqb-true (length ms) 4 is.0 in
    let two = both_true (has_both ms (codes "blockLength") (codes "templateId")) _ is.1 in
    let one = both_true (has_counter ms (codes "blockLength")) _ two.0 in
    let other = both_true (has_counter ms (codes "schemaId")) _ two.1 in
    let block : HasHeaderBlock schema (node (0 + t) None root) =
    (holds_below (HasHeaderBlock schema) (0 + t) None root (all_of_message (HasHeaderBlock schema) 0 t schema.messages root checked.blocks at)).0 in
    let id = all_at (λ (l : Level). holds ms (codes "templateId") (out-Level l).id ≡ true) schema.messages t root checked.numbers.ids at in
    both_good (number_of_name (Header b i schema.id schema.version)) ms
    (header_good counts b i schema.id schema.version ms four one.0 one.1 other.0 other.1)
    (header_good has_room b i schema.id schema.version ms four block.held id checked.numbers.id checked.numbers.version)

pub members_stand : (e : ℕ) (ms : List Member) → PlacedList e ms → NarrowList e ms → MembersStand e ms
members_stand e [] h k = tt
members_stand e (m ∷ ms) h k = (h.0, k.1, members_stand (end_past e m.offset m.kind) ms h.2 k.2)

pub header_stands : (schema : WireSchema) → IsChecked schema → MembersStand 0 schema.header.members
header_stands schema checked =
    let ms = schema.header.members in
    members_stand 0 ms (placed_members ms checked.kinds.header.within.placed) (narrow_members ms checked.kinds.header.within.narrow)

-- ---- the root

root_node : (k t : ℕ) (roots : List Level) (root : Level) → slice_get roots t ≡ Some root →
    length (nodes_from k (take t roots)) < length (nodes_from k roots)
root_node k t [] root at = cc
root_node k zero (l ∷ roots) root at =
    let opened = ap length (nodes_open k None l) in
    let long = length-append (nodes k None l) (nodes_from (suc k) roots) in
    omega (arith, opened, long)
root_node k (suc t) (l ∷ roots) root at =
    let rest = root_node (suc k) t roots root at in
    let long = length-append (nodes k None l) (nodes_from (suc k) roots) in
    let front = length-append (nodes k None l) (nodes_from (suc k) (take t roots)) in
    omega (arith, rest, long, front)

pub root_within : (schema : WireSchema) (t : ℕ) → t < length schema.messages → root_of schema t < length (all_nodes schema)
root_within schema t low = let w = item_there schema.messages t low in root_node 0 t schema.messages w.0 w.1

-- the bytes of a header, by its numbers
pub header_told : (schema : WireSchema) (t : ℕ) (root : Level) (old new : List ℕ) → slice_get schema.messages t ≡ Some root →
    followed_by old (named_bytes schema.order (number_of_name (Header (out-Level root).block_length (out-Level root).id schema.id schema.version)) 0 schema.header.members) ≡ Some new →
    followed_by old (header_in schema t) ≡ Some new
header_told schema t root old new at h =
    ap (λ (o : Option Level). followed_by old (option_and_then (λ (root : Level). named_bytes schema.order (header_numbers schema root) 0 schema.header.members) o)) at ∙ h

only : (o : Option (List ℕ)) → followed_by [] o ≡ o
only None = refl
only (Some bytes) = refl

-- a header and a block in an empty buffer
pub root_bytes : (a b : Option (List ℕ)) (middle new : List ℕ) → followed_by [] a ≡ Some middle → followed_by middle b ≡ Some new → both a b ≡ Some new
root_bytes a b middle new h k = sym (only (both a b)) ∙ behind_both [] middle new a b h k
