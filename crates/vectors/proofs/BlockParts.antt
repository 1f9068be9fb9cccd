-- Blocks, groups and messages, part by part.
use Rattle.std.proofs.Common.{◌≡◌, ◌<◌, ◌+◌, ◌%◌, ℕ, cond, drop, get_or, List, [], ◌∷◌, length, Option, Some, None, refl, sym, ap, ◌∙◌}
use Rattle.std.specs.Prelude.{slice_get}
use Rattle.std.specs.Str.{bytes_eq}
use denote.Hole.Carrier as carrier
use Rattle.rand_pcg.specs.Lcg.{Lcg}
use Rattle.sbe_types.specs.declared.schema.Level as levels
use Rattle.sbe_types.specs.declared.schema.Group as groups_of
use Rattle.sbe_types.specs.declared.schema.Group.{Group, Group', out-Group}
use Rattle.sbe_types.specs.declared.schema.Level.{Level, Level', out-Level, Row_of-Group, end_of-Group, more_of-Group, items-the_row-Group, items_shown-the_row-Group-0}
use Rattle.sbe_types.specs.declared.schema.WireSchema.{WireSchema}
use Rattle.sbe_types.specs.declared.message.Value.{Value}
use Rattle.sbe_types.specs.declared.message.DataVal.{DataVal}
use Rattle.sbe_types.specs.declared.message.DataVal.TheVariants as dataval
use Rattle.sbe_types.specs.declared.kind.Member.{Member}
use Rattle.sbe_types.specs.declared.schema.DataField.{DataField}
use Rattle.sbe_types.specs.declared.message.Block.{Block}
use Rattle.sbe_types.specs.declared.message.GroupVal.{GroupVal}
use Rattle.sbe_types.specs.declared.message.GroupVal.TheVariants as groupval
use Rattle.sbe_types.specs.declared.message.Msg.{Msg}
use Rattle.schema_rules.specs.Counters.{leaf_in}
use Rattle.vectors.specs.declared.numbers.TheConstants.{BYTE_VALUES, DATA_LENGTHS}
use Rattle.vectors.specs.Drawing.{below, each, times, words_of}
use Rattle.vectors.specs.Messages.{amount, leaf_named, count_drawn, field_drawn, part_drawn, block_drawn, groups_drawn, group_drawn, message_at, generated}
use Rattle.vectors.proofs.Gathering.{item_at}

rows_each : {n : _} (groups : Row_of-Group n) (words : Lcg) → groups_drawn groups words ≡ each group_drawn (items-the_row-Group _ groups) words
unfolding block_drawn each
rows_each end_of-Group words = refl
rows_each (more_of-Group g rest) words =
    ap (λ (z : List GroupVal × Lcg). ((group_drawn g words).0 ∷ z.0, z.1)) (rows_each rest (group_drawn g words).1)

abbrev pub block_of : List Value → List GroupVal → List DataVal → Block
block_of fields groups parts = record { fields = fields; groups = groups; parts = parts }

pub block_is : (level : Level) (words one two three : Lcg) (fields : List Value) (groups : List GroupVal) (parts : List DataVal) →
    each field_drawn (out-Level level).fields words ≡ (fields, one) → each group_drawn (out-Level level).groups one ≡ (groups, two) → each part_drawn (out-Level level).parts two ≡ (parts, three) →
    block_drawn level words ≡ (block_of fields groups parts, three)
unfolding block_drawn levels.out-Level carrier.out
block_is (Level' name id semantic since block_length fs n gs ps) words one two three fields groups parts a b c =
    ap (λ (p : List Value × Lcg). (block_of p.0 (groups_drawn gs p.1).0 (each part_drawn ps (groups_drawn gs p.1).1).0, (each part_drawn ps (groups_drawn gs p.1).1).1)) a
    ∙ ap (λ (q : List GroupVal × Lcg). (block_of fields q.0 (each part_drawn ps q.1).0, (each part_drawn ps q.1).1))
    (rows_each gs one ∙ sym (ap (λ l. each group_drawn l one) (items_shown-the_row-Group-0 n gs)) ∙ b)
    ∙ ap (λ (r : List DataVal × Lcg). (block_of fields groups r.0, r.1)) c

pub group_is : (g : Group) (words one two : Lcg) (n : ℕ) (entries : List Block) → count_drawn (out-Group g).dim words ≡ (n, one) → times n (block_drawn (out-Group g).level) one ≡ (entries, two) →
    group_drawn g words ≡ (groupval.Entries entries, two)
unfolding block_drawn groups_of.out-Group carrier.out
group_is (Group' dim level) words one two n entries a b =
    ap (λ (p : ℕ × Lcg). (groupval.Entries (times p.0 (block_drawn level) p.1).0, (times p.0 (block_drawn level) p.1).1)) a
    ∙ ap (λ (q : List Block × Lcg). (groupval.Entries q.0, q.1)) b

abbrev message_with : WireSchema → ℕ → Block → Option Msg
message_with schema template block = Some (record { template = template; version = schema.version; block = block })

pub generated_is : (schema : WireSchema) (seed index template : ℕ) (level : Level) (block : Block) (next : Lcg) → template ≡ index % length schema.messages → slice_get schema.messages template ≡ Some level →
    block_drawn level (words_of seed index) ≡ (block, next) → generated schema seed index ≡ Some (record { template = template; version = schema.version; block = block })
unfolding generated
generated_is schema seed index template level block next is at h =
    ap (λ t. (message_at schema t (slice_get schema.messages t) (words_of seed index)).0) (sym is)
    ∙ ap (λ o. (message_at schema template o (words_of seed index)).0) at
    ∙ ap (λ (p : Block × Lcg). message_with schema template p.0) h

no_level : (messages : List Level) (n : ℕ) → messages ≡ [] → slice_get messages n ≡ None
no_level messages n none = ap (λ (l : List Level). slice_get l n) none

pub none_generated : (schema : WireSchema) (seed index : ℕ) → schema.messages ≡ [] → generated schema seed index ≡ None
unfolding generated
none_generated schema seed index none =
    let template = index % length schema.messages in
    ap (λ (o : Option Level). (message_at schema template o (words_of seed index)).0) (no_level schema.messages template none)

pub part_is : (part : DataField) (words one two : Lcg) (n count : ℕ) (bytes : List ℕ) → below DATA_LENGTHS words ≡ (n, one) → count ≡ amount part.length n → times count (below BYTE_VALUES) one ≡ (bytes, two) →
    part_drawn part words ≡ (dataval.Bytes bytes, two)
part_is part words one two n count bytes a many b =
    ap (λ (p : ℕ × Lcg). (dataval.Bytes (times (amount part.length p.0) (below BYTE_VALUES) p.1).0, (times (amount part.length p.0) (below BYTE_VALUES) p.1).1)) a
    ∙ ap (λ k. (dataval.Bytes (times k (below BYTE_VALUES) one).0, (times k (below BYTE_VALUES) one).1)) (sym many)
    ∙ ap (λ (q : List ℕ × Lcg). (dataval.Bytes q.0, q.1)) b

-- the next member of a loop
pub leaf_next : (name : List ℕ) (members : List Member) (i : ℕ) (m : Member) → i < length members → m ≡ get_or members i m →
    leaf_named name (drop i members) ≡ cond (bytes_eq m.name name) (leaf_in m.kind) (leaf_named name (drop (i + 1) members))
leaf_next name members i m within at = ap (leaf_named name) (item_at members i m within at)
