-- An entry, a group and a root that were walked.
use Rattle.std.proofs.Common.{◌≡◌, ◌<◌, ℕ, ◌+◌, ◌-◌, true, List, [], ◌∷◌, length, take, drop, get_or, Option, Some, None, IfSome, refl, sym, ap, ◌∙◌, subst, arith}
use Rattle.std.specs.Prelude.{◌==◌, codes, slice_get}
use Rattle.std.specs.List.{All}
use Rattle.std.proofs.lemmas.Bool.Decides.{nat_tests}
use Rattle.std.proofs.lemmas.List.Elements.{All-get_or}
use Rattle.std.proofs.lemmas.Option.{slice_get-get_or}
use Rattle.byte_digits.specs.Digits.{IsBytes}
use Rattle.sbe_types.specs.declared.kind.Member.{Member}
use Rattle.sbe_types.specs.declared.kind.Order.{Order}
use Rattle.sbe_types.specs.declared.schema.DataField.{DataField}
use Rattle.sbe_types.specs.declared.schema.Group.{Group, out-Group}
use Rattle.sbe_types.specs.declared.schema.Level.{Level, out-Level}
use Rattle.sbe_types.specs.declared.schema.WireSchema.{WireSchema}
use Rattle.sbe_types.specs.Places.{members_end}
use Rattle.sbe_wire.specs.Canonical.{header_numbers}
use Rattle.schema_facts.specs.IsChecked.{IsChecked}
use Rattle.writing_laws.specs.Writable.{HasNamed, IsWritablePart}
use Rattle.writable_schemas.proofs.CheckedSchemas.{schema_writable}
use Rattle.clean_bodies.specs.Bodies.{IsCanonicalRoot}
use Rattle.clean_bodies.specs.Clean.{IsCleanBlock}
use Rattle.clean_bodies.specs.Good.{IsGoodLevel, IsGoodGroup}
use Rattle.clean_bodies.specs.Says.{SayNumbers}
use Rattle.clean_bodies.specs.Steps.{Place, PartStep, EntryStep, GroupStep}
use Rattle.clean_bodies.specs.Whole.{Chain, Times}
use Rattle.clean_bodies.proofs.CleanGroups.{entry_whole}
use Rattle.clean_bodies.proofs.CleanLevels.{tail_whole, group_step, good_groups, good_parts}
use Rattle.clean_bodies.proofs.CleanMessages.{message_clean}
use Rattle.sbe_wire.specs.HeadNumbers.{number_of_name}
use Rattle.sbe_wire.specs.declared.counters.Counters.TheVariants.{Header}
use Rattle.clean_walk.specs.inner.Heads.{GroupSays}
use Rattle.clean_walk.specs.inner.Places.{place_in}
use Rattle.clean_walk.proofs.Saying.{say_front}

-- what is known of a number that was told, where more follows
pub if_more : (P Q : ℕ → Type 0) → ((n : ℕ) → P n → Q n) → (o : Option ℕ) → IfSome o P → IfSome o Q
if_more P Q more None h = tt
if_more P Q more (Some n) h = more n h

pub parts_good : (version : ℕ) (level : Level) (ps : List DataField) → ps ≡ (out-Level level).parts
    → IsGoodLevel version level → All (IsWritablePart version) ps
parts_good version level ps same known = subst (All (IsWritablePart version)) (sym same) (good_parts version level known)

pub entry_walked : (place : Place) (level : Level) (ps : List DataField) (at size mid next : ℕ) → size ≡ (out-Level level).block_length
    → ps ≡ (out-Level level).parts → IsGoodLevel place.version level → IsBytes place.body
    → IsCleanBlock (out-Level level).fields (take (at + size - at) (drop at place.body))
    → Chain Group (GroupStep place) (out-Level level).groups (at + size) mid
    → Chain DataField (PartStep place) ps mid next → EntryStep place level at next
entry_walked place level ps at size mid next is parts good bytes clean first second =
    let fields = (out-Level level).fields in
    let groups = (out-Level level).groups in
    let wide : ℕ = (out-Level level).block_length in
    let long : at + size - at ≡ wide = omega (arith, is) in
    entry_whole place level good bytes at next
    (subst (λ n. IsCleanBlock fields (take n (drop at place.body))) long clean)
    (tail_whole place level (at + wide) mid next (subst (λ n. Chain Group (GroupStep place) groups (at + n) mid) is first) (subst (λ l. Chain DataField (PartStep place) l mid next) parts second))

none_in : {X : Type 0} (xs : List X) → length xs == 0 ≡ true → xs ≡ []
none_in [] h = refl
none_in (x ∷ xs) h = absurd (grind (arith, nat_tests, h))

-- an entry with neither groups nor data
pub plain_walked : (place : Place) (level : Level) (gs : List Group) (ps : List DataField) (at size : ℕ) → size ≡ (out-Level level).block_length
    → gs ≡ (out-Level level).groups → ps ≡ (out-Level level).parts → IsGoodLevel place.version level → IsBytes place.body
    → IsCleanBlock (out-Level level).fields (take (at + size - at) (drop at place.body))
    → length gs == 0 ≡ true → length ps == 0 ≡ true → EntryStep place level at (at + size)
plain_walked place level gs ps at size is groups parts good bytes clean no_groups no_parts =
    let end = at + size in
    entry_walked place level ps at size end end is parts good bytes clean
    (subst (λ l. Chain Group (GroupStep place) l end end) (sym (none_in gs no_groups) ∙ groups) refl)
    (subst (λ l. Chain DataField (PartStep place) l end end) (sym (none_in ps no_parts)) refl)

-- a group of a level, by its place
pub group_good : (version : ℕ) (level : Level) (gs : List Group) (i : ℕ) (g : Group) → gs ≡ (out-Level level).groups → i < length gs → g ≡ get_or gs i g
    → IsGoodLevel version level → IsGoodGroup version g
group_good version level gs i g same below is known =
    let all : All (IsGoodGroup version) gs = subst (All (IsGoodGroup version)) (sym same) (good_groups version level known) in
    subst (IsGoodGroup version) (sym is) (All-get_or (IsGoodGroup version) gs i g below all)

pub group_walked : (place : Place) (g : Group) (count at after next : ℕ) → IsGoodGroup place.version g
    → IsBytes place.body → GroupSays place.order place.body g count at → after ≡ at + members_end 0 (out-Group g).dim
    → Times (EntryStep place (out-Group g).level) count after next → GroupStep place g at next
group_walked place g count at after next good bytes says end steps =
    group_step place g count at next good bytes says (subst (λ n. Times (EntryStep place (out-Group g).level) count n next) end steps)

pub root_walked : (schema : WireSchema) (level : Level) (body : List ℕ) (ms : List Member) (size next : ℕ)
    → IsGoodLevel schema.version level → HasNamed schema.header.members (codes "blockLength") → IsBytes body
    → ms ≡ schema.header.members → size ≡ members_end 0 ms
    → SayNumbers schema.order (header_numbers schema level) 0 ms body → EntryStep (place_in schema body) level size next
    → IsCanonicalRoot schema level body
root_walked schema level body ms size next good named bytes same end says entry =
    let members = schema.header.members in
    let size_is : size ≡ members_end 0 members = end ∙ ap (members_end 0) same in
    let there : SayNumbers schema.order (header_numbers schema level) 0 members body =
    subst (λ l. SayNumbers schema.order (header_numbers schema level) 0 l body) same says in
    message_clean schema level body next good named bytes
    (say_front schema.order (header_numbers schema level) (members_end 0 members) body 0 members there (omega arith))
    (subst (λ n. EntryStep (place_in schema body) level n next) size_is entry)

-- the numbers of a header by what was told of the schema
pub numbers_of_header : (schema : WireSchema) (level : Level) (id version : ℕ) (order : Order) (ms : List Member) (body : List ℕ) → id ≡ schema.id → version ≡ schema.version → order ≡ schema.order →
    SayNumbers order (number_of_name (Header (out-Level level).block_length (out-Level level).id id version)) 0 ms body → SayNumbers schema.order (header_numbers schema level) 0 ms body
numbers_of_header schema level id version order ms body same_id same_version same_order says =
    let block = (out-Level level).block_length in
    let template = (out-Level level).id in
    subst (λ v. SayNumbers schema.order (number_of_name (Header block template schema.id v)) 0 ms body) same_version
    (subst (λ n. SayNumbers schema.order (number_of_name (Header block template n version)) 0 ms body) same_id
    (subst (λ o. SayNumbers o (number_of_name (Header block template id version)) 0 ms body) same_order says))

-- ---- the root of a message

pub root_at : (schema : WireSchema) (levels : List Level) (template : ℕ) (level : Level) → levels ≡ schema.messages
    → template < length levels → level ≡ get_or levels template level → slice_get schema.messages template ≡ Some level
root_at schema levels template level same below is = ap (λ l. slice_get l template) (sym same) ∙ slice_get-get_or levels template level below ∙ ap Some (sym is)

pub root_good : (schema : WireSchema) (template : ℕ) (level : Level) → IsChecked schema
    → slice_get schema.messages template ≡ Some level → IsGoodLevel schema.version level
root_good schema template level checked at =
    record { placed = checked.placed.levels template level at; writable = (schema_writable schema checked).levels template level at }

pub named_root : (schema : WireSchema) → IsChecked schema → HasNamed schema.header.members (codes "blockLength")
named_root schema checked = (schema_writable schema checked).block
