-- The line of a message reads back as it.
use Rattle.std.proofs.Common.{◌≡◌, ◌≤◌, ◌<◌, ◌+◌, ◌*◌, ◌^◌, ◌==◌, ◌&&◌, ℕ, zero, suc, Bool, true, false, cond, List, [], ◌∷◌, Option, Some, None, Ok, map, pos, refl, sym, ap, ◌∙◌, subst, arith}
use Rattle.std.specs.Prelude.{◌||◌, if◌then◌else◌, codes, slice_get}
use Rattle.std.specs.List.{AllByRecursion}
use Rattle.std.specs.Str.{IsUtf8, bytes_eq}
use Rattle.std.proofs.lemmas.Bool.Decides.{nat_tests}
use Rattle.std.proofs.lemmas.Str.{is_utf8-from_IsUtf8}
use Rattle.std.proofs.lemmas.Slice.Eq.{bytes_eq-Decides}
use Rattle.serde_json.specs.Data.{Data, object, string, number, unsigned, Members, no_members, depth}
use Rattle.serde_json.specs.Find.{get_member}
use Rattle.serde_json.specs.Read.{read, max_depth}
use Rattle.serde_json.specs.Written.{compact_text}
use Rattle.sbe_types.specs.declared.kind.Leaf.{Leaf as LeafOf}
use Rattle.sbe_types.specs.declared.kind.Member.{Member}
use Rattle.sbe_types.specs.declared.schema.Level.{Level, Level', out-Level}
use Rattle.sbe_types.specs.declared.schema.WireSchema.{WireSchema}
use Rattle.sbe_types.specs.declared.message.Block.{Block}
use Rattle.sbe_types.specs.declared.message.Msg.{Msg}
use Rattle.sbe_types.specs.InForm.{IsName}
use Rattle.schema_rules.specs.Counters.{leaf_in, holds, holds_in}
use Rattle.schema_rules.specs.PartRules.{most_groups}
use Rattle.schema_facts.specs.Levels.{Node, nodes}
use Rattle.schema_facts.specs.CheckedLevels.{HasNames, HasKinds, groups_deep}
use Rattle.schema_facts.proofs.LevelForms.{all_of_message}
use Rattle.schema_facts.proofs.KindDeclared.{all_at}
use Rattle.json_values.specs.Values.{Entry, listed}
use Rattle.tree_json.specs.Lines.{block_entries, message_entries, message_at}
use Rattle.line_values.specs.Refusals.{Reading, refuse, or_refuse}
use Rattle.line_values.specs.declared.refusals.JCode.TheVariants.{UnknownName, Kind}
use Rattle.line_values.specs.Objects.{known, none_unknown, first_unknown}
use Rattle.line_values.specs.Keys.{message_names}
use Rattle.line_reading.specs.Lines.{block_read, Template, level_named, template_in, version_in, message_read, found_in, json_value, tree_of}
use Rattle.line_laws.specs.AsRead.{put_all, HasIntegers, HasTexts}
use Rattle.line_laws.specs.Listed.{AreDistinct, Finds, AreKnown}
use Rattle.line_laws.specs.LinesBack.{LinesReadBack, LinesDiffer}
use Rattle.line_laws.proofs.Printing.{text_is_read}
use Rattle.line_laws.proofs.Utf8.{text_is_utf8}
use Rattle.line_laws.proofs.Finding.{listed_is_found, listed_is_known}
use Rattle.line_laws.proofs.Differ.{IsOther, DoDiffer, do_differ, not_same}
use Rattle.line_laws.proofs.Shown.{ArePrinted, listed_integers, listed_texts, listed_deep, all_joined}
use Rattle.line_laws.proofs.TextBack.{number_kept, name_text}
use Rattle.line_laws.proofs.FieldsBack.{apart, ascii}
use Rattle.line_laws.proofs.BlockBack.{block_good}

-- ---- the template

abbrev name_of_level : Level → List ℕ
name_of_level level = (out-Level level).name

abbrev numbered : ℕ → Level → Template
numbered i level = record { number = i; level = level }

some_is : {a b : Level} → ◌≡◌ {A = Option Level} (Some a) (Some b) → a ≡ b
some_is h = cc

none_some : {a : Level} → ◌≡◌ {A = Option Level} None (Some a) → ⊥
none_some h = cc

name_there : (name : List ℕ) (levels : List Level) (i : ℕ) (level : Level) → IsOther name (map name_of_level levels) → slice_get levels i ≡ Some level → bytes_eq name (name_of_level level) ≡ false
name_there name [] i level h at = absurd (none_some at)
name_there name (l ∷ levels) zero level h at = subst (λ x. bytes_eq name (name_of_level x) ≡ false) (some_is at) (not_same name (name_of_level l) h.0)
name_there name (l ∷ levels) (suc i) level h at = name_there name levels i level h.1 at

-- the name of a message leads to it
level_found : (k i : ℕ) (levels : List Level) (level : Level) → DoDiffer (map name_of_level levels) → slice_get levels i ≡ Some level → level_named k levels (name_of_level level) ≡ Some (numbered (k + i) level)
level_found k i [] level h at = absurd (none_some at)
level_found k zero (l ∷ levels) level h at =
    let same : l ≡ level = some_is at in
    let is : bytes_eq (name_of_level l) (name_of_level level) ≡ true = (bytes_eq-Decides _ _).1 (ap name_of_level same) in
    let first : k ≡ k + 0 = omega arith in
    ap (λ t. cond t (Some (numbered k l)) (level_named (suc k) levels (name_of_level level))) is ∙ ap (λ x. Some (numbered k x)) same ∙ ap (λ n. Some (numbered n level)) first
level_found k (suc i) (l ∷ levels) level h at =
    let next : suc k + i ≡ k + suc i = omega arith in
    ap (λ t. cond t (Some (numbered k l)) (level_named (suc k) levels (name_of_level level))) (name_there (name_of_level l) levels i level h.0 at)
    ∙ level_found (suc k) i levels level h.1 at
    ∙ ap (λ n. Some (numbered n level)) next

-- ---- the version

holds_small : (o : Option LeafOf) (n : ℕ) → holds_in o n ≡ true → n < 2 ^ 64
holds_small None n h = absurd cc
holds_small (Some l) n h = number_kept l.prim (pos n) h

any_small : (members : List Member) (name : List ℕ) (n : ℕ) → holds members name n ≡ true → n < 2 ^ 64
any_small [] name n h = absurd cc
any_small (m ∷ ms) name n h = by (bytes_eq name m.name) (holds_in (leaf_in m.kind) n) refl h (any_small ms name n)
  where
    by : (t u : Bool) → holds_in (leaf_in m.kind) n ≡ u → ((t && u) || holds ms name n) ≡ true → (holds ms name n ≡ true → n < 2 ^ 64) → n < 2 ^ 64
    by true true e k later = holds_small (leaf_in m.kind) n e
    by true false e k later = later k
    by false u e k later = later k

same_number : (n : ℕ) → (n == n) ≡ true
same_number n = grind (arith, nat_tests)

-- ---- the object of a message

message_known : (level : Level) (version : ℕ) (b : Block) → AreKnown message_names (message_entries level version b)
unfolding block_entries
message_known (Level' name id semantic since block_length fields n groups parts) version b = (refl, (refl, (refl, (refl, (refl, tt)))))

message_distinct : (level : Level) (version : ℕ) (b : Block) → AreDistinct (message_entries level version b)
unfolding block_entries
message_distinct (Level' name id semantic since block_length fields n groups parts) version b = (
  (apart (codes "data") (codes "fields") refl, (apart (codes "data") (codes "groups") refl, (apart (codes "data") (codes "template") refl, (apart (codes "data") (codes "version") refl, tt)))),
  (
    (apart (codes "fields") (codes "groups") refl, (apart (codes "fields") (codes "template") refl, (apart (codes "fields") (codes "version") refl, tt))),
    ((apart (codes "groups") (codes "template") refl, (apart (codes "groups") (codes "version") refl, tt)), ((apart (codes "template") (codes "version") refl, tt), (tt, tt))),
  ),
)

message_parts : (level : Level) (version : ℕ) (b : Block) (ms : Members) → Finds (message_entries level version b) ms
    → Finds (block_entries level b) ms × (get_member (codes "template") ms ≡ Some (string (name_of_level level))) × (get_member (codes "version") ms ≡ Some (number (unsigned version)))
unfolding block_entries
message_parts (Level' name id semantic since block_length fields n groups parts) version b ms h = ((h.0, (h.1.0, (h.1.1.0, tt))), h.1.1.1.0, h.1.1.1.1.0)

last_printed : (n : ℕ) (name : List ℕ) (version : ℕ) → IsUtf8 name → version < 2 ^ 64 → ArePrinted n ((codes "template", Some (string name)) ∷ (codes "version", Some (number (unsigned version))) ∷ [])
last_printed n name version h small =
    (ascii (codes "template") refl, record { integers = tt; texts = h; deep = omega arith }, (ascii (codes "version") refl, record { integers = small; texts = tt; deep = omega arith }, tt))

own_named : (t : ℕ) (level : Level) → AllByRecursion (λ (node : Node). HasNames node.level) (nodes t None level) → IsName (name_of_level level)
unfolding nodes
own_named t (Level' name id semantic since block_length fields n groups parts) h = h.0.own

-- ---- the text

-- the text of an object of printed entries is read as the object
text_found : (n : ℕ) (es : List Entry) → ArePrinted n es → n < 127 → json_value (compact_text (object (listed es))) ≡ Some (object (put_all (listed es) no_members))
text_found n es h low =
    let d : Data = object (listed es) in
    let integers : HasIntegers d = listed_integers n es h in
    let texts : HasTexts d = listed_texts n es h in
    let shallow : depth d ≤ max_depth = omega (arith, listed_deep n es h) in
    let line = compact_text d in
    ap (λ (t : Bool). cond t (read line) None) (is_utf8-from_IsUtf8 line (text_is_utf8 d integers texts)) ∙ text_is_read d integers shallow

-- ---- a message

message_back : (schema : WireSchema) (m : Msg) (level : Level) → DoDiffer (map name_of_level schema.messages) → slice_get schema.messages m.template ≡ Some level → m.version ≡ schema.version → (ms : Members)
    → Finds (message_entries level m.version m.block) ms → first_unknown message_names ms ≡ None → block_read level ms ≡ Ok m.block → message_read schema ms ≡ Ok m
message_back schema m level differ at version ms found unknown back =
    let parts = message_parts level m.version m.block ms found in
    let first : 0 + m.template ≡ m.template = omega arith in
    let template : template_in schema.messages (get_member (codes "template") ms) ≡ Ok (numbered m.template level) =
    ap (template_in schema.messages) parts.1
    ∙ ap (or_refuse UnknownName (name_of_level level)) (level_found 0 m.template schema.messages level differ at)
    ∙ ap (λ n. Ok (numbered n level)) first in
    let number : version_in schema.version (get_member (codes "version") ms) ≡ Ok tt =
    ap (version_in schema.version) parts.2
    ∙ ap (λ n. version_in schema.version (Some (number (unsigned n)))) version
    ∙ ap (λ (t : Bool). if t then Ok tt else refuse Kind (codes "version")) (same_number schema.version) in
    let keys : known message_names ms ≡ Ok tt = ap none_unknown unknown in
    rw (template, number, keys, back) (ap (λ v. Ok (record { template = m.template; version = v; block = m.block })) (sym version))

pub line_back : LinesReadBack
line_back schema m checked bytes fits =
    let level = fits.0 in
    let at : slice_get schema.messages m.template ≡ Some level = fits.1 in
    let version : m.version ≡ schema.version = fits.2 in
    let named = all_of_message (λ (node : Node). HasNames node.level) 0 m.template schema.messages level checked.names at in
    let kinds = all_of_message HasKinds 0 m.template schema.messages level checked.kinds.levels at in
    let good = block_good schema.order (0 + m.template) None level m.block named kinds (bytes level at) fits.3 in
    let low : groups_deep level ≤ 6 = all_at (λ (l : Level). groups_deep l ≤ most_groups) schema.messages m.template level checked.nesting at in
    let small : m.version < 2 ^ 64 = subst (λ n. n < 2 ^ 64) (sym version) (any_small schema.header.members (codes "version") schema.version checked.numbers.version) in
    let es = message_entries level m.version m.block in
    let n = 3 * groups_deep level + 6 in
    let printed = all_joined n (block_entries level m.block) _ good.printed (last_printed n (name_of_level level) m.version (name_text (name_of_level level) (own_named (0 + m.template) level named)) small) in
    let ms = put_all (listed es) no_members in
    let found = listed_is_found es (message_distinct level m.version m.block) in
    let back = good.read ms (message_parts level m.version m.block ms found).0 in
    ap (λ o. tree_of schema (compact_text (message_at o m))) at
    ∙ ap (found_in schema) (text_found n es printed (omega (arith, low)))
    ∙ message_back schema m level (do_differ (map name_of_level schema.messages) checked.messages.names_differ) at version ms found (listed_is_known message_names es (message_known level m.version m.block)) back

ok_is : {m n : Msg} → ◌≡◌ {A = Reading Msg} (Ok m) (Ok n) → m ≡ n
ok_is h = cc

pub lines_differ : LinesDiffer
lines_differ schema m n checked first second fits others same =
    ok_is (sym (line_back schema m checked first fits) ∙ ap (tree_of schema) same ∙ line_back schema n checked second others)
