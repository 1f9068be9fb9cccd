-- The codes of a mapping that was read have 1 to 64 bytes, and so the datatypes of its fields keep what the rules ask.
use Rattle.std.proofs.Common.{◌≡◌, ℕ, Bool, true, false, cond, List, [], ◌∷◌, Some, None, Ok, arith, refl, codes}
use Rattle.std.specs.Prelude.{◌&&◌, map, flat_map, nat_le, nat_lt, length, is_some, if◌then◌else◌}
use Rattle.std.specs.List.{list_all, AllByRecursion}
use Rattle.std.specs.Str.{bytes_eq}
use Rattle.std.proofs.lemmas.Bool.Decides.{nat_tests}
use Rattle.serde_json.specs.Data.{Data}
use Rattle.json_elements.specs.Reading.{Reading, refusal, ◌>>=◌, refuse, inside}
use Rattle.json_elements.specs.Forms.{text as a_text}
use Rattle.json_elements.specs.Attributes.{needed}
use Rattle.json_elements.specs.Elements.{content, named}
use Rattle.json_elements.specs.Files.{value_of}
use Rattle.json_elements.specs.KnownChildren.{known_children, no_child}
use Rattle.json_elements.specs.declared.refusal.Cause.TheVariants.{Shape, BadAttribute}
use Rattle.json_elements.proofs.Yields.{Yields, ok_yields, err_yields, then_yields, inside_yields, needed_yields, named_yields, IfRead, all_append, children_yield}
use Rattle.map_elements.proofs.KnownMembers.{members_yield, known_yields}
use Rattle.bridge_rules.proofs.BoolLemmas.{and_so}
use Rattle.map_types.specs.declared.tree.CodeEl.{CodeEl}
use Rattle.map_types.specs.declared.tree.CodeSetEl.{CodeSetEl}
use Rattle.map_types.specs.declared.tree.FieldEl.{FieldEl}
use Rattle.map_types.specs.declared.tree.Repository.{Repository}
use Rattle.map_types.specs.declared.tree.RepositoryItem.{RepositoryItem}
use Rattle.map_types.specs.declared.tree.RepositoryItem.TheVariants as part
use Rattle.map_types.specs.Trees.{code_sets_of, members_of}
use Rattle.map_elements.specs.declared.element_name.ElementName.{ElementName}
use Rattle.map_elements.specs.declared.element_name.ElementName.TheVariants as element
use Rattle.map_elements.specs.declared.form.TheConstants.{TEXT_LIMIT}
use Rattle.map_elements.specs.Names.{element_of, short_in, a_code_value}
use Rattle.map_elements.specs.Fields.{datatype_child, code_from, code_item, code_child, code_set_from, code_set_item, code_set_child, field_child}
use Rattle.map_elements.specs.References.{members}
use Rattle.map_elements.specs.Groups.{component_child, group_list_child}
use Rattle.map_elements.specs.Messages.{message_child}
use Rattle.map_elements.specs.Repositories.{repository_item, repository_child, repository_from, root, repository_of}
use Rattle.bridge_rules.specs.Datatypes.{NamedCode, Datatype, whole_number, decimal_number, character, text, boolean, timestamp, time_of_day, calendar_day, month_of_year, raw, code_set, character_set, unbridged}
use Rattle.bridge_rules.specs.Bounds.{IsMapped, is_short}
use Rattle.field_types.specs.FieldTypes.{named_code, set_type, set_named, is_plain_text, is_day_type, data_type, standard_type, type_by, field_type, datatypes_of, HasShortCodes, AreShort}
use Rattle.map_rules.specs.Datatypes.{is_int_type, is_decimal_type}

-- ---- the datatype of a field

either_mapped : (b : Bool) (d e : Datatype) → IsMapped d → IsMapped e → IsMapped (cond b d e)
either_mapped true d e p q = p
either_mapped false d e p q = q

short_codes : (cs : List CodeEl) → list_all (λ (c : CodeEl). is_short c.value) cs ≡ true → list_all (λ (c : NamedCode). is_short c.text) (map named_code cs) ≡ true
short_codes [] h = refl
short_codes (c ∷ cs) h = by_test (is_short c.value) h (short_codes cs)
  where
    by_test : (b : Bool) → b && list_all (λ (c : CodeEl). is_short c.value) cs ≡ true →
        (list_all (λ (c : CodeEl). is_short c.value) cs ≡ true → list_all (λ (c : NamedCode). is_short c.text) (map named_code cs) ≡ true) →
        b && list_all (λ (c : NamedCode). is_short c.text) (map named_code cs) ≡ true
    by_test true k more = more k
    by_test false k more = k

set_mapped : (s : CodeSetEl) → HasShortCodes s → IsMapped (set_type s)
set_mapped s h = either_mapped (bytes_eq s.type_name (codes "MultipleCharValue")) (character_set (map named_code s.children)) (code_set (map named_code s.children)) tt (short_codes s.children h)

standard_mapped : (has_length : Bool) (name : List ℕ) → IsMapped (standard_type has_length name)
standard_mapped has_length name =
    either_mapped (is_int_type name) whole_number _ tt
    (either_mapped (is_decimal_type name) decimal_number _ tt
    (either_mapped (is_plain_text name) text _ tt
    (either_mapped (bytes_eq name (codes "char")) character _ tt
    (either_mapped (bytes_eq name (codes "Boolean")) boolean _ tt
    (either_mapped (bytes_eq name (codes "UTCTimestamp")) timestamp _ tt
    (either_mapped (bytes_eq name (codes "UTCTimeOnly")) time_of_day _ tt
    (either_mapped (is_day_type name) calendar_day _ tt
    (either_mapped (bytes_eq name (codes "MonthYear")) month_of_year _ tt
    (either_mapped (bytes_eq name (codes "data")) (data_type has_length) unbridged (either_mapped has_length raw unbridged tt tt) tt)))))))))

set_there : (sets : List CodeSetEl) (has_length : Bool) (name key : List ℕ) → AreShort sets → IsMapped (type_by has_length name (set_named key sets))
set_there [] has_length name key h = standard_mapped has_length name
set_there (s ∷ ss) has_length name key h = by_test (bytes_eq s.name key) (set_there ss has_length name key h.1)
  where
    by_test : (b : Bool) → IsMapped (type_by has_length name (set_named key ss)) → IsMapped (type_by has_length name (cond b (Some s) (set_named key ss)))
    by_test true more = set_mapped s h.0
    by_test false more = more

pub field_mapped : (sets : List CodeSetEl) (f : FieldEl) → AreShort sets → IsMapped (field_type sets f)
field_mapped sets f h = set_there sets (is_some f.length_id) f.type_name f.type_name h

pub fields_mapped : (sets : List CodeSetEl) (fields : List FieldEl) → AreShort sets → AllByRecursion (λ (d : ℕ × Datatype). IsMapped d.1) (datatypes_of sets fields)
fields_mapped sets [] h = tt
fields_mapped sets (f ∷ fs) h = (field_mapped sets f h, fields_mapped sets fs h)

-- ---- codes

abbrev IsShortCode : CodeEl → Type 0
IsShortCode c = is_short c.value ≡ true

abbrev IsShortText : List ℕ → Type 0
IsShortText t = is_short t ≡ true

short_kept : (t : List ℕ) (b c : Bool) → nat_le 1 (length t) ≡ b → nat_le (length t) TEXT_LIMIT ≡ c → Yields IsShortText (if b && c then Ok t else refuse BadAttribute)
short_kept t true true h k = ok_yields IsShortText t (and_so (nat_lt 0 (length t)) _ (grind (arith, nat_tests)) k)
short_kept t true false h k = err_yields IsShortText (refusal BadAttribute [])
short_kept t false c h k = err_yields IsShortText (refusal BadAttribute [])

value_yields : (d : Data) → Yields IsShortText (a_code_value d)
value_yields d = then_yields IsShortText (a_text d) short_in (λ t _. short_kept t (nat_le 1 (length t)) (nat_le (length t) TEXT_LIMIT) refl refl)

code_yields : (d : Data) → Yields IsShortCode (code_from d)
code_yields d =
    then_yields IsShortCode (content d) _ (λ children _.
    then_yields IsShortCode (needed a_text (codes "name") d) _ (λ name _.
    then_yields IsShortCode (needed a_code_value (codes "value") d) _ (λ value is_value.
    then_yields IsShortCode (known_children no_child [] 0 children) _ (λ _ _.
    ok_yields IsShortCode _ (needed_yields IsShortText a_code_value (codes "value") d value_yields value is_value)))))

code_item_yields : (name : ElementName) (d : Data) → Yields (IfRead IsShortCode) (code_item name d)
code_item_yields element.Code d = known_yields IsShortCode (codes "code") (code_from d) (code_yields d)
code_item_yields _ d = ok_yields (IfRead IsShortCode) None tt

-- ---- code sets

all_short : (cs : List CodeEl) → AllByRecursion IsShortCode cs → list_all (λ (c : CodeEl). is_short c.value) cs ≡ true
all_short [] all = refl
all_short (c ∷ cs) all = and_so (is_short c.value) _ all.0 (all_short cs all.1)

code_set_yields : (d : Data) → Yields HasShortCodes (code_set_from d)
code_set_yields d =
    then_yields HasShortCodes (content d) _ (λ children _.
    then_yields HasShortCodes (needed a_text (codes "name") d) _ (λ name _.
    then_yields HasShortCodes (needed a_text (codes "type") d) _ (λ type_name _.
    then_yields HasShortCodes (known_children code_child [] 0 children) _ (λ its_codes are_read.
    ok_yields HasShortCodes _
    (all_short its_codes (children_yield IsShortCode code_child (λ before name d. code_item_yields (element_of name) d) [] tt 0 children its_codes are_read))))))

code_set_item_yields : (name : ElementName) (d : Data) → Yields (IfRead HasShortCodes) (code_set_item name d)
code_set_item_yields element.CodeSet d = known_yields HasShortCodes (codes "codeSet") (code_set_from d) (code_set_yields d)
code_set_item_yields _ d = ok_yields (IfRead HasShortCodes) None tt

-- ---- the repository

-- the codes of its code sets, if it has some, are short
abbrev HasShortSets : RepositoryItem → Type 0
HasShortSets x = AreShort (code_sets_of x)

-- a list of other members has none
other_list : {A : Type 0} (read : Reading A) (made : A → RepositoryItem) → ((x : A) → HasShortSets (made x)) → Yields (IfRead HasShortSets) (read >>= (λ x. Ok (Some (made x))))
other_list read made none = then_yields (IfRead HasShortSets) read (λ x. Ok (Some (made x))) (λ x _. ok_yields (IfRead HasShortSets) (Some (made x)) (none x))

item_yields : (name : ElementName) (d : Data) → Yields (IfRead HasShortSets) (repository_item name d)
item_yields element.CodeSets d =
    then_yields (IfRead HasShortSets) (inside (codes "codeSets") (members code_set_child d)) (λ xs. Ok (Some (part.CodeSets (record { children = xs })))) (λ xs at.
    ok_yields (IfRead HasShortSets) (Some (part.CodeSets (record { children = xs })))
    (inside_yields (AllByRecursion HasShortCodes) (codes "codeSets") (members code_set_child d)
    (members_yield HasShortCodes code_set_child (λ before name d. code_set_item_yields (element_of name) d) d) xs at))
item_yields element.Datatypes d = other_list (inside (codes "datatypes") (members datatype_child d)) (λ xs. part.Datatypes (record { children = xs })) (λ xs. tt)
item_yields element.Fields d = other_list (inside (codes "fields") (members field_child d)) (λ xs. part.Fields (record { children = xs })) (λ xs. tt)
item_yields element.Components d = other_list (inside (codes "components") (members component_child d)) (λ xs. part.Components (record { children = xs })) (λ xs. tt)
item_yields element.Groups d = other_list (inside (codes "groups") (members group_list_child d)) (λ xs. part.Groups (record { children = xs })) (λ xs. tt)
item_yields element.Messages d = other_list (inside (codes "messages") (members message_child d)) (λ xs. part.Messages (record { children = xs })) (λ xs. tt)
item_yields _ d = ok_yields (IfRead HasShortSets) None tt

sets_short : (items : List RepositoryItem) → AllByRecursion HasShortSets items → AreShort (flat_map code_sets_of items)
sets_short [] all = tt
sets_short (x ∷ xs) all = all_append HasShortCodes (code_sets_of x) (flat_map code_sets_of xs) all.0 (sets_short xs all.1)

abbrev IsShortRepository : Repository → Type 0
IsShortRepository r = AreShort (members_of r).code_sets

repository_yields : (d : Data) → Yields IsShortRepository (repository_from d)
repository_yields d =
    then_yields IsShortRepository (members repository_child d) (λ items. Ok (record { children = items })) (λ items are_read.
    ok_yields IsShortRepository (record { children = items }) (sets_short items (members_yield HasShortSets repository_child (λ before name d. item_yields (element_of name) d) d items are_read)))

root_yields : (name : ElementName) (d : Data) → Yields IsShortRepository (root name d)
root_yields element.Repository d = inside_yields IsShortRepository (codes "repository") (repository_from d) (repository_yields d)
root_yields _ d = err_yields IsShortRepository (refusal Shape [])

-- each code of a mapping file that was read has 1 to 64 bytes
pub codes_are_short : (bytes : List ℕ) (r : Repository) → repository_of bytes ≡ Ok r → AreShort (members_of r).code_sets
codes_are_short bytes r h =
    then_yields IsShortRepository (value_of bytes) (λ d. named (λ name. root (element_of name)) d)
    (λ d _. named_yields IsShortRepository (λ name. root (element_of name)) d (λ name inner. root_yields (element_of name) inner)) r h
