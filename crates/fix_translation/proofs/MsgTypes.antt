-- The MsgTypes of a mapping that was read may be values of fields.
use Rattle.std.proofs.Common.{◌≡◌, ◌≢◌, ℕ, Bool, true, false, List, [], ◌∷◌, Option, Some, None, Ok, arith, refl, sym, ap, subst, codes, ◌∙◌}
use Rattle.std.specs.Prelude.{◌&&◌, ◌||◌, map, flat_map, nat_le, nat_eq, length, if◌then◌else◌}
use Rattle.std.specs.List.{list_any, AllByRecursion}
use Rattle.std.specs.Str.{bytes_eq}
use Rattle.std.proofs.lemmas.Bool.{leb-true}
use Rattle.std.proofs.lemmas.Slice.Eq.{bytes_eq-Decides}
use Rattle.serde_json.specs.Data.{Data}
use Rattle.json_elements.specs.Reading.{Reading, refusal, ◌>>=◌, refuse, inside}
use Rattle.json_elements.specs.Forms.{text as a_text}
use Rattle.json_elements.specs.Attributes.{needed}
use Rattle.json_elements.specs.Elements.{content, named}
use Rattle.json_elements.specs.Files.{value_of}
use Rattle.json_elements.specs.KnownChildren.{known_children}
use Rattle.json_elements.specs.declared.refusal.Cause.TheVariants.{Shape, BadAttribute}
use Rattle.json_elements.proofs.Yields.{Yields, ok_yields, err_yields, then_yields, inside_yields, needed_yields, named_yields, IfRead, all_append}
use Rattle.map_elements.proofs.KnownMembers.{members_yield, known_yields}
use Rattle.tagvalue_codec.specs.Drafts.{IsValue}
use Rattle.tagvalue_codec.specs.Fields.{soh}
use Rattle.map_types.specs.declared.tree.MessageEl.{MessageEl}
use Rattle.map_types.specs.declared.tree.Repository.{Repository}
use Rattle.map_types.specs.declared.tree.RepositoryItem.{RepositoryItem}
use Rattle.map_types.specs.declared.tree.RepositoryItem.TheVariants as part
use Rattle.map_types.specs.Trees.{messages_of, members_of, Members}
use Rattle.map_elements.specs.declared.element_name.ElementName.{ElementName}
use Rattle.map_elements.specs.declared.element_name.ElementName.TheVariants as element
use Rattle.map_elements.specs.declared.form.TheConstants.{TEXT_LIMIT}
use Rattle.map_elements.specs.Names.{element_of, short_in, plain_in, a_msg_type}
use Rattle.map_elements.specs.Fields.{datatype_child, code_set_child, field_child}
use Rattle.map_elements.specs.References.{members}
use Rattle.map_elements.specs.Groups.{component_child, group_list_child}
use Rattle.map_elements.specs.Messages.{structure_child, message_from, message_item, message_child}
use Rattle.map_elements.specs.Repositories.{repository_item, repository_child, repository_from, root, repository_of}
use Rattle.reference_graph.specs.Expansion.{Structure}
use Rattle.bridge_rules.specs.Datatypes.{Datatype}
use Rattle.bridge_terms.specs.Parts.{TagLists}
use Rattle.bridge_plan.specs.Mappings.{structure_for}
use Rattle.bridge_mapping.specs.Mapped.{mapping_of, tag_lists_of}
use Rattle.orchestra_map.specs.Structures.{message_structure}
use Rattle.fix_translation.specs.Translations.{HasKinds}

untrue : ◌≡◌ {A = Bool} false true → ⊥
untrue h = cc

-- ---- a MsgType

no_soh : (text : List ℕ) → list_any (nat_eq 1) text ≡ false → AllByRecursion (λ b. b ≢ soh) text
no_soh [] none = tt
no_soh (b ∷ bs) none = by (nat_eq 1 b) refl none (λ h. no_soh bs h)
  where
    by : (t : Bool) → nat_eq 1 b ≡ t → (t || list_any (nat_eq 1) bs) ≡ false → (list_any (nat_eq 1) bs ≡ false → AllByRecursion (λ b. b ≢ soh) bs) → AllByRecursion (λ b. b ≢ soh) (b ∷ bs)
    by true e h rest = absurd (untrue (sym h))
    by false e h rest = (λ same. untrue (sym e ∙ ap (nat_eq 1) same), rest h)

short_kept : (text : List ℕ) → AllByRecursion (λ b. b ≢ soh) text → (b c : Bool) → nat_le 1 (length text) ≡ b → Yields IsValue (if b && c then Ok text else refuse BadAttribute)
short_kept text plain true true h = let some = leb-true 1 (length text) h in ok_yields IsValue text (record { some = omega (arith, some); plain = plain })
short_kept text plain true false h = err_yields IsValue (refusal BadAttribute [])
short_kept text plain false c h = err_yields IsValue (refusal BadAttribute [])

plain_kept : (text : List ℕ) (t : Bool) → list_any (nat_eq 1) text ≡ t → Yields IsValue (if t then refuse BadAttribute else short_in text)
plain_kept text true h = err_yields IsValue (refusal BadAttribute [])
plain_kept text false h = short_kept text (no_soh text h) (nat_le 1 (length text)) (nat_le (length text) TEXT_LIMIT) refl

kind_yields : (d : Data) → Yields IsValue (a_msg_type d)
kind_yields d = then_yields IsValue (a_text d) plain_in (λ text _. plain_kept text (list_any (nat_eq 1) text) refl)

-- ---- messages

-- its MsgType may be the value of a field
abbrev HasKind : MessageEl → Type 0
HasKind message = IsValue message.msg_type

message_yields : (d : Data) → Yields HasKind (message_from d)
message_yields d =
    then_yields HasKind (content d) _ (λ children _.
    then_yields HasKind (needed a_text (codes "name") d) _ (λ name _.
    then_yields HasKind (needed a_msg_type (codes "msgType") d) _ (λ kind is_kind.
    then_yields HasKind (known_children structure_child [] 0 children) _ (λ structures _.
    ok_yields HasKind _ (needed_yields IsValue a_msg_type (codes "msgType") d kind_yields kind is_kind)))))

message_item_yields : (name : ElementName) (d : Data) → Yields (IfRead HasKind) (message_item name d)
message_item_yields element.Message d = known_yields HasKind (codes "message") (message_from d) (message_yields d)
message_item_yields _ d = ok_yields (IfRead HasKind) None tt

-- ---- the repository

-- the same of its messages, if it has some
abbrev HaveKinds : RepositoryItem → Type 0
HaveKinds x = AllByRecursion HasKind (messages_of x)

-- a list of other members has none
other_list : {A : Type 0} (read : Reading A) (made : A → RepositoryItem) → ((x : A) → HaveKinds (made x)) → Yields (IfRead HaveKinds) (read >>= (λ x. Ok (Some (made x))))
other_list read made none = then_yields (IfRead HaveKinds) read (λ x. Ok (Some (made x))) (λ x _. ok_yields (IfRead HaveKinds) (Some (made x)) (none x))

item_yields : (name : ElementName) (d : Data) → Yields (IfRead HaveKinds) (repository_item name d)
item_yields element.Messages d =
    then_yields (IfRead HaveKinds) (inside (codes "messages") (members message_child d)) (λ xs. Ok (Some (part.Messages (record { children = xs })))) (λ xs at.
    ok_yields (IfRead HaveKinds) (Some (part.Messages (record { children = xs })))
    (inside_yields (AllByRecursion HasKind) (codes "messages") (members message_child d)
    (members_yield HasKind message_child (λ before name d. message_item_yields (element_of name) d) d) xs at))
item_yields element.Datatypes d = other_list (inside (codes "datatypes") (members datatype_child d)) (λ xs. part.Datatypes (record { children = xs })) (λ xs. tt)
item_yields element.CodeSets d = other_list (inside (codes "codeSets") (members code_set_child d)) (λ xs. part.CodeSets (record { children = xs })) (λ xs. tt)
item_yields element.Fields d = other_list (inside (codes "fields") (members field_child d)) (λ xs. part.Fields (record { children = xs })) (λ xs. tt)
item_yields element.Components d = other_list (inside (codes "components") (members component_child d)) (λ xs. part.Components (record { children = xs })) (λ xs. tt)
item_yields element.Groups d = other_list (inside (codes "groups") (members group_list_child d)) (λ xs. part.Groups (record { children = xs })) (λ xs. tt)
item_yields _ d = ok_yields (IfRead HaveKinds) None tt

all_kinds : (items : List RepositoryItem) → AllByRecursion HaveKinds items → AllByRecursion HasKind (flat_map messages_of items)
all_kinds [] all = tt
all_kinds (x ∷ xs) all = all_append HasKind (messages_of x) (flat_map messages_of xs) all.0 (all_kinds xs all.1)

abbrev IsKinded : Repository → Type 0
IsKinded r = AllByRecursion HasKind (members_of r).messages

repository_yields : (d : Data) → Yields IsKinded (repository_from d)
repository_yields d =
    then_yields IsKinded (members repository_child d) (λ items. Ok (record { children = items })) (λ items are_read.
    ok_yields IsKinded (record { children = items }) (all_kinds items (members_yield HaveKinds repository_child (λ before name d. item_yields (element_of name) d) d items are_read)))

root_yields : (name : ElementName) (d : Data) → Yields IsKinded (root name d)
root_yields element.Repository d = inside_yields IsKinded (codes "repository") (repository_from d) (repository_yields d)
root_yields _ d = err_yields IsKinded (refusal Shape [])

kinds_are_values : (bytes : List ℕ) (r : Repository) → repository_of bytes ≡ Ok r → AllByRecursion HasKind (members_of r).messages
kinds_are_values bytes r h =
    then_yields IsKinded (value_of bytes) (λ d. named (λ name. root (element_of name)) d)
    (λ d _. named_yields IsKinded (λ name. root (element_of name)) d (λ name inner. root_yields (element_of name) inner)) r h

-- ---- the structure that is found

no_some : {s : Structure} → ◌≡◌ {A = Option Structure} None (Some s) → ⊥
no_some h = cc

chosen : (b : Bool) (kind its : List ℕ) (s t : Structure) (more : Option Structure) → bytes_eq its kind ≡ b → IsValue its → (more ≡ Some s → IsValue kind) →
    (if b then Some t else more) ≡ Some s → IsValue kind
chosen true kind its s t more same value later h = subst IsValue ((bytes_eq-Decides its kind).0 same) value
chosen false kind its s t more same value later h = later h

module _ (lists : TagLists) (datatypes : List (ℕ × Datatype)) (structure : MessageEl → Structure) (kind : List ℕ) (s : Structure) where
  abbrev found : List MessageEl → Option Structure
  found ms = structure_for (record { lists = lists; datatypes = datatypes; messages = map (λ (x : MessageEl). (x.msg_type, structure x)) ms }) kind

  kind_among : (ms : List MessageEl) → AllByRecursion HasKind ms → found ms ≡ Some s → IsValue kind
  kind_among [] all h = absurd (no_some h)
  kind_among (x ∷ xs) all h = chosen (bytes_eq x.msg_type kind) kind x.msg_type s (structure x) (found xs) refl all.0 (kind_among xs all.1) h

-- the MsgTypes of a mapping file that was read may be values of fields
pub read_kinds : (bytes : List ℕ) (r : Repository) → repository_of bytes ≡ Ok r → HasKinds (mapping_of (members_of r))
read_kinds bytes r h kind s is =
    let m : Members = members_of r in
    kind_among (tag_lists_of m) (mapping_of m).datatypes (message_structure m) kind s m.messages (kinds_are_values bytes r h) is
