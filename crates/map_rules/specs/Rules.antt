-- The rules for code sets, fields, components, groups and messages, each as one statement about a member and its index.
use Rattle.std.specs.Prelude.{ℕ, zero, suc, nat_eq, Bool, false, ◌||◌, not, is_none, is_some, List, [], ◌∷◌, codes, map, flat_map, length, take, Option, Some, None, slice_get}
use Rattle.std.specs.List.{list_any}
use Rattle.std.specs.Str.{bytes_eq}
use Rattle.id_tables.specs.Places.{place_of, name_place}
use Rattle.reference_graph.specs.declared.graph.Node.{Node}
use Rattle.reference_graph.specs.Graphs.{is_endless}
use Rattle.reference_graph.specs.Structures.{is_ambiguous, is_over_limit}
use Rattle.map_types.specs.declared.codes.MCode.TheVariants.{UnknownReference, Duplicate, Cycle, AmbiguousTag, Datatype, Limit}
use Rattle.map_types.specs.Trees.{Members, datatypes_of, components_of, groups_of, messages_of}
use Rattle.map_types.specs.declared.tree.RepositoryItem.{RepositoryItem}
use Rattle.map_types.specs.declared.tree.GroupItem.{GroupItem}
use Rattle.map_types.specs.declared.tree.GroupItem.TheVariants as child
use Rattle.map_types.specs.declared.tree.RefItem.TheVariants as item
use Rattle.map_types.specs.declared.tree.DatatypeEl.{DatatypeEl}
use Rattle.map_types.specs.declared.tree.CodeSetEl.{CodeSetEl}
use Rattle.map_types.specs.declared.tree.ComponentEl.{ComponentEl}
use Rattle.map_types.specs.declared.tree.GroupEl.{GroupEl}
use Rattle.map_types.specs.declared.tree.FieldEl.{FieldEl}
use Rattle.map_types.specs.declared.tree.MessageEl.{MessageEl}
use Rattle.map_links.specs.declared.ids.Ids.{Ids}
use Rattle.map_links.specs.Links.{Linked, linked_of, ids_of, is_unknown, structure_of, component_node, group_node, message_node, nodes_of}
use Rattle.map_rules.specs.declared.rule.Rule.{Rule}
use Rattle.map_rules.specs.declared.tables.Tables.{Tables}
use Rattle.map_rules.specs.Datatypes.{is_standard}
use Rattle.map_rules.specs.Verdicts.{rule, Verdict, ◌then◌, list_verdict}

-- ---- names

-- Some item has this name.
abbrev pub is_named : List ℕ → List (List ℕ) → Bool
is_named name names = is_some (name_place name names)

-- A datatype: one of FIX, or one that is declared.
abbrev pub is_datatype : Tables → List ℕ → Bool
is_datatype tables name = is_standard name || is_named name tables.datatypes

-- the type of a field is a datatype or a code set
abbrev pub is_type : Tables → List ℕ → Bool
is_type tables name = is_datatype tables name || is_named name tables.code_sets

-- a name that was found occurs before index i
abbrev pub found_earlier : List (List ℕ) → ℕ → Option (List ℕ) → Bool
found_earlier names i None = false
found_earlier names i (Some name) = list_any (bytes_eq name) (take i names)

-- one of the first n names occurs earlier too
abbrev pub some_again : List (List ℕ) → ℕ → Bool
some_again names zero = false
some_again names (suc i) = found_earlier names i (slice_get names i) || some_again names i

-- Some name occurs twice.
abbrev pub has_again : List (List ℕ) → Bool
has_again names = some_again names (length names)

-- ---- code sets

-- the rules for a code set: its name occurs earlier; the name or the value of a code occurs earlier in it; its type
-- isn't a datatype
abbrev pub code_set_rules : Tables → ℕ → CodeSetEl → List Rule
code_set_rules tables i s =
    rule Duplicate (list_any (bytes_eq s.name) (take i tables.code_sets))
    ∷ (rule Duplicate (has_again (map (λ c. c.name) s.children))
    ∷ (rule Duplicate (has_again (map (λ c. c.value) s.children))
    ∷ (rule Datatype (not (is_datatype tables s.type_name))
    ∷ [])))

-- ---- fields

-- an id occurs earlier in its list
abbrev pub stands_earlier : List ℕ → ℕ → ℕ → Bool
stands_earlier ids i id = list_any (nat_eq id) (take i ids)

-- A test holds of a lengthId, if there is one.
abbrev pub of_length : (ℕ → Bool) → Option ℕ → Bool
of_length test None = false
of_length test (Some id) = test id

-- the lengthId of a field, or 0, which isn't an id, if it has none
abbrev pub length_or_zero : Option ℕ → ℕ
length_or_zero None = 0
length_or_zero (Some id) = id

-- a tag that frames a message: BeginString, BodyLength, CheckSum or MsgType
abbrev pub is_framing : ℕ → Bool
is_framing id = nat_eq id 8 || (nat_eq id 9 || (nat_eq id 10 || nat_eq id 35))

-- A field, if it was found, has another type than Length.
abbrev pub is_other : Option FieldEl → Bool
is_other None = false
is_other (Some f) = not (bytes_eq f.type_name (codes "Length"))

-- The field with an index, if it was found, has another type than Length.
abbrev pub is_other_at : List FieldEl → Option ℕ → Bool
is_other_at fields None = false
is_other_at fields (Some j) = is_other (slice_get fields j)

-- the rules for a field: its id occurs earlier; its lengthId occurs earlier; its lengthId isn't that of a field; its
-- type isn't known; it has a lengthId and one of the two frames a message; its lengthId is that of a field with another
-- type than Length
abbrev pub field_rules : Ids → Tables → List FieldEl → ℕ → FieldEl → List Rule
field_rules ids tables fields i f =
    rule Duplicate (stands_earlier ids.fields i f.id)
    ∷ (rule Duplicate (of_length (stands_earlier tables.lengths i) f.length_id)
    ∷ (rule UnknownReference (of_length (λ id. is_none (place_of id ids.fields)) f.length_id)
    ∷ (rule Datatype (not (is_type tables f.type_name))
    ∷ (rule Datatype (of_length (λ id. is_framing f.id || is_framing id) f.length_id)
    ∷ (rule Datatype (of_length (λ id. is_other_at fields (place_of id ids.fields)) f.length_id)
    ∷ [])))))

-- ---- components, groups and messages

-- a child of a group refers to nothing: its count not to a field, or a reference not to a member
abbrev pub is_unknown_child : Ids → GroupItem → Bool
is_unknown_child ids (child.NumInGroup n) = is_none (place_of n.id ids.fields)
is_unknown_child ids (child.FieldRef r) = is_unknown ids (item.FieldRef r)
is_unknown_child ids (child.GroupRef r) = is_unknown ids (item.GroupRef r)
is_unknown_child ids (child.ComponentRef r) = is_unknown ids (item.ComponentRef r)

-- the rules for a component or group: whether its id occurs earlier; whether a reference names nothing; whether a chain
-- of references from it meets a component or group twice
abbrev pub linked_rules : Bool → Bool → Bool → List Rule
linked_rules again unknown endless = rule Duplicate again ∷ (rule UnknownReference unknown ∷ (rule Cycle endless ∷ []))

-- the rules for a component
abbrev pub component_rules : ℕ → Ids → List Node → ℕ → ComponentEl → List Rule
component_rules count ids graph i c =
    linked_rules (stands_earlier ids.components i c.id) (list_any (is_unknown ids) c.children) (is_endless graph (component_node count ids c).links)

-- the rules for a group, whose count must also be a field
abbrev pub group_rules : ℕ → Ids → List Node → ℕ → GroupEl → List Rule
group_rules count ids graph i g =
    linked_rules (stands_earlier ids.groups i g.id) (list_any (is_unknown_child ids) g.children) (is_endless graph (group_node count ids g).links)

-- the rules for a message: its msgType occurs earlier; a reference names nothing; its structure has some tag twice; it
-- is over a limit
abbrev pub message_rules : ℕ → Ids → List Node → ℕ → MessageEl → List Rule
message_rules count ids graph i m =
    rule Duplicate (list_any (bytes_eq m.msg_type) (take i ids.msg_types))
    ∷ (rule UnknownReference (list_any (is_unknown ids) (structure_of m))
    ∷ (rule AmbiguousTag (is_ambiguous graph (message_node count ids m).links)
    ∷ (rule Limit (is_over_limit graph (message_node count ids m))
    ∷ [])))

-- ---- all members

-- the names of these datatypes and code sets, and the lengthIds of these fields
abbrev pub tables_of : List DatatypeEl → List CodeSetEl → List FieldEl → Tables
tables_of datatypes code_sets fields =
    record { datatypes = map (λ d. d.name) datatypes; code_sets = map (λ s. s.name) code_sets; lengths = map (λ f. length_or_zero f.length_id) fields }

-- the verdict on components, groups and messages, in this order, by the graph of their references
abbrev pub graph_verdict : ℕ → Ids → List Node → Linked → Verdict
graph_verdict count ids graph m =
    list_verdict (codes "components") (component_rules count ids graph) 0 m.components
    then (list_verdict (codes "groups") (group_rules count ids graph) 0 m.groups
    then list_verdict (codes "messages") (message_rules count ids graph) 0 m.messages)

-- the same by the graph of these members
abbrev pub linked_verdict : Ids → Linked → Verdict
linked_verdict ids m = graph_verdict (length m.components) ids (nodes_of (length m.components) ids m) m

-- the verdict on fields, components, groups and messages, in this order, by tables of their ids and names
abbrev pub verdict_by : Ids → Tables → List FieldEl → Linked → Verdict
verdict_by ids tables fields m = list_verdict (codes "fields") (field_rules ids tables fields) 0 fields then linked_verdict ids m

-- the same by the table of these members' ids
abbrev pub fields_verdict : Tables → List FieldEl → Linked → Verdict
fields_verdict tables fields m = verdict_by (ids_of fields m) tables fields m

-- the verdict on all members of a mapping
abbrev pub verdict : Members → Verdict
verdict m =
    list_verdict (codes "codeSets") (code_set_rules (tables_of m.datatypes m.code_sets m.fields)) 0 m.code_sets
    then fields_verdict (tables_of m.datatypes m.code_sets m.fields) m.fields (linked_of m)

-- The components, groups and messages of the children of a repository.
abbrev pub items_linked : List RepositoryItem → Linked
items_linked items = record { components = flat_map components_of items; groups = flat_map groups_of items; messages = flat_map messages_of items }

-- the verdict on code sets and fields, and on the other members among the children of a repository
abbrev pub lists_verdict : List RepositoryItem → List CodeSetEl → List FieldEl → Verdict
lists_verdict items sets fields =
    list_verdict (codes "codeSets") (code_set_rules (tables_of (flat_map datatypes_of items) sets fields)) 0 sets
    then fields_verdict (tables_of (flat_map datatypes_of items) sets fields) fields (items_linked items)
