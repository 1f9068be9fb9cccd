-- What references lead to.
use Rattle.std.specs.Prelude.{ℕ, ◌+◌, Bool, is_none, List, [], ◌∷◌, ◌++◌, map, filter_map, Option, Some, None, option_map, option_and_then}
use Rattle.std.specs.Borrow.{Bor}
use Rattle.map_types.specs.Trees.{ref_in, Members}
use Rattle.map_members.specs.Lent.{lent_members}
use Rattle.id_tables.specs.Places.{place_of}
use Rattle.reference_graph.specs.declared.graph.Link.{Link}
use Rattle.reference_graph.specs.declared.graph.Link.TheVariants.{Field, To}
use Rattle.reference_graph.specs.declared.graph.Node.{Node}
use Rattle.map_links.specs.declared.ids.Ids.{Ids}
use Rattle.map_types.specs.declared.tree.RefItem.{RefItem}
use Rattle.map_types.specs.declared.tree.RefItem.TheVariants as item
use Rattle.map_types.specs.declared.tree.GroupItem.{GroupItem}
use Rattle.map_types.specs.declared.tree.GroupItem.TheVariants as child
use Rattle.map_types.specs.declared.tree.FieldEl.{FieldEl}
use Rattle.map_types.specs.declared.tree.ComponentEl.{ComponentEl}
use Rattle.map_types.specs.declared.tree.GroupEl.{GroupEl}
use Rattle.map_types.specs.declared.tree.StructureEl.{StructureEl}
use Rattle.map_types.specs.declared.tree.MessageEl.{MessageEl}

-- the members that refer to others, and to which others refer
pub record Linked : Type 0 where
  pub components : List ComponentEl
  pub groups : List GroupEl
  pub messages : List MessageEl

-- The components, groups and messages of a repository.
abbrev pub linked_of : Members → Linked
linked_of m = record { components = m.components; groups = m.groups; messages = m.messages }

-- The components, groups and messages that are lent.
abbrev pub linked : List (Bor ComponentEl) → List (Bor GroupEl) → List (Bor MessageEl) → Linked
linked components groups messages = record { components = lent_members components; groups = lent_members groups; messages = lent_members messages }

-- the ids of these members, and the MsgTypes
abbrev pub ids_of : List FieldEl → Linked → Ids
ids_of fields m = record {
  fields = map (λ f. f.id) fields;
  components = map (λ c. c.id) m.components;
  groups = map (λ g. g.id) m.groups;
  msg_types = map (λ m. m.msg_type) m.messages;
}

-- no member has the id of a reference
abbrev pub is_unknown : Ids → RefItem → Bool
is_unknown ids (item.FieldRef r) = is_none (place_of r.id ids.fields)
is_unknown ids (item.ComponentRef r) = is_none (place_of r.id ids.components)
is_unknown ids (item.GroupRef r) = is_none (place_of r.id ids.groups)

-- what a reference leads to: a tag, or the first component or group with its id; `count` components precede the groups
abbrev pub link_of : ℕ → Ids → RefItem → Option Link
link_of count ids (item.FieldRef r) = Some (Field r.id)
link_of count ids (item.ComponentRef r) = option_map To (place_of r.id ids.components)
link_of count ids (item.GroupRef r) = option_map (λ i. To (count + i)) (place_of r.id ids.groups)

-- The same for a child of a group.
abbrev pub item_link : ℕ → Ids → GroupItem → Option Link
item_link count ids c = option_and_then (link_of count ids) (ref_in c)

-- The tag that counts a group's entries.
abbrev pub count_of : List GroupItem → Option ℕ
count_of (child.NumInGroup n ∷ more) = Some n.id
count_of _ = None

-- the references of a message's structure; none without one
abbrev pub structure_in : List StructureEl → List RefItem
structure_in [] = []
structure_in (s ∷ more) = s.children

-- The references of a message.
abbrev pub structure_of : MessageEl → List RefItem
structure_of m = structure_in m.children

-- ---- nodes

-- The node of a component.
abbrev pub component_node : ℕ → Ids → ComponentEl → Node
component_node count ids c = record { count = None; links = filter_map (link_of count ids) c.children }

-- The node of a group.
abbrev pub group_node : ℕ → Ids → GroupEl → Node
group_node count ids g = record { count = count_of g.children; links = filter_map (item_link count ids) g.children }

-- The node of a message.
abbrev pub message_node : ℕ → Ids → MessageEl → Node
message_node count ids m = record { count = None; links = filter_map (link_of count ids) (structure_of m) }

-- the nodes of components, groups and messages, one list after another
abbrev pub nodes_of : ℕ → Ids → Linked → List Node
nodes_of count ids m = (map (component_node count ids) m.components ++ map (group_node count ids) m.groups) ++ map (message_node count ids) m.messages
