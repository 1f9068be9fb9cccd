-- Components and groups.
use Rattle.std.specs.Prelude.{Bool, true, false, not, List, [], ◌∷◌, codes, Option, Some, None, Ok}
use Rattle.serde_json.specs.Data.{Data}
use Rattle.json_elements.specs.declared.refusal.Cause.TheVariants.{Shape}
use Rattle.json_elements.specs.Reading.{Reading, ◌>>=◌, refuse, inside}
use Rattle.json_elements.specs.Forms.{text}
use Rattle.json_elements.specs.Attributes.{needed}
use Rattle.json_elements.specs.Elements.{content}
use Rattle.json_elements.specs.KnownChildren.{Reads, known_children}
use Rattle.map_types.specs.declared.tree.GroupItem.{GroupItem}
use Rattle.map_types.specs.declared.tree.GroupItem.TheVariants as child
use Rattle.map_types.specs.declared.tree.ComponentEl.{ComponentEl}
use Rattle.map_types.specs.declared.tree.GroupEl.{GroupEl}
use Rattle.map_elements.specs.declared.element_name.ElementName.{ElementName}
use Rattle.map_elements.specs.declared.element_name.ElementName.TheVariants as element
use Rattle.map_elements.specs.Names.{element_of, an_id}
use Rattle.map_elements.specs.References.{known, id_from, ref_child}

-- ---- component: id, name; references

-- A component.
abbrev pub component_from : Data → Reading ComponentEl
component_from d = do
  children ← content d
  id ← needed an_id (codes "id") d
  name ← needed text (codes "name") d
  references ← known_children ref_child [] 0 children
  Ok (record { id = id; name = name; children = references })

-- A child of `components` with this name.
abbrev pub component_item : ElementName → Data → Reading (Option ComponentEl)
component_item element.Component d = known (codes "component") (component_from d)
component_item _ d = Ok None

-- a child of `components`
abbrev pub component_child : Reads ComponentEl
component_child before name d = component_item (element_of name) d

-- ---- group: id, name; numInGroup, and then references

-- What is read, if it is allowed at this place.
abbrev pub allowed : {A : Type 0} → Bool → Reading A → Reading A
allowed true read = read
allowed false read = refuse Shape

-- The list of items before is empty.
abbrev pub is_first : List GroupItem → Bool
is_first [] = true
is_first (x ∷ xs) = false

-- A child of a group with this name, by whether it is the first: the count must come first.
abbrev pub group_item : Bool → ElementName → Data → Reading (Option GroupItem)
group_item first element.NumInGroup d = allowed first (inside (codes "numInGroup") (id_from d) >>= (λ id. Ok (Some (child.NumInGroup (record { id = id })))))
group_item first element.FieldRef d = allowed (not first) (inside (codes "fieldRef") (id_from d) >>= (λ id. Ok (Some (child.FieldRef (record { id = id })))))
group_item first element.GroupRef d = allowed (not first) (inside (codes "groupRef") (id_from d) >>= (λ id. Ok (Some (child.GroupRef (record { id = id })))))
group_item first element.ComponentRef d = allowed (not first) (inside (codes "componentRef") (id_from d) >>= (λ id. Ok (Some (child.ComponentRef (record { id = id })))))
group_item first _ d = Ok None

-- a child of a group
abbrev pub group_child : Reads GroupItem
group_child before name d = group_item (is_first before) (element_of name) d

-- There is at least one item.
abbrev pub some_item : List GroupItem → Reading (Unit {0})
some_item [] = refuse Shape
some_item (x ∷ xs) = Ok tt

-- A group, which has a count.
abbrev pub group_from : Data → Reading GroupEl
group_from d = do
  children ← content d
  id ← needed an_id (codes "id") d
  name ← needed text (codes "name") d
  items ← known_children group_child [] 0 children
  _ ← some_item items
  Ok (record { id = id; name = name; children = items })

-- A child of `groups` with this name.
abbrev pub group_list_item : ElementName → Data → Reading (Option GroupEl)
group_list_item element.Group d = known (codes "group") (group_from d)
group_list_item _ d = Ok None

-- a child of `groups`
abbrev pub group_list_child : Reads GroupEl
group_list_child before name d = group_list_item (element_of name) d
