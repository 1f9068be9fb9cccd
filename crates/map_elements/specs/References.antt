-- References: fieldRef, groupRef and componentRef have the attribute id and no children.
use Rattle.std.specs.Prelude.{ℕ, List, [], codes, Option, Some, None, Ok}
use Rattle.serde_json.specs.Data.{Data}
use Rattle.json_elements.specs.Reading.{Reading, ◌>>=◌, inside}
use Rattle.json_elements.specs.Attributes.{needed}
use Rattle.json_elements.specs.Elements.{content}
use Rattle.json_elements.specs.KnownChildren.{Reads, known_children, no_child}
use Rattle.map_types.specs.declared.tree.RefItem.{RefItem}
use Rattle.map_types.specs.declared.tree.RefItem.TheVariants as item
use Rattle.map_elements.specs.declared.element_name.ElementName.{ElementName}
use Rattle.map_elements.specs.declared.element_name.ElementName.TheVariants as element
use Rattle.map_elements.specs.Names.{element_of, an_id}

-- The known children of an element without attributes.
abbrev pub members : {A : Type 0} → Reads A → Data → Reading (List A)
members child d = do
  children ← content d
  known_children child [] 0 children

-- An element whose name is known at this place.
abbrev pub known : {A : Type 0} → List ℕ → Reading A → Reading (Option A)
known name read = inside name read >>= (λ x. Ok (Some x))

-- The id of a reference or a count.
abbrev pub id_from : Data → Reading ℕ
id_from d = do
  children ← content d
  id ← needed an_id (codes "id") d
  _ ← known_children no_child [] 0 children
  Ok id

-- A reference with this name.
abbrev pub reference : ElementName → Data → Reading (Option RefItem)
reference element.FieldRef d = inside (codes "fieldRef") (id_from d) >>= (λ id. Ok (Some (item.FieldRef (record { id = id }))))
reference element.GroupRef d = inside (codes "groupRef") (id_from d) >>= (λ id. Ok (Some (item.GroupRef (record { id = id }))))
reference element.ComponentRef d = inside (codes "componentRef") (id_from d) >>= (λ id. Ok (Some (item.ComponentRef (record { id = id }))))
reference _ d = Ok None

-- a child of a component or a structure: a reference
abbrev pub ref_child : Reads RefItem
ref_child before name d = reference (element_of name) d
