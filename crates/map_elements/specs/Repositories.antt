-- A repository, and the file that it is read from. Each element is checked in this order: its shape, its attributes in
-- the order listed here, its children.
use Rattle.std.specs.Prelude.{ℕ, List, codes, Option, Some, None, Ok}
use Rattle.serde_json.specs.Data.{Data}
use Rattle.json_elements.specs.declared.refusal.Cause.TheVariants.{Shape}
use Rattle.json_elements.specs.Reading.{Reading, ◌>>=◌, refuse, inside}
use Rattle.json_elements.specs.Elements.{named}
use Rattle.json_elements.specs.Files.{value_of}
use Rattle.json_elements.specs.KnownChildren.{Reads}
use Rattle.map_types.specs.declared.tree.Repository.{Repository}
use Rattle.map_types.specs.declared.tree.RepositoryItem.{RepositoryItem}
use Rattle.map_types.specs.declared.tree.RepositoryItem.TheVariants as part
use Rattle.map_elements.specs.declared.element_name.ElementName.{ElementName}
use Rattle.map_elements.specs.declared.element_name.ElementName.TheVariants as element
use Rattle.map_elements.specs.Names.{element_of}
use Rattle.map_elements.specs.References.{members}
use Rattle.map_elements.specs.Fields.{datatype_child, code_set_child, field_child}
use Rattle.map_elements.specs.Groups.{component_child, group_list_child}
use Rattle.map_elements.specs.Messages.{message_child}

-- A child of a repository with this name.
abbrev pub repository_item : ElementName → Data → Reading (Option RepositoryItem)
repository_item element.Datatypes d = inside (codes "datatypes") (members datatype_child d) >>= (λ xs. Ok (Some (part.Datatypes (record { children = xs }))))
repository_item element.CodeSets d = inside (codes "codeSets") (members code_set_child d) >>= (λ xs. Ok (Some (part.CodeSets (record { children = xs }))))
repository_item element.Fields d = inside (codes "fields") (members field_child d) >>= (λ xs. Ok (Some (part.Fields (record { children = xs }))))
repository_item element.Components d = inside (codes "components") (members component_child d) >>= (λ xs. Ok (Some (part.Components (record { children = xs }))))
repository_item element.Groups d = inside (codes "groups") (members group_list_child d) >>= (λ xs. Ok (Some (part.Groups (record { children = xs }))))
repository_item element.Messages d = inside (codes "messages") (members message_child d) >>= (λ xs. Ok (Some (part.Messages (record { children = xs }))))
repository_item _ d = Ok None

-- a child of a repository
abbrev pub repository_child : Reads RepositoryItem
repository_child before name d = repository_item (element_of name) d

-- A repository with its lists.
abbrev pub repository_from : Data → Reading Repository
repository_from d = members repository_child d >>= (λ items. Ok (record { children = items }))

-- The root of a mapping file, which is a repository.
abbrev pub root : ElementName → Data → Reading Repository
root element.Repository d = inside (codes "repository") (repository_from d)
root _ d = refuse Shape

-- the repository of a file, or the first element or attribute that isn't of its form
abbrev pub repository_of : List ℕ → Reading Repository
repository_of bytes = do
  d ← value_of bytes
  named (λ name. root (element_of name)) d
