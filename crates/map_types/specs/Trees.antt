-- What the elements of a repository contain.
use Rattle.std.specs.Prelude.{List, [], flat_map, Option, Some, None}
use Rattle.map_types.specs.declared.tree.RefItem.{RefItem}
use Rattle.map_types.specs.declared.tree.RefItem.TheVariants as item
use Rattle.map_types.specs.declared.tree.GroupItem.{GroupItem}
use Rattle.map_types.specs.declared.tree.GroupItem.TheVariants as child
use Rattle.map_types.specs.declared.tree.DatatypeEl.{DatatypeEl}
use Rattle.map_types.specs.declared.tree.CodeSetEl.{CodeSetEl}
use Rattle.map_types.specs.declared.tree.FieldEl.{FieldEl}
use Rattle.map_types.specs.declared.tree.ComponentEl.{ComponentEl}
use Rattle.map_types.specs.declared.tree.GroupEl.{GroupEl}
use Rattle.map_types.specs.declared.tree.MessageEl.{MessageEl}
use Rattle.map_types.specs.declared.tree.Repository.{Repository}
use Rattle.map_types.specs.declared.tree.RepositoryItem.{RepositoryItem}
use Rattle.map_types.specs.declared.tree.RepositoryItem.TheVariants as part

-- The reference that a child of a group is, if it is one.
abbrev pub ref_in : GroupItem → Option RefItem
ref_in (child.NumInGroup n) = None
ref_in (child.FieldRef r) = Some (item.FieldRef r)
ref_in (child.GroupRef r) = Some (item.GroupRef r)
ref_in (child.ComponentRef r) = Some (item.ComponentRef r)

-- The declared datatypes in a child of a repository.
abbrev pub datatypes_of : RepositoryItem → List DatatypeEl
datatypes_of (part.Datatypes list) = list.children
datatypes_of _ = []

-- The code sets in a child of a repository.
abbrev pub code_sets_of : RepositoryItem → List CodeSetEl
code_sets_of (part.CodeSets list) = list.children
code_sets_of _ = []

-- The fields in a child of a repository.
abbrev pub fields_of : RepositoryItem → List FieldEl
fields_of (part.Fields list) = list.children
fields_of _ = []

-- The components in a child of a repository.
abbrev pub components_of : RepositoryItem → List ComponentEl
components_of (part.Components list) = list.children
components_of _ = []

-- The groups in a child of a repository.
abbrev pub groups_of : RepositoryItem → List GroupEl
groups_of (part.Groups list) = list.children
groups_of _ = []

-- The messages in a child of a repository.
abbrev pub messages_of : RepositoryItem → List MessageEl
messages_of (part.Messages list) = list.children
messages_of _ = []

-- the members of a repository, with those of each kind as one list
pub record Members : Type 0 where
  pub datatypes : List DatatypeEl
  pub code_sets : List CodeSetEl
  pub fields : List FieldEl
  pub components : List ComponentEl
  pub groups : List GroupEl
  pub messages : List MessageEl

-- the members of a repository
abbrev pub members_of : Repository → Members
members_of r = record {
  datatypes = flat_map datatypes_of r.children;
  code_sets = flat_map code_sets_of r.children;
  fields = flat_map fields_of r.children;
  components = flat_map components_of r.children;
  groups = flat_map groups_of r.children;
  messages = flat_map messages_of r.children;
}
