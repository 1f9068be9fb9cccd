-- The text of a path: names joined by dots, with `[i]` for an entry of a group or an element of an array, as in
-- `legs[2].subs[0].price.mantissa`. Own profile.
use Rattle.std.specs.Prelude.{ℕ, Bool, true, false, if◌then◌else◌, Option, Some, None, List, [], ◌∷◌, ◌++◌, map, slice_get, unwrap_or, codes, decimal}
use Rattle.std.specs.Option.{option_map, option_and_then, IsSome}
use Rattle.sbe_types.specs.declared.kind.Kind.{Kind, Leaf, Enum, Set, Const, Comp', items-the_row-Member}
use Rattle.sbe_types.specs.declared.kind.Member.{Member}
use Rattle.sbe_types.specs.declared.path.Step.{Step}
use Rattle.sbe_types.specs.declared.path.Step.TheVariants.{Part, Entry, Elem}
use Rattle.sbe_types.specs.declared.schema.DataField.{DataField}
use Rattle.sbe_types.specs.declared.schema.Field.{Field}
use Rattle.sbe_types.specs.declared.schema.Group.{Group, out-Group}
use Rattle.sbe_types.specs.declared.schema.Level.{Level, out-Level}
use Rattle.sbe_types.specs.declared.schema.WireSchema.{WireSchema}

-- where a path has arrived: at a message's root or an entry, at a group before its entry, at a field or member, or at
-- something without parts
pub data Inside : Type 0 where
  in_level : Level → Inside
  in_group : Level → Inside
  in_kind : Kind → Inside
  in_nothing : Inside

-- a part's name, and what is inside it
pub record NamedPart : Type 0 where
  pub name : List ℕ
  pub inside : Inside

-- a field as a part
abbrev pub field_part : Field → NamedPart
field_part f = record { name = f.name; inside = in_kind f.kind }

-- a group as a part
abbrev pub group_part : Group → NamedPart
group_part g = record { name = (out-Level (out-Group g).level).name; inside = in_group (out-Group g).level }

-- a data part as a part
abbrev pub data_part : DataField → NamedPart
data_part d = record { name = d.name; inside = in_nothing }

-- a composite's member as a part
abbrev pub member_part : Member → NamedPart
member_part m = record { name = m.name; inside = in_kind m.kind }

-- the parts of a level: its fields, then its groups, then its data
abbrev pub level_parts : Level → List NamedPart
level_parts level = map field_part (out-Level level).fields ++ (map group_part (out-Level level).groups ++ map data_part (out-Level level).parts)

-- the parts of a field or member: those of a composite
abbrev pub kind_parts : Kind → List NamedPart
kind_parts (Comp' n members) = map member_part (items-the_row-Member _ members)
kind_parts (Leaf l) = []
kind_parts (Enum l names) = []
kind_parts (Set p names) = []
kind_parts (Const c) = []

-- the parts inside a position
abbrev pub parts_inside : Inside → List NamedPart
parts_inside (in_level level) = level_parts level
parts_inside (in_group level) = []
parts_inside (in_kind kind) = kind_parts kind
parts_inside in_nothing = []

-- the position of an entry, which is the level of the group
abbrev pub entry_inside : Inside → Option Inside
entry_inside (in_level level) = None
entry_inside (in_group level) = Some (in_level level)
entry_inside (in_kind kind) = None
entry_inside in_nothing = None

-- the position of an array's element, which has no parts
abbrev pub element_of : Kind → Option Inside
element_of (Leaf l) = Some in_nothing
element_of (Enum l names) = None
element_of (Set p names) = None
element_of (Const c) = None
element_of (Comp' n members) = None

-- the position of an element
abbrev pub element_inside : Inside → Option Inside
element_inside (in_level level) = None
element_inside (in_group level) = None
element_inside (in_kind kind) = element_of kind
element_inside in_nothing = None

-- a number in brackets
abbrev pub bracketed : ℕ → List ℕ
bracketed i = codes "[" ++ (decimal i ++ codes "]")

-- a dot before each name except the first
abbrev pub dot : Bool → List ℕ
dot is_first = if is_first then [] else codes "."

-- the text of one step, and where it leads
pub record Stepped : Type 0 where
  pub text : List ℕ
  pub inside : Inside

-- a step to a part
abbrev pub to_part : Bool → NamedPart → Stepped
to_part is_first p = record { text = dot is_first ++ p.name; inside = p.inside }

-- a step to an entry or element
abbrev pub to_item : ℕ → Inside → Stepped
to_item i next = record { text = bracketed i; inside = next }

-- one step from a position; None if it leads nowhere
abbrev pub stepped : Bool → Inside → Step → Option Stepped
stepped is_first inside (Part i) = option_map (to_part is_first) (slice_get (parts_inside inside) i)
stepped is_first inside (Entry i) = option_map (to_item i) (entry_inside inside)
stepped is_first inside (Elem i) = option_map (to_item i) (element_inside inside)

-- the text of the steps from a position on; None if they lead nowhere
abbrev pub path_from : Bool → Inside → List Step → Option (List ℕ)
path_from is_first inside [] = Some []
path_from is_first inside (step ∷ steps) = option_and_then (λ s. option_map (λ rest. s.text ++ rest) (path_from false s.inside steps)) (stepped is_first inside step)

-- the text of a path of a message, if it is one
abbrev pub path_found : WireSchema → ℕ → List Step → Option (List ℕ)
path_found schema template steps = option_and_then (λ level. path_from true (in_level level) steps) (slice_get schema.messages template)

-- the steps lead from the root of a message to one of its parts
abbrev pub IsPathOf : WireSchema → ℕ → List Step → Type 0
IsPathOf schema template steps = IsSome (path_found schema template steps)

-- the text of a path of a message
abbrev pub path_text : WireSchema → ℕ → List Step → List ℕ
path_text schema template steps = unwrap_or (path_found schema template steps) []
