-- Kinds whose values are in one form, whatever the datatype of their fields is. Own profile.
use Rattle.std.specs.Prelude.{◌≡◌, Bool, true, false, List, [], ◌∷◌}
use Rattle.std.specs.List.{AllByRecursion}
use Rattle.sbe_types.specs.declared.kind.Kind.{Kind, Leaf, Enum, Set, Const, Comp', items-the_row-Member}
use Rattle.sbe_types.specs.declared.schema.Field.{Field}
use Rattle.sbe_types.specs.declared.schema.Group.{Group}
use Rattle.sbe_types.specs.declared.schema.Level.{Level, out-Level}
use Rattle.sbe_types.specs.Places.{is_const}
use Rattle.reference_graph.specs.Expansion.{Structure}
use Rattle.bridge_rules.specs.Table.{kinds_of}
use Rattle.bridge_plan.specs.Covers.{level_in}

-- the second of these kinds is a constant
abbrev pub second_is_const : List Kind → Bool
second_is_const [] = false
second_is_const (first ∷ []) = false
second_is_const (first ∷ second ∷ kinds) = is_const second

-- Each value of the kind that a text has is in one form: a composite has a constant exponent or unit.
abbrev pub has_one_form : Kind → Bool
has_one_form (Leaf l) = true
has_one_form (Enum l names) = true
has_one_form (Set p names) = true
has_one_form (Const c) = true
has_one_form (Comp' n members) = second_is_const (kinds_of (items-the_row-Member _ members))

-- the same for the fields of a level
abbrev pub HaveOneForm : Level → Type 0
HaveOneForm level = AllByRecursion (λ (f : Field). has_one_form f.kind ≡ true) (out-Level level).fields

-- the same for the fields of a group
abbrev pub HasOneForm : Structure → Group → Type 0
HasOneForm inner g = HaveOneForm (level_in g)
