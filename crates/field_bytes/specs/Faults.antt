-- What a refusal of a value means, as a misfit of a message with it. Own profile.
use Rattle.std.specs.Prelude.{ℕ, Bool, true, false, Option, Some, None, List, [], ◌∷◌}
use Rattle.sbe_types.specs.declared.kind.Kind.{Kind, Leaf, Enum, Set, Const, Comp'}
use Rattle.sbe_types.specs.declared.path.Step.{Step}
use Rattle.sbe_types.specs.declared.path.Step.TheVariants as way
use Rattle.sbe_wire.specs.declared.codes.NCode.{NCode}
use Rattle.sbe_wire.specs.declared.codes.NCode.TheVariants as code
use Rattle.sbe_wire.specs.Misfit.{Misfit}
use Rattle.field_bytes.specs.declared.fault.FieldCause.{FieldCause}
use Rattle.field_bytes.specs.declared.fault.FieldCause.TheVariants as cause
use Rattle.field_bytes.specs.declared.fault.ValueFault.{ValueFault}

-- the misfit code of a cause
abbrev pub code_of : FieldCause → NCode
code_of cause.Range = code.Range
code_of cause.EnumUnknown = code.EnumUnknown
code_of cause.SetUnknown = code.SetUnknown
code_of cause.TextByte = code.TextByte
code_of cause.Kind = code.Kind

-- the path to an element, or to the value itself
abbrev pub way_to : Option ℕ → List Step
way_to None = []
way_to (Some i) = way.Elem i ∷ []

-- the misfit that a fault reports
abbrev pub as_misfit : ValueFault → Misfit
as_misfit fault = record { code = code_of fault.cause; path = way_to fault.elem; detail = fault.detail }

-- the result that `true` or `false` and the fault slot encode
abbrev pub misfit_unless : Bool → ValueFault → Option Misfit
misfit_unless true fault = None
misfit_unless false fault = Some (as_misfit fault)

-- the kind is a leaf, an enum or a set, not a composite or a constant
abbrev pub is_single : Kind → Bool
is_single (Leaf l) = true
is_single (Enum l names) = true
is_single (Set p names) = true
is_single (Const c) = false
is_single (Comp' n members) = false
