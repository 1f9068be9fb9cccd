-- What a refusal of a value of any kind means, as a misfit of a message with it. Own profile.
use Rattle.std.specs.Prelude.{ℕ, suc, Bool, true, false, if◌then◌else◌, Option, Some, None, List, [], ◌∷◌}
use Rattle.sbe_types.specs.declared.kind.Kind.{Kind}
use Rattle.sbe_types.specs.declared.kind.Member.{Member}
use Rattle.sbe_types.specs.declared.message.Value.{Value}
use Rattle.sbe_types.specs.declared.path.Step.TheVariants as way
use Rattle.sbe_types.specs.Places.{is_const}
use Rattle.sbe_wire.specs.Misfit.{Misfit, or_else, misfit_in, other_kind, value_misfit}
use Rattle.field_bytes.specs.Faults.{code_of}
use Rattle.kind_bytes.specs.declared.error.FieldErr.{FieldErr}
use Rattle.kind_bytes.specs.declared.error.ValueMisfit.{ValueMisfit}

-- the misfit that an error reports
abbrev pub misfit_of : FieldErr → Misfit
misfit_of e = record { code = code_of e.cause; path = e.path; detail = e.detail }

-- the misfit in the slot
abbrev pub unfit_of : ValueMisfit → Misfit
unfit_of unfit = record { code = code_of unfit.cause; path = unfit.path; detail = unfit.detail }

-- the result that `true` or `false` and the misfit slot encode
abbrev pub misfit_unless : Bool → ValueMisfit → Option Misfit
misfit_unless true unfit = None
misfit_unless false unfit = Some (unfit_of unfit)

-- the first misfit of members, counted from i, each with its value
abbrev pub members_misfit : ℕ → List Member → List Value → Option Misfit
members_misfit i (m ∷ ms) (v ∷ vs) = or_else (misfit_in (way.Part i) (value_misfit m.kind v)) (members_misfit (suc i) ms vs)
members_misfit i [] vs = None
members_misfit i (m ∷ ms) [] = None

-- the misfit of a value that a field is set to: a constant can't be set, not even to its own value
abbrev pub field_misfit : Kind → Value → Option Misfit
field_misfit kind v = if is_const kind then other_kind else value_misfit kind v
