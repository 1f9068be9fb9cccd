-- Parts of a level as lists: what each has in another version, and how it is written.
use Rattle.std.specs.Prelude.{◌≡◌, ◌≤◌, ◌⊎◌, ℕ, ◌+◌, Bool, true, false, not, if◌then◌else◌, Option, Some, None, List, [], ◌∷◌, length, slice_get, pos}
use Rattle.std.specs.Str.{bytes_eq}
use Rattle.sbe_types.specs.declared.kind.Kind.{Kind, Leaf, Enum, Set, Const, Comp'}
use Rattle.sbe_types.specs.Shown.{admits}
use Rattle.sbe_types.specs.declared.kind.Member.{Member}
use Rattle.sbe_types.specs.declared.message.Value.{Value}
use Rattle.sbe_types.specs.declared.message.Value.TheVariants as value
use Rattle.sbe_types.specs.declared.message.DataVal.{DataVal}
use Rattle.sbe_types.specs.declared.message.DataVal.TheVariants as dataval
use Rattle.sbe_types.specs.declared.message.GroupVal.{GroupVal}
use Rattle.sbe_types.specs.declared.message.GroupVal.TheVariants as groupval
use Rattle.sbe_types.specs.declared.schema.Field.{Field}
use Rattle.sbe_types.specs.declared.schema.DataField.{DataField}
use Rattle.sbe_types.specs.declared.schema.Group.{Group}
use Rattle.version_laws.specs.Projected.{old_field, old_part, lifted_list, lifted_group}
use Rattle.version_project.specs.IsPlain.{old_group}
use Rattle.version_laws.specs.Differ.{is_old, group_since}
use Rattle.version_laws.specs.Plain.{is_absent_group}
use Rattle.regrade_laws.specs.Fill.{fill, with_value}
use Rattle.regrade_laws.specs.Counts.{one_if, filled_group_count, dropped_group_count}

-- `lift` of each known part and its value in order, and absent for each other part
abbrev pub lifted_each : {P V : Type 0} → (P → Bool) → (P → V → V) → V → List P → List V → List V
lifted_each known lift absent [] vs = []
lifted_each known lift absent (p ∷ ps) [] = absent ∷ lifted_each known lift absent ps []
lifted_each known lift absent (p ∷ ps) (v ∷ vs) =
    if known p
    then lift p v ∷ lifted_each known lift absent ps vs
    else absent ∷ lifted_each known lift absent ps (v ∷ vs)

-- the values of the later version's fields
abbrev pub lifted_fields : ℕ → List Field → List Value → List Value
lifted_fields version fields values = lifted_each (old_field version) (λ field value. value) value.Absent fields values

-- the values of the later version's data
abbrev pub lifted_parts : ℕ → List DataField → List DataVal → List DataVal
lifted_parts version parts values = lifted_each (old_part version) (λ part value. value) dataval.Absent parts values

-- the values of the later version's groups
abbrev pub lifted_groups_each : ℕ → List Group → List GroupVal → List GroupVal
lifted_groups_each version groups values = lifted_each (old_group version) (lifted_group version) groupval.Absent groups values

-- how many parts of a group are dropped; 1 if the group itself is
abbrev pub dropped_here : ℕ → Group → GroupVal → ℕ
dropped_here version g v = if is_old version (group_since g) then dropped_group_count version g v else one_if (not (is_absent_group v))

-- the empty values of members, if each has one
abbrev pub fill_each : List Member → Option (List Value)
fill_each [] = Some []
fill_each (m ∷ ms) = with_value (fill m.kind) (fill_each ms)

-- a number of this kind may be 0; only a number can
abbrev pub kind_admits_none : Kind → Bool
kind_admits_none (Leaf l) = admits l (pos 0)
kind_admits_none (Enum l names) = false
kind_admits_none (Set p names) = false
kind_admits_none (Const c) = false
kind_admits_none (Comp' n members) = false

-- the same for the first member with this name
abbrev pub named_admits_none : List ℕ → List Member → Bool
named_admits_none name [] = false
named_admits_none name (m ∷ ms) = if bytes_eq m.name name then kind_admits_none m.kind else named_admits_none name ms

-- the value, or else `absent`
abbrev pub some_or : {V : Type 0} → V → Option V → V
some_or absent None = absent
some_or absent (Some v) = v

-- the next value is taken for a known part, if there is one left
abbrev pub TakesNext : {V : Type 0} → Bool → List V → ℕ → ℕ → Option V → Type 0
TakesNext known values old new (Some v) = (known ≡ true) × (slice_get values old ≡ Some v) × (new ≡ old + 1)
TakesNext known values old new None = ((known ≡ false) ⊎ (length values ≤ old)) × (new ≡ old)
