-- The values of known parts, each as the older schema knows it.
use Rattle.std.specs.Prelude.{ℕ, Bool, if◌then◌else◌, List, [], ◌∷◌}
use Rattle.sbe_types.specs.declared.schema.Field.{Field}
use Rattle.sbe_types.specs.declared.schema.DataField.{DataField}
use Rattle.sbe_types.specs.declared.schema.Group.{Group}
use Rattle.sbe_types.specs.declared.message.Value.{Value}
use Rattle.sbe_types.specs.declared.message.DataVal.{DataVal}
use Rattle.sbe_types.specs.declared.message.GroupVal.{GroupVal}
use Rattle.version_laws.specs.Projected.{old_field, old_part, projected_group}
use Rattle.version_project.specs.IsPlain.{old_group}

-- f of each known part and its value
abbrev pub known_each : {X Y : Type 0} → (X → Bool) → (X → Y → Y) → List X → List Y → List Y
known_each known f [] ys = []
known_each known f (x ∷ xs) [] = []
known_each known f (x ∷ xs) (y ∷ ys) = if known x then f x y ∷ known_each known f xs ys else known_each known f xs ys

-- the values of the fields that old has
abbrev pub known_fields : ℕ → List Field → List Value → List Value
known_fields version fields values = known_each (old_field version) (λ field value. value) fields values

-- the data parts that old has
abbrev pub known_parts : ℕ → List DataField → List DataVal → List DataVal
known_parts version parts values = known_each (old_part version) (λ part value. value) parts values

-- the groups that old has, each as old knows it
abbrev pub known_groups : ℕ → List Group → List GroupVal → List GroupVal
known_groups version groups values = known_each (old_group version) (projected_group version) groups values
