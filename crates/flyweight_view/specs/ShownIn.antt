-- What the bytes of a field show.
use Rattle.std.specs.Prelude.{Bool, Option, Some, None}
use Rattle.sbe_types.specs.declared.message.Value.{Value}
use Rattle.sbe_types.specs.Shows.{Shows}
use Rattle.flyweight_view.specs.declared.values.FieldBytes.{FieldBytes}

-- the bytes show the value, if there is one, for some version
abbrev pub IsShownIn : FieldBytes → Option Value → Type 0
IsShownIn f (Some v) = (known : Bool) × Shows f.order known f.kind.now v f.bytes.now
IsShownIn f None = ⊥
