-- Names that need no escapes. Own profile.
use Rattle.std.specs.Prelude.{ℕ, List}
use Rattle.std.specs.List.{AllByRecursion}
use Rattle.sbe_types.specs.declared.kind.Named.{Named}
use Rattle.sbe_types.specs.InForm.{IsName}
use Rattle.json_values.specs.Plain.{IsPlainName}

-- valid values or choices whose names have their form
abbrev pub AreNamed : List Named → Type 0
AreNamed values = AllByRecursion (λ (v : Named). IsName v.name) values

-- The law: a name of a schema needs no escapes.
abbrev pub NamesStand : Type 0
NamesStand = (name : List ℕ) → IsName name → IsPlainName name
