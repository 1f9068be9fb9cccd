-- Whether readers and writers of two versions of a schema understand each other.
use Rattle.std.specs.Prelude.{ℕ, Option, Some, None, List, [], ◌∷◌, ◌++◌, codes}
use Rattle.sbe_types.specs.declared.schema.WireSchema.{WireSchema}
use Rattle.version_laws.specs.declared.difference.Compat.{Compat}
use Rattle.version_laws.specs.declared.difference.Compat.TheVariants as answer
use Rattle.version_laws.specs.declared.difference.Difference.{Difference}
use Rattle.version_laws.specs.Differ.{differ}
use Rattle.version_laws.specs.Forward.{NamePath, first_added}

-- the names of a path, separated by dots
abbrev pub dotted : NamePath → List ℕ
dotted [] = []
dotted (name ∷ []) = name
dotted (name ∷ (next ∷ names)) = name ++ codes "." ++ dotted (next ∷ names)

-- No at the first difference; else OneWay at the first addition that an older reader can't skip
abbrev pub compat_of : Option Difference → Option NamePath → Compat
compat_of (Some d) added = answer.No d.path d.reason
compat_of None (Some names) = answer.OneWay (dotted names)
compat_of None None = answer.TwoWay

-- the answer for two schemas
abbrev pub compat : WireSchema → WireSchema → Compat
compat old new = compat_of (differ old new) (first_added old new)
