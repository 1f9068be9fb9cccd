-- What a search gives for bytes that may be followed by more. Own profile.
use Rattle.std.specs.Prelude.{◌≡◌, ◌+◌, ◌<◌, ◌≤◌, ℕ, Option, Some, None, List, ◌++◌, length, take}
use Rattle.raw_fix.specs.declared.mark.Marked.{Marked}
use Rattle.raw_fix.specs.declared.mark.Marked.TheVariants.{At, NotIn}
use Rattle.raw_fix.specs.Claims.{before_soh}
use Rattle.raw_fix.specs.Raw.{mark, BeforeMark, NoMark}

-- the position of the first SOH, if there is one
abbrev pub FindsSoh : List ℕ → Option ℕ → Type 0
FindsSoh bytes (Some i) = (i < length bytes) × (before_soh bytes ≡ Some (take i bytes))
FindsSoh bytes None = before_soh bytes ≡ None

-- the position of the first SOH, if it is one of the first bytes
abbrev pub FindsNear : ℕ → List ℕ → Option ℕ → Type 0
FindsNear most bytes (Some i) = FindsSoh bytes (Some i)
FindsNear most bytes None = before_soh (take most bytes) ≡ None

-- no mark begins in the first n bytes, whatever follows all of them
abbrev pub NoneBegins : List ℕ → ℕ → Type 0
NoneBegins bytes n = (more f m : List ℕ) → bytes ++ more ≡ f ++ mark ++ m → n ≤ length f

-- the first mark; or there is none, and none begins in the first n bytes
abbrev pub Marks : List ℕ → Marked → Type 0
Marks bytes (At i) = (i ≤ length bytes) × BeforeMark bytes (take i bytes)
Marks bytes (NotIn n) = (n ≤ length bytes) × (length bytes ≤ n + 4) × NoMark bytes × NoneBegins bytes n
