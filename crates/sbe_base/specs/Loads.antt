-- What loading a file answers. Own profile.
use Rattle.std.specs.Prelude.{◌≡◌, ◌<◌, ◌≤◌, ℕ, List, length, Option, Some, None, Result, Ok, Err, ⊤, IsSomeAnd}
use Rattle.sbe_base.specs.Causes.{Rose}
use Rattle.sbe_base.specs.declared.files.LoadErr.{LoadErr}
use Rattle.sbe_base.specs.declared.files.LoadErr.TheVariants.{Failed, Absent, TooLong, Memory}

-- the answer for a file of these bytes, or for no file; a failure and out of memory may be answered for any
abbrev pub LoadsFrom : Option (List ℕ) → ℕ → Result (Unit {0}) LoadErr → List ℕ → Type 0
LoadsFrom file limit (Ok done) into = (file ≡ Some into) × (length into ≤ limit)
LoadsFrom file limit (Err Absent) into = file ≡ None
LoadsFrom file limit (Err TooLong) into = (bytes : List ℕ) × (file ≡ Some bytes) × (limit < length bytes)
LoadsFrom file limit (Err Failed) into = ⊤
LoadsFrom file limit (Err Memory) into = ⊤

-- the same for the file of a name, if the contents are modelled
abbrev pub Loads : Option (List ℕ → Option (List ℕ)) → List ℕ → ℕ → Result (Unit {0}) LoadErr → List ℕ → Type 0
Loads None name limit result into = ⊤
Loads (Some look) name limit result into = LoadsFrom (look name) limit result into

-- the same for all that a reader has left, if that is modelled
abbrev pub LoadsRest : Option (List ℕ) → ℕ → Result (Unit {0}) LoadErr → List ℕ → Type 0
LoadsRest None limit result into = ⊤
LoadsRest (Some left) limit result into = LoadsFrom (Some left) limit result into

-- there is a file, and it has at most `limit` bytes
abbrev pub MayLoad : Option (List ℕ) → ℕ → Type 0
MayLoad file limit = IsSomeAnd file (λ bytes. length bytes ≤ limit)

-- a load is out of memory only for a file that may be loaded, if the contents are modelled
abbrev pub OutOfMemory : Option (List ℕ → Option (List ℕ)) → List ℕ → ℕ → Result (Unit {0}) LoadErr → Type 0
OutOfMemory told name limit result = (look : List ℕ → Option (List ℕ)) → told ≡ Some look → result ≡ Err Memory → MayLoad (look name) limit

-- The count of faults never falls. It rose at a failure, and any other answer leaves it.
abbrev pub CausedLoad : ℕ → ℕ → Result (Unit {0}) LoadErr → Type 0
CausedLoad before now (Err Failed) = (before ≤ now) × Rose before now
CausedLoad before now (Err Absent) = now ≡ before
CausedLoad before now (Err TooLong) = now ≡ before
CausedLoad before now (Err Memory) = now ≡ before
CausedLoad before now (Ok done) = now ≡ before
