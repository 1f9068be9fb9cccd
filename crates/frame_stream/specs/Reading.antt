-- One read of a source of which only a limited number of bytes may be taken. Own profile.
use Rattle.std.specs.Prelude.{◌≡◌, ◌<◌, ◌≤◌, ℕ, ◌+◌, Option, Result, Ok, Err, List, [], ◌∷◌, ◌++◌, length, take}
use Rattle.std.specs.Io.KnownBytes.{Consumes, Keeps, IsAtEnd}
use Rattle.sbe_base.specs.Causes.{Rose}
use Rattle.sbe_base.specs.declared.stream.Failed.{Failed}
use Rattle.frame_stream.specs.declared.reading.Dry.{Dry}
use Rattle.frame_stream.specs.declared.reading.Dry.TheVariants as dry

-- The bytes read follow the first `len` ones. A read of none is only at the end.
abbrev pub ReadsBehind : ℕ → Option (List ℕ) → Option (List ℕ) → List ℕ → Result ℕ Failed → Type 0
ReadsBehind len left left' buf (Ok n) =
    ((more : List ℕ) × (take (len + n) buf ≡ take len buf ++ more) × (length more ≡ n) × Consumes left left' more) × (n ≡ 0 → IsAtEnd left')
ReadsBehind len left left' buf (Err e) = Keeps left left'

-- no byte was read, for this reason, except these beyond what may be taken
abbrev pub Beyond : List ℕ → Option (List ℕ) → Dry → Type 0
Beyond bytes left' dry.Fault = bytes ≡ []
Beyond bytes left' dry.End = (bytes ≡ []) × IsAtEnd left'
Beyond bytes left' dry.Over = (x : ℕ) × (bytes ≡ x ∷ [])

-- the bytes read are kept after the first ones, and those beyond what may be taken are not
abbrev pub ReadsWithin : ℕ → Option (List ℕ) → Option (List ℕ) → List ℕ → Result ℕ Dry → Type 0
ReadsWithin len left left' buf (Ok n) = (0 < n) × ((more : List ℕ) × (take (len + n) buf ≡ take len buf ++ more) × (length more ≡ n) × Consumes left left' more)
ReadsWithin len left left' buf (Err d) = (beyond : List ℕ) × Consumes left left' beyond × Beyond beyond left' d

-- the count of faults rose at a fault, and any other answer leaves it
abbrev pub DryCause : {T : Type 0} → ℕ → ℕ → Result T Dry → Type 0
DryCause before now (Ok x) = now ≡ before
DryCause before now (Err dry.Fault) = (before ≤ now) × Rose before now
DryCause before now (Err dry.End) = now ≡ before
DryCause before now (Err dry.Over) = now ≡ before
