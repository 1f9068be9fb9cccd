-- What the objects in memory hold. Own profile.
use Rattle.std.specs.Prelude.{◌≡◌, ◌≢◌, ◌<◌, ℕ, Bool, true, false, List, length, Option, Some, Result, Ok, Err, option_map, find, ◌⊎◌}
use Rattle.std.specs.Str.{bytes_eq}
use Rattle.sbe_base.specs.Calls.{CallLog, IsListed}
use Rattle.sbe_base.specs.declared.files.LoadErr.{LoadErr}
use Rattle.sbe_base.specs.declared.files.LoadErr.TheVariants.{Failed, Absent, TooLong, Memory}
use Rattle.sbe_base.specs.declared.mem_files.MemFile.{MemFile}

-- the bytes still to come, the most that one read gives, and the calls
pub record SourceState : Type 0 where
  pub left : List ℕ
  pub piece : ℕ
  pub calls : CallLog

-- the bytes taken so far, how many more fit, and the calls
pub record SinkState : Type 0 where
  pub held : List ℕ
  pub room : ℕ
  pub calls : CallLog

-- the files, and the calls
pub record FilesState : Type 0 where
  pub files : List MemFile
  pub calls : CallLog

-- a write of these bytes is meant to fail: its call is listed, or there are bytes and none fits
abbrev pub WriteFails : SinkState → List ℕ → Type 0
WriteFails sink bytes = IsListed sink.calls ⊎ ((sink.room ≡ 0) × (0 < length bytes))

-- the bytes of the first file of that name
abbrev pub found : List ℕ → List MemFile → Option (List ℕ)
found name files = option_map (λ file. file.bytes) (find (λ file. bytes_eq file.name name) files)

-- the name now has these bytes, and every other name is as it was
pub record Replaces (old new : FilesState) (name bytes : List ℕ) : Type 0 where
  pub here : found name new.files ≡ Some bytes
  pub elsewhere : (other : List ℕ) → other ≢ name → found other new.files ≡ found other old.files
  pub calls : new.calls ≡ old.calls

-- whether the answer of a load is a failure
abbrev pub is_failed : Result (Unit {0}) LoadErr → Bool
is_failed (Err Failed) = true
is_failed (Err Absent) = false
is_failed (Err TooLong) = false
is_failed (Err Memory) = false
is_failed (Ok done) = false
