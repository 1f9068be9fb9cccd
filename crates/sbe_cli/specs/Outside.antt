-- All objects of a run at one time: what they model, and how often a file was loaded.
use Rattle.std.specs.Prelude.{◌≡◌, ℕ, List, Option}
use Rattle.sbe_base.specs.Objects.{Object}
use Rattle.replies.specs.Outside.{Streams}
use Rattle.schema_files.specs.Files.{after_loads}
use Rattle.schema_files.specs.declared.files.FileRole.{FileRole}

-- The contents of the files by name, as modelled, how often one was loaded, and the streams.
pub record Outside : Type 0 where
  pub files : Object (List ℕ → Option (List ℕ))
  pub loads : ℕ
  pub streams : Streams

-- the files, how often one was loaded, and the notes
pub record Desk : Type 0 where
  pub files : Object (List ℕ → Option (List ℕ))
  pub loads : ℕ
  pub notes : Object (List ℕ)

-- All objects.
abbrev pub outside_of : Object (List ℕ → Option (List ℕ)) → ℕ → Streams → Outside
outside_of files loads streams = record { files = files; loads = loads; streams = streams }

-- The files and the notes.
abbrev pub desk_of : Object (List ℕ → Option (List ℕ)) → ℕ → Object (List ℕ) → Desk
desk_of files loads notes = record { files = files; loads = loads; notes = notes }

-- the file in that role was the last one that was loaded, where a command takes so many loads up to each
abbrev pub IsLast : (FileRole → ℕ) → FileRole → ℕ → ℕ → Type 0
IsLast loads role before now = now ≡ after_loads (loads role) before
