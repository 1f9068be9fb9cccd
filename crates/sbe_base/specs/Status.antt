-- The exit code of each status. Own profile.
use Rattle.std.specs.Prelude.{ℕ}
use Rattle.sbe_base.specs.declared.status.Status.{Status}
use Rattle.sbe_base.specs.declared.status.Status.TheVariants.{Done, SomeRefused, Usage, SchemaRefused, MapRefused, FramingRefused, FileFault, ReadFault, WriteFault, NoMemory, InputLimit, NoFile}

-- the exit code of a status
abbrev pub code_of : Status → ℕ
code_of Done = 0
code_of SomeRefused = 1
code_of Usage = 2
code_of SchemaRefused = 3
code_of MapRefused = 4
code_of FramingRefused = 5
code_of FileFault = 6
code_of ReadFault = 7
code_of WriteFault = 8
code_of NoMemory = 9
code_of InputLimit = 10
code_of NoFile = 11
