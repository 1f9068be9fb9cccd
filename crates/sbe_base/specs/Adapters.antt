-- What the adapters over std wrap. Own profile.
use Rattle.std.specs.Prelude.{◌≡◌}
use Rattle.std.specs.declared.alloc.Global.{Global}
use Rattle.std.specs.declared.io.buffered.BufReader.{BufReader}
use Rattle.sbe_base.specs.declared.adapters.StdSource.{StdSource}
use Rattle.sbe_base.specs.declared.adapters.BufferedSource.{BufferedSource}
use Rattle.sbe_base.specs.declared.adapters.StdSink.{StdSink}
use Rattle.sbe_base.specs.declared.dir_files.DirFiles.{DirFiles}

-- the source reads from this reader, and has not failed
abbrev pub WrapsReader : {R : Type 0} → R → StdSource R → Type 0
WrapsReader inner source = (source.inner ≡ inner) × (source.faults ≡ 0)

-- the source reads from this buffered reader, and has not failed
abbrev pub WrapsBuffer : {R : Type 0} → BufReader R Global → BufferedSource R → Type 0
WrapsBuffer inner source = WrapsReader inner source.source

-- the sink writes to this writer, and has not failed
abbrev pub WrapsWriter : {W : Type 0} → W → StdSink W → Type 0
WrapsWriter inner sink = (sink.inner ≡ inner) × (sink.faults ≡ 0)

-- the files are those of this runtime; none was asked for, and no call has failed
abbrev pub WrapsRuntime : {R File Dir : Type 0} → R → DirFiles R File Dir → Type 0
WrapsRuntime rt files = (files.rt ≡ rt) × (files.faults ≡ 0) × (files.loads ≡ 0)
