use Rattle.std.proofs.Common.{rules}
use Rattle.std.specs.Prelude.{◌==◌}
use Rattle.std.specs.Io.Buffered.{reader_buffer, reader_capacity}
use Rattle.sbe_base.proofs.Passing.{passes}
use Rattle.sbe_base.proofs.adapters.BufferedSourceSource.pass.Goals as goal

pub returns-clause-bytes : goal.returns-clause-bytes
returns-clause-bytes g c done =
    let reader = c.args.self.now.source.inner in
    passes (reader_capacity reader == 0) (reader_buffer reader) (g.R.Read.remaining reader.inner) _ c.args.n (search rules) c.consume.ensures.bytes
