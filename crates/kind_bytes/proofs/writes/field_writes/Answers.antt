use Rattle.std.proofs.Common.{sym}
use Rattle.kind_bytes.proofs.MemberBytes.{field_fits}
use Rattle.kind_bytes.proofs.writes.field_writes.Goals as goal

pub put_kind-requires-clause-fits : goal.put_kind-requires-clause-fits
put_kind-requires-clause-fits c = (field_fits c.args.part c.args.kind.now c.args.v.now (sym c.in-Ok.ensures)).1
