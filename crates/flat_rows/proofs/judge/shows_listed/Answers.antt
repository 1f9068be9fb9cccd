use Rattle.flat_rows.proofs.ValidBytes.{byte_shows}
use Rattle.flat_rows.proofs.judge.shows_listed.Goals as goal

pub returns-then-is_valid : goal.returns-then-is_valid
returns-then-is_valid c = λ yes. byte_shows c.args.row.now.valid.items c.args.row.now.kind c.args.known c.args.bytes.now c.requires.row.bytes (c.is_valid.ensures c.if-is_valid.true)
