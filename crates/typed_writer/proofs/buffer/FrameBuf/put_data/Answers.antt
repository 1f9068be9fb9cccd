use Rattle.std.proofs.Common.{rules}
use Rattle.typed_writer.proofs.buffer.FrameBuf.put_data.Goals as goal

pub returns-in-Err-clause-refused : goal.returns-in-Err-clause-refused
returns-in-Err-clause-refused c = (c.part_at-part.result.now, search rules, search rules)
