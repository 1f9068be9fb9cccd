use Rattle.std.proofs.Common.{rules}
use Rattle.typed_writer.proofs.buffer.FrameBuf.set.Goals as goal

pub returns-clause-ok : goal.returns-clause-ok
returns-clause-ok c = (
  c.field_of-field.result.now,
  c.place-place.result,
  search rules,
  search rules,
  record {
    written = search rules;
    set = search rules;
    frames = search rules;
    at = search rules;
    limit = search rules;
  },
)
