use Rattle.std.proofs.Common.{◌∙◌, rules}
use Rattle.typed_writer.proofs.Rising.{null_next}
use Rattle.typed_writer.proofs.room.Room.nulls.Goals as goal

pub loop-preserved : goal.loop-preserved
loop-preserved c = record {
  bytes = null_next c.args.order c.args.leaf c.args.leaf.length c.loop.counter c.loop.self.bytes c.null.new.self.bytes (search rules) (search rules) ∙ c.loop.invariant.bytes;
  long = search rules;
  limit = search rules;
}
