use Rattle.std.proofs.Common.{arith}
use Rattle.exact_plans.proofs.TaggedRows.{tag_ready}
use Rattle.exact_plans.proofs.tagged.read_lead.Goals as goal

pub returns : goal.returns
returns c = tag_ready c.args.lead.now _ (omega arith) c.array-bytes.ensures.bytes c.array-bytes.ensures.ready
