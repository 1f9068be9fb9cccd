use Rattle.bridge_terms.specs.Blocks.{values_of}
use Rattle.bridge_terms.specs.Places.{places_of}
use Rattle.message_walk.specs.States.{outcome}
use Rattle.message_walk.proofs.Messages.{message_put}
use Rattle.message_walk.proofs.message.put_message.Goals as goal

pub returns-clause-put : goal.returns-clause-put
returns-clause-put g c = λ lists p rows fits.
    message_put lists c.args.out.now (places_of p (values_of p c.args.root.now.block)) (outcome c.put_rows.result c.put_rows.new.out c.put_rows.new.halt) c.requires
    (c.put_rows.ensures.put lists p rows fits)
