use Rattle.json_fields.proofs.Fronts.{front_written}
use Rattle.json_fields.proofs.kinds.put_text_in.Goals as goal

pub returns-in-Some : goal.returns-in-Some
returns-in-Some g c =
    front_written c.args.leaf.now c.args.bytes.now c.in-Some.run' c.in-Some.ensures.front c.in-Some.ensures.plain c.in-Some.ensures.within c.in-Some.ensures.some c.put_plain_front.ensures
