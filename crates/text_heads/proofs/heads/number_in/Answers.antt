use Rattle.text_heads.proofs.Given.{number_given}
use Rattle.text_heads.proofs.heads.number_in.Goals as goal

pub returns-in-Some-number_of : goal.returns-in-Some-number_of
returns-in-Some-number_of c = number_given c.args.known c.in-Some-number_of.number c.in-Some-number_of.ensures c.if-known.true
