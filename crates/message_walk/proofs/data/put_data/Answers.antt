use Rattle.std.proofs.Common.{sym, ◌∙◌}
use Rattle.message_walk.proofs.data.put_data.Goals as goal

pub returns-in-Some-clause-raw : goal.returns-in-Some-clause-raw
returns-in-Some-clause-raw c = λ own lists leaf is paired. c.put_raw.ensures.put lists leaf (paired ∙ sym is ∙ c.in-Some.is)

pub returns-in-None-clause-passage : goal.returns-in-None-clause-passage
returns-in-None-clause-passage c = λ lists leaf is unpaired. c.put_passage.ensures.put lists leaf unpaired
