use Rattle.json_values.proofs.Numbers.{lead_pair}
use Rattle.json_values.proofs.values.put_short.Goals as goal

pub returns : goal.returns
returns g c = lead_pair c.lead_of.result.now _ c.args.n c.requires.least c.requires.most c.digits_of.ensures c.lead_of.ensures.digits c.pair_of.ensures.digits c.put_front.ensures
