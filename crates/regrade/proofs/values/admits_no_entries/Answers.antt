use Rattle.std.proofs.Common.{sym, ap, ◌∙◌}
use Rattle.regrade.specs.Each.{named_admits_none}
use Rattle.regrade.proofs.Rows.{admitted_is}
use Rattle.regrade.proofs.values.admits_no_entries.Goals as goal

pub returns : goal.returns
returns c = c.named_admits_none.ensures ∙ ap (λ name. named_admits_none name c.args.dim.now) c.as_bytes.ensures.value ∙ sym (admitted_is c.args.dim.now)
