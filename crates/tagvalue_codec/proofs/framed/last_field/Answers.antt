use Rattle.std.proofs.Common.{[], ◌∷◌, ◌++◌, sym, ap}
use Rattle.tagvalue_codec.proofs.Judging.{last_bytes}
use Rattle.tagvalue_codec.proofs.framed.last_field.Goals as goal

pub returns : goal.returns
returns c = ap (λ l. l ++ (0 ∷ [])) (sym (last_bytes c.args.sum))
