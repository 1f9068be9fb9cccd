use Rattle.std.proofs.Common.{◌∙◌, sym, refl, length}
use Rattle.std.proofs.lemmas.Bool.{eqb-true}
use Rattle.vectors.proofs.AlteredBytes.{altered_none, altered_at}
use Rattle.vectors.proofs.altering.alter.Goals as goal

pub returns-then-is_empty : goal.returns-then-is_empty
returns-then-is_empty c = altered_none c.args.body.now c.args.index (eqb-true (length c.args.body.now) 0 (sym c.is_empty.ensures ∙ c.if-is_empty.true))

pub returns : goal.returns
returns c = altered_at c.args.body.now c.args.index _ refl
