use Rattle.std.proofs.Common.{ap, sym, subst}
use Rattle.tree_json.specs.Texts.{AreTexts}
use Rattle.tree_json.specs.Views.{block_head}
use Rattle.printers.proofs.Printing.{reprinted}
use Rattle.tree_json.proofs.block.put_head.Goals as goal

pub put_head_by-requires : goal.put_head_by-requires
put_head_by-requires g c = subst (λ o. AreTexts o c.args.block.now) (sym c.in-Some.ensures) c.requires

pub returns-in-None : goal.returns-in-None
returns-in-None g c = reprinted (ap block_head c.again.ensures) c.put_by_kinds.ensures
