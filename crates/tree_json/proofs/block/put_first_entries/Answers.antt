use Rattle.std.proofs.Common.{[], refl, sym, subst}
use Rattle.tree_json.specs.Texts.{AreTextsOfAll}
use Rattle.printers.proofs.Printing.{prints_nothing}
use Rattle.tree_json.proofs.block.put_first_entries.Goals as goal

pub put_flat_entries-requires : goal.put_flat_entries-requires
put_flat_entries-requires g c = subst (λ o. AreTextsOfAll o c.args.entries.now) (sym c.in-Some.ensures) c.requires

pub returns-in-Some-clause-left : goal.returns-in-Some-clause-left
returns-in-Some-clause-left g c = subst (λ o. AreTextsOfAll o c.put_flat_entries.new.entries) c.in-Some.ensures c.put_flat_entries.ensures.left

pub returns-in-None-clause-text : goal.returns-in-None-clause-text
returns-in-None-clause-text g c = record { done = []; printed = prints_nothing; whole = refl }
