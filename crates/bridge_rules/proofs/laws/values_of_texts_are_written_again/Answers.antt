use Rattle.bridge_rules.proofs.TextsAgain.{texts_again}
use Rattle.bridge_rules.proofs.laws.values_of_texts_are_written_again.Goals as goal

pub returns : goal.returns
returns c = texts_again
