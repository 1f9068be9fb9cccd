use Rattle.bridge_rules.proofs.OneItem.{read_item, shown_item, missing_item, unwritten_item}
use Rattle.bridge_rules.proofs.laws.values_and_texts_have_one_item.Goals as goal

pub returns-clause-read : goal.returns-clause-read
returns-clause-read c = read_item

pub returns-clause-shown : goal.returns-clause-shown
returns-clause-shown c = shown_item

pub returns-clause-missing : goal.returns-clause-missing
returns-clause-missing c = missing_item

pub returns-clause-unwritten : goal.returns-clause-unwritten
returns-clause-unwritten c = unwritten_item
