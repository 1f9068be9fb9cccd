use Rattle.tree_json.proofs.Keys.{printed_is_line}
use Rattle.tree_json.proofs.laws.printed_text_is_the_line.Goals as goal

pub returns : goal.returns
returns c = printed_is_line
