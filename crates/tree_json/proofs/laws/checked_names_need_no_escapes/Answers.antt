use Rattle.tree_json.proofs.Checked.{checked_is_plain}
use Rattle.tree_json.proofs.laws.checked_names_need_no_escapes.Goals as goal

pub returns : goal.returns
returns c = checked_is_plain
