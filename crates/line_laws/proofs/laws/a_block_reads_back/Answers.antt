use Rattle.tree_json.specs.Lines.{block_entries}
use Rattle.line_laws.proofs.Finding.{listed_is_found}
use Rattle.line_laws.proofs.BlockBack.{block_good, block_distinct}
use Rattle.line_laws.proofs.laws.a_block_reads_back.Goals as goal

pub returns : goal.returns
returns c = λ order t dim level b named kinds bytes fits. (block_good order t dim level b named kinds bytes fits).read _ (listed_is_found (block_entries level b) (block_distinct level b))
