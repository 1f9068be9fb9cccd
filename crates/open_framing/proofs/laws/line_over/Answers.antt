use Rattle.std.proofs.Common.{arith}
use Rattle.open_framing.proofs.LineLemmas.{line_over}
use Rattle.open_framing.proofs.laws.line_over.Goals as goal

pub returns : goal.returns
returns c = λ plain stream input none size. line_over plain stream input none (omega arith)
