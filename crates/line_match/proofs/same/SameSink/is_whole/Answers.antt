use Rattle.std.proofs.Common.{sym, ◌∙◌, arith}
use Rattle.std.proofs.lemmas.List.{take_all}
use Rattle.std.proofs.lemmas.Slice.Eq.{bytes_eq-Decides}
use Rattle.line_match.proofs.same.SameSink.is_whole.Goals as goal

pub returns-then-self : goal.returns-then-self
returns-then-self c = λ yes. (bytes_eq-Decides c.args.line.now c.args.self.now.line.now).0 (sym c.eq.ensures ∙ yes) ∙ sym (take_all c.args.self.now.at c.args.self.now.line.now (omega arith))
