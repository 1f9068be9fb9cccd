use Rattle.std.proofs.Common.{length, rules, ◌∙◌, ap, sym}
use Rattle.sbe_base.proofs.Pieces.{piece_then_rest, ended}
use Rattle.sbe_base.proofs.memory.MemSourceSource.read.Goals as goal

pub returns-clause-bytes : goal.returns-clause-bytes
returns-clause-bytes c =
    let given = c.copy_front-n in
    let source = c.self.inside in
    let shown = c.deref.ensures.value in
    (ap (λ s. s.left) (sym c.self.view_is) ∙ piece_then_rest source.bytes.items c.deref.result.now given.new.buf source.at given.result shown given.ensures.bytes, λ none wide. ended source.bytes.items c.deref.result.now source.at given.result source.piece (length c.args.buf.now) shown (search rules) given.ensures.count none (search rules))
