use Rattle.std.proofs.Common.{◌++◌, ap, ◌∙◌}
use Rattle.tagvalue_codec.specs.Rooms.{Around}
use Rattle.tagvalue_codec.proofs.Framing.{part, body_grows, lent_back}
use Rattle.tagvalue_codec.proofs.framed.Framed.append.Goals as goal

pub returns-clause-bytes : goal.returns-clause-bytes
returns-clause-bytes c =
    let b = c.self.inside in
    let put = c.place-self-inside in
    ap (part b.start put.result) (lent_back b.memory.len put.new.room (put.ensures.long ∙ c.deref_mut.ensures.len) _)
    ∙ body_grows b.memory.items put.new.room b.start b.len put.result c.args.piece.now (rw c.deref_mut.ensures.value at put.ensures) c.self.invariant.0 c.self.invariant.1
    ∙ ap (λ (a : Around). a.bytes ++ c.args.piece.now) c.self.view_is
