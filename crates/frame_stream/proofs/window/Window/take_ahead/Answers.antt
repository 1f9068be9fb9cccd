use Rattle.std.proofs.Common.{◌≡◌, ◌∙◌, Ok, ap, refl, subst}
use Rattle.open_framing.specs.Heads.{IsBytes, head_of}
use Rattle.frame_stream.proofs.Nexts.{ahead_next}
use Rattle.frame_stream.proofs.window.Window.take_ahead.Goals as goal

pub returns-then-copy_ahead-clause-nexts : goal.returns-then-copy_ahead-clause-nexts
returns-then-copy_ahead-clause-nexts g c =
    let left = λ (o : _). (g.I.Source.state o).told in
    let head = c.in-Ok.head in
    let lent = c.ahead.result.now in
    let took = c.if-copy_ahead.ensures in
    let is : Ok head ≡ head_of lent c.args.self.now.held.size = c.in-Ok.ensures ∙ ap (head_of lent) c.size.ensures in
    let counted = took.bytes refl in
    ahead_next c.args.self.now.held c.copy_ahead.new.self.held (left c.args.input.now) (left c.copy_ahead.new.input) (g.I.Source.read_ahead c.args.input.now) lent head
    c.requires.none c.ahead.ensures is (took.moves refl) counted.0 counted.1 (subst IsBytes c.as_slice.ensures c.are_bytes.ensures)
