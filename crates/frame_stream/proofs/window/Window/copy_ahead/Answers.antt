use Rattle.std.proofs.Common.{◌≡◌, ◌∙◌, [], ap, arith, drop, length, length-take, rules, sym, take}
use Rattle.frame_stream.specs.Window.{WindowState}
use Rattle.frame_stream.proofs.Moving.{buffer_is, front_lent, held_is, moves_ahead, none_shown}
use Rattle.frame_stream.proofs.window.Window.copy_ahead.Goals as goal

pub returns-then-not-pass-clause-none : goal.returns-then-not-pass-clause-none
returns-then-not-pass-clause-none g c refused =
    let w = c.self.inside in
    let new = c.copy_front.new.buf in
    let len : w.buffer.len ≡ length new = search rules in
    let is = buffer_is w.buffer.len w.buffer.items new len in
    let size : length new ≡ length w.buffer.items = c.copy_front.ensures.size ∙ ap length c.as_mut_slice.ensures.value in
    let before : drop w.start (take w.end w.buffer.items) ≡ [] = ap (λ (k : WindowState). k.held.bytes) c.self.view_is ∙ c.requires.none in
    let bytes = ap (λ b. drop w.start (take w.end b)) is ∙ none_shown w.start w.end w.buffer.items new (search rules) (search rules) size before ∙ sym c.requires.none in (
      held_is _ _ _ _ c.args.self.now.held bytes (ap length is ∙ size ∙ ap (λ (k : WindowState). k.held.size) c.self.view_is) (search rules) (search rules),
      c.if-not-pass.ensures.stays refused,
    )

pub returns-clause-moves : goal.returns-clause-moves
returns-clause-moves g c done =
    let w = c.self.inside in
    let ahead = g.I.Source.read_ahead c.args.input.now in
    let new = c.copy_front.new.buf in
    let len : w.buffer.len ≡ length new = search rules in
    let is = buffer_is w.buffer.len w.buffer.items new len in
    let size : length new ≡ length w.buffer.items = c.copy_front.ensures.size ∙ ap length c.as_mut_slice.ensures.value in
    let lent = front_lent c.args.n ahead c.ahead-ahead.result.now c.ahead-ahead.ensures (search rules) in
    let bytes = ap (take c.args.n) is ∙ c.copy_front.ensures.copied ∙ lent in
    let long : length (take c.args.n ahead) ≡ c.args.n = simp length-take (omega (arith, c.if-not-pass.ensures.bound done)) in
    moves_ahead c.args.self.now.held _ (g.I.Source.state c.args.input.now).told (g.I.Source.state c.pass.new.self).told (take c.args.n ahead) c.requires.none bytes (omega (arith, long, ap (λ (k : WindowState). k.held.taken) c.self.view_is)) (search rules) (search rules)
    (ap length is ∙ size ∙ ap (λ (k : WindowState). k.held.size) c.self.view_is) (omega (arith, long, c.requires.room)) (c.if-not-pass.ensures.bytes done)

pub returns-clause-bytes : goal.returns-clause-bytes
returns-clause-bytes g c done =
    let w = c.self.inside in
    let ahead = g.I.Source.read_ahead c.args.input.now in
    let new = c.copy_front.new.buf in
    let len : w.buffer.len ≡ length new = search rules in
    let is = buffer_is w.buffer.len w.buffer.items new len in
    let lent = front_lent c.args.n ahead c.ahead-ahead.result.now c.ahead-ahead.ensures (search rules) in
    (c.if-not-pass.ensures.bound done, ap (take c.args.n) is ∙ c.copy_front.ensures.copied ∙ lent)
