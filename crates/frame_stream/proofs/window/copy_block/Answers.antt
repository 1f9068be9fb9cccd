use Rattle.std.proofs.Common.{◌≡◌, ◌+◌, ◌≤◌, ◌++◌, length, take, drop, ap, ◌∙◌, sym, arith, length-take-le, length-drop}
use Rattle.std.proofs.Math.Seq.{take-add}
use Rattle.std.proofs.lemmas.Simd.{take_more_put_chunk}
use Rattle.frame_stream.proofs.window.copy_block.Goals as goal

pub returns-clause-copied : goal.returns-clause-copied
returns-clause-copied g c =
    let at = c.args.at in
    let n = g.row.N in
    let rest = drop at c.args.from.now in
    let there : n ≤ length rest = omega (arith, length-drop at c.args.from.now, c.requires.there) in
    let long : length (take n rest) ≡ n = length-take-le n rest there in
    take_more_put_chunk at c.args.buf.now (take n rest) (at + n) (omega (arith, long)) c.requires.room
    ∙ ap (λ front. front ++ take n rest) c.requires.before ∙ sym (take-add at n c.args.from.now)
