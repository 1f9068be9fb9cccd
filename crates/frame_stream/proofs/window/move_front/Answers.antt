use Rattle.std.proofs.Common.{◌≡◌, ◌+◌, ◌-◌, take, drop, ap, sym, ◌∙◌, arith, length-drop}
use lib.Seq.{paste}
use Rattle.std.proofs.lemmas.List.{drop-take}
use Rattle.std.proofs.lemmas.List.Edits.{take-paste}
use Rattle.frame_stream.proofs.window.move_front.Goals as goal

pub returns-clause-moved : goal.returns-clause-moved
returns-clause-moved c =
    let old = c.args.buf.now in
    let start = c.args.start in
    let k = c.args.end - start in
    let same : k ≡ 0 + k = omega arith in
    let split : c.args.end ≡ start + k = omega (arith, c.requires.low) in
    ap (take k) c.copy_within.ensures.after ∙ ap (λ m. take m (paste old 0 (drop start old) k)) same
    ∙ take-paste old 0 (drop start old) k (omega (arith, c.requires.low, c.requires.high)) (omega (arith, c.requires.low, c.requires.high, length-drop start old))
    ∙ sym (ap (λ m. drop start (take m old)) split ∙ drop-take start k old)
