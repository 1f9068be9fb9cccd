use Rattle.std.proofs.Common.{◌∙◌, ◌&&◌, ◌-◌, length, refl, sym, ap, arith}
use Rattle.std.proofs.lemmas.List.{take_rest}
use Rattle.clean_walk.proofs.Words.{same_names}
use Rattle.clean_walk.proofs.names.is_same.Goals as goal

pub returns-then-is_same_word : goal.returns-then-is_same_word
returns-then-is_same_word c =
    let name = c.args.name.now in
    let other = c.args.other.now in
    let first = c.is_same_word in
    let last = c.is_same_word-then-is_same_word in
    sym (ap (λ b. b && last.result) c.if-is_same_word.true)
    ∙ same_names (length name) name other first.result last.result (omega (arith, c.if-long-lt-WORD.false)) (omega (arith, c.if-long.false)) refl (omega (arith, c.if-long-other.false)) first.ensures
    (rw (take_rest name (length name - 8), take_rest other (length name - 8)) at last.ensures)
