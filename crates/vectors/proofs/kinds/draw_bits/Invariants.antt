use Rattle.std.proofs.Common.{◌≡◌, drop}
use Rattle.vectors.specs.Values.{bits_drawn}
use Rattle.vectors.proofs.kinds.draw_bits.Given as goal

abbrev pub invariant-loop-choice : goal.invariant-loop-choice
invariant-loop-choice l = bits_drawn l.bits (drop l.choice-index l.choices) l.words ≡ bits_drawn 0 l.choices l.fn.words
