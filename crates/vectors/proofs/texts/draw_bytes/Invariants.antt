use Rattle.std.proofs.Common.{◌≡◌, ◌-◌}
use Rattle.vectors.specs.Drawing.{times}
use Rattle.vectors.specs.Values.{text_byte_drawn}
use Rattle.vectors.proofs.Gathering.{gathered}
use Rattle.vectors.proofs.texts.draw_bytes.Given as goal

abbrev pub invariant-loop : goal.invariant-loop
invariant-loop l = gathered l.bytes (times (l.count - l.counter) (text_byte_drawn l.leaf) l.words) ≡ times l.count (text_byte_drawn l.leaf) l.fn.words
