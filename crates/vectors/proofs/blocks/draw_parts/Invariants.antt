use Rattle.std.proofs.Common.{◌≡◌, drop}
use Rattle.vectors.specs.Drawing.{each}
use Rattle.vectors.specs.Messages.{part_drawn}
use Rattle.vectors.proofs.Gathering.{gathered}
use Rattle.vectors.proofs.blocks.draw_parts.Given as goal

abbrev pub invariant-loop-part : goal.invariant-loop-part
invariant-loop-part l = gathered l.values (each part_drawn (drop l.part-index l.parts) l.words) ≡ each part_drawn l.parts l.fn.words
