use Rattle.std.proofs.Common.{◌≡◌, drop}
use Rattle.vectors.specs.Drawing.{each}
use Rattle.vectors.specs.Messages.{field_drawn}
use Rattle.vectors.proofs.Gathering.{gathered}
use Rattle.vectors.proofs.blocks.draw_fields.Given as goal

abbrev pub invariant-loop-field : goal.invariant-loop-field
invariant-loop-field l = gathered l.values (each field_drawn (drop l.field-index l.fields) l.words) ≡ each field_drawn l.fields l.fn.words
