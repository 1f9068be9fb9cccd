use Rattle.typed_writer.specs.States.{level_of}
use Rattle.tree_codec.proofs.PutParts.{PartsAt}
use Rattle.tree_codec.proofs.puts.put_parts.Given as goal

abbrev pub invariant-loop-i : goal.invariant-loop-i
invariant-loop-i l = PartsAt l.layout (level_of l.fn.buf.frames) l.level l.block l.i l.fn.buf l.buf
