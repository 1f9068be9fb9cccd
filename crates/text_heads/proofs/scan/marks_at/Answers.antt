use Rattle.std.proofs.lemmas.Simd.{length-chunk}
use Rattle.tagvalue_codec.proofs.Lists.{marks_compared}
use Rattle.text_heads.proofs.scan.marks_at.Goals as goal

pub returns : goal.returns
returns c = marks_compared _ (length-chunk c.args.i 16 c.args.bytes.now c.requires)
