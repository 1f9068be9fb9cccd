use Rattle.layout_compile.proofs.DataParts.{pushed}
use Rattle.layout_compile.proofs.numbers.push_places.Goals as goal

pub loop-part-preserved : goal.loop-part-preserved
loop-part-preserved c = pushed c.args.places.now.items c.loop-part.places.items c.push.new.self.items c.args.level c.loop-part.part c.loop-part.invariant c.in_ok-push.ensures.items
