use Rattle.std.proofs.Common.{◌≡◌}
use Rattle.tagvalue_codec.specs.declared.write.Phase.TheVariants.{Open}
use Rattle.test_bridge.proofs.texts.write_fields.Given as goal

abbrev pub invariant-loop : goal.invariant-loop
invariant-loop l = l.writer.phase ≡ Open
