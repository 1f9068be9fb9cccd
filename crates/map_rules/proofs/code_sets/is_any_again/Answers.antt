use Rattle.std.proofs.Common.{ap, ◌∙◌}
use Rattle.std.specs.Prelude.{◌||◌}
use Rattle.map_rules.proofs.Again.{again_next}
use Rattle.map_rules.proofs.code_sets.is_any_again.Goals as goal

pub loop-i-preserved : goal.loop-i-preserved
loop-i-preserved c =
    again_next c.args.table.now c.loop-i.i c.loop-i.again c.either-again.result c.loop-i.invariant (c.either-again.ensures ∙ ap (λ b. b || c.loop-i.again) c.is_again_at.ensures)
