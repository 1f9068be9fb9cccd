use Rattle.std.proofs.Common.{Some, sym, ap, ◌∙◌}
use Rattle.bridge_cover.specs.Parts.{outermost_first}
use Rattle.bridge_cover.proofs.walk.uncovered.Goals as goal

pub returns-in-None : goal.returns-in-None
returns-in-None c = λ m s tables is. ap outermost_first (sym c.in-None.is) ∙ c.in_ok-level_uncovered.ensures m s tables is

pub returns-in_ok-reversed-in-Some : goal.returns-in_ok-reversed-in-Some
returns-in_ok-reversed-in-Some c = λ m s tables is. ap Some c.in_ok-reversed-in-Some.ensures ∙ ap outermost_first (sym c.in-Some.is)
    ∙ c.in_ok-level_uncovered.ensures m s tables is
