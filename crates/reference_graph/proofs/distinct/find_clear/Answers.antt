use Rattle.std.proofs.Common.{◌+◌, ◌≤◌, List, Option, ℕ, arith, subst}
use Rattle.std.proofs.lemmas.Bool.Decides.{nat_tests}
use Rattle.reference_graph.specs.Marking.{Passed}
use Rattle.reference_graph.proofs.Passes.{clear_none, clear_more, clear_below}
use Rattle.reference_graph.proofs.distinct.find_clear.Goals as goal

pub passes-preserved : goal.passes-preserved
passes-preserved c = (
  grind (arith, nat_tests, c.passes-test.true),
  clear_more c.args.nodes.now c.passes.first c.passes.words.items c.in_ok-words-2.words.items c.passes.invariant.1
      (subst (λ (ws : List (Option ℕ)). Passed c.args.nodes.now c.passes.first ws c.in_ok-words-2.words.items) c.as_slice.ensures.value c.in_ok-words-2.ensures),
)

pub returns : goal.returns
returns c =
    let past : c.args.last + 1 ≤ c.passes.first = grind (arith, nat_tests, c.passes-test.false) in
    clear_below c.args.nodes.now c.passes.first (c.args.last + 1) c.passes.words.items past c.passes.invariant.1
