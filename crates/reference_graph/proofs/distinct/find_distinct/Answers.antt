use Rattle.std.proofs.Common.{◌+◌, ◌∙◌, List, subst}
use Rattle.reference_graph.specs.declared.graph.Node.{Node}
use Rattle.reference_graph.specs.Marking.{AreClear}
use Rattle.reference_graph.proofs.Passes.{distinct_by}
use Rattle.reference_graph.proofs.distinct.find_distinct.Goals as goal

pub returns : goal.returns
returns c =
    distinct_by c.last_number-last.result c.in_ok-tags.tags c.args.nodes.now c.in_ok-words.words.items
    (subst (λ (ns : List Node). AreClear ns (c.last_number-last.result + 1) c.in_ok-words.words.items) (c.as_slice.ensures ∙ c.in_ok-numbered.ensures) c.in_ok-words.ensures)
