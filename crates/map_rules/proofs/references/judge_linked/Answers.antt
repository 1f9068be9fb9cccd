use Rattle.std.proofs.Common.{subst, ◌∙◌, sym, length}
use Rattle.map_members.proofs.Lent.{as_many}
use Rattle.map_links.specs.Links.{linked, nodes_of}
use Rattle.map_rules.specs.Verdicts.{Answers}
use Rattle.map_rules.specs.Rules.{graph_verdict}
use Rattle.map_rules.proofs.references.judge_linked.Goals as goal

pub returns : goal.returns
returns c =
    subst (λ n. Answers c.judge_by.result (graph_verdict n c.args.ids.now (nodes_of n c.args.ids.now (linked c.args.components.now c.args.groups.now c.args.messages.now)) (linked c.args.components.now c.args.groups.now c.args.messages.now)))
    (sym (as_many c.args.components.now))
    (subst (λ graph. Answers c.judge_by.result (graph_verdict (length c.args.components.now) c.args.ids.now graph (linked c.args.components.now c.args.groups.now c.args.messages.now)))
    (c.in_ok-structures.ensures ∙ c.in_ok-nodes.ensures) c.judge_by.ensures)
