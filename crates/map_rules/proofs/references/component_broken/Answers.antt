use Rattle.std.proofs.Common.{ap, ◌∙◌}
use Rattle.std.specs.List.{list_any}
use Rattle.map_links.specs.Links.{is_unknown, component_node}
use Rattle.map_rules.specs.Rules.{linked_rules}
use Rattle.map_rules.specs.Verdicts.{first_broken}
use Rattle.map_rules.proofs.references.component_broken.Goals as goal

pub returns : goal.returns
returns c =
    let again = c.is_again-again.ensures c.args.component.now.id c.requires.id in
    let unknown = c.is_any_unknown-unknown.ensures ∙ ap (list_any (is_unknown c.args.ids.now)) c.as_slice.ensures in
    let endless = c.is_endless-endless.ensures (component_node c.args.count c.args.ids.now c.args.component.now) c.requires.node in
    c.first_linked.ensures ∙ (λ j. first_broken (linked_rules (again j) (unknown j) (endless j)))
