use Rattle.std.proofs.Common.{◌∷◌, [], ap, ◌∙◌}
use Rattle.std.specs.List.{list_any}
use Rattle.map_types.specs.declared.codes.MCode.TheVariants.{Duplicate, UnknownReference, AmbiguousTag, Limit}
use Rattle.map_links.specs.Links.{is_unknown, message_node}
use Rattle.map_rules.specs.Verdicts.{rule, first_broken}
use Rattle.map_rules.proofs.references.message_broken.Goals as goal

pub returns : goal.returns
returns c =
    let again = c.is_again-again.ensures c.args.message.now.msg_type c.requires.id in
    let unknown = c.is_any_unknown-unknown.ensures ∙ ap (list_any (is_unknown c.args.ids.now)) c.structure_of.ensures in
    let twice = c.in_ok-ambiguous.ensures (message_node c.args.count c.args.ids.now c.args.message.now) c.requires.node in
    let over = c.is_over_limit-over_limit.ensures (message_node c.args.count c.args.ids.now c.args.message.now) c.requires.node c.requires.ends in
    c.first_broken.ensures ∙ (λ j. first_broken (rule Duplicate (again j) ∷ (rule UnknownReference (unknown j) ∷ (rule AmbiguousTag (twice j) ∷ (rule Limit (over j) ∷ [])))))
