use Rattle.std.proofs.Common.{◌≡◌, List, ◌∙◌, subst}
use Rattle.std.specs.Prelude.{IfOk}
use Rattle.reference_graph.specs.declared.graph.Link.{Link}
use Rattle.reference_graph.specs.declared.graph.Node.{Node}
use Rattle.structure_tags.specs.Reaching.{HasTags}
use Rattle.map_members.specs.Lent.{lent_members}
use Rattle.map_links.specs.Links.{linked}
use Rattle.orchestra_map.specs.Headers.{graph_of, header_links}
use Rattle.orchestra_map.proofs.Gathered.{graph_is}
use Rattle.orchestra_map.proofs.headers.tags_by.Goals as goal

pub returns : goal.returns
returns c =
    let graph : List Node = graph_of (lent_members c.args.fields.now) (linked c.args.components.now c.args.groups.now c.args.messages.now) in
    let is : c.as_slice.result.now ≡ graph = c.as_slice.ensures ∙ (c.in_ok-nodes.ensures ∙ graph_is c.args.fields.now c.args.components.now c.args.groups.now c.args.messages.now c.in_ok-ids.ids c.in_ok-ids.ensures) in
    let links : c.as_slice-2.result.now ≡ header_links (lent_members c.args.components.now) = c.as_slice-2.ensures ∙ c.in_ok-links.ensures in
    subst (λ (ls : List Link). IfOk c.tag_set.result (λ tags. HasTags graph ls tags)) links
    (subst (λ (g : List Node). IfOk c.tag_set.result (λ tags. HasTags g c.as_slice-2.result.now tags)) is c.tag_set.ensures)
