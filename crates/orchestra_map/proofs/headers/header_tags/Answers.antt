use Rattle.std.proofs.Common.{ap, ◌∙◌}
use Rattle.std.specs.Prelude.{IfOk}
use Rattle.reference_graph.specs.Graphs.{Ends}
use Rattle.structure_tags.specs.Reaching.{HasTags}
use Rattle.map_types.specs.Trees.{members_of}
use Rattle.map_members.specs.Lent.{lent_members}
use Rattle.orchestra_map.specs.Headers.{graph_of, header_links}
use Rattle.orchestra_map.proofs.Gathered.{of_slices, to_slices}
use Rattle.orchestra_map.proofs.HeaderEnds.{header_ends}
use Rattle.orchestra_map.proofs.headers.header_tags.Goals as goal

pub tags_by-requires : goal.tags_by-requires
tags_by-requires c = record {
  ends =
      to_slices c.as_slice.result.now c.as_slice-2.result.now c.as_slice-3.result.now c.as_slice-4.result.now c.args.repository.now.children c.as_slice-items.result.now c.as_slice-items.ensures
      (ap lent_members c.as_slice.ensures.value ∙ c.in_ok-fields.ensures) (ap lent_members c.as_slice-2.ensures.value ∙ c.in_ok-components.ensures)
      (ap lent_members c.as_slice-3.ensures.value ∙ c.in_ok-groups.ensures) (ap lent_members c.as_slice-4.ensures.value ∙ c.in_ok-messages.ensures)
      (λ fields m. Ends (graph_of fields m) (header_links m.components)) (header_ends (members_of c.args.repository.now) c.requires);
}

pub returns : goal.returns
returns c =
    of_slices c.as_slice.result.now c.as_slice-2.result.now c.as_slice-3.result.now c.as_slice-4.result.now c.args.repository.now.children c.as_slice-items.result.now c.as_slice-items.ensures
    (ap lent_members c.as_slice.ensures.value ∙ c.in_ok-fields.ensures) (ap lent_members c.as_slice-2.ensures.value ∙ c.in_ok-components.ensures)
    (ap lent_members c.as_slice-3.ensures.value ∙ c.in_ok-groups.ensures) (ap lent_members c.as_slice-4.ensures.value ∙ c.in_ok-messages.ensures)
    (λ fields m. IfOk c.tags_by.result (λ tags. HasTags (graph_of fields m) (header_links m.components) tags)) c.tags_by.ensures
