use Rattle.std.proofs.Common.{◌≡◌, ap, ◌∙◌}
use Rattle.std.specs.Prelude.{IfOk}
use Rattle.map_types.specs.Trees.{members_of}
use Rattle.map_members.specs.Lent.{lent_members}
use Rattle.orchestra_map.proofs.Gathered.{of_slices, to_slices}
use Rattle.bridge_mapping.specs.Mapped.{structures_of}
use Rattle.bridge_mapping.specs.Tables.{structures_in, HasWhole}
use Rattle.bridge_mapping.proofs.Whole.{kept_whole}
use Rattle.bridge_mapping.proofs.messages.MessageTable.new.Goals as goal

pub table_of-requires : goal.table_of-requires
table_of-requires c = record {
  whole =
      to_slices c.as_slice.result.now c.as_slice-2.result.now c.as_slice-3.result.now c.as_slice-4.result.now c.args.repository.now.children c.as_slice-items.result.now c.as_slice-items.ensures
      (ap lent_members c.as_slice.ensures.value ∙ c.in_ok-fields.ensures) (ap lent_members c.as_slice-2.ensures.value ∙ c.in_ok-components.ensures)
      (ap lent_members c.as_slice-3.ensures.value ∙ c.in_ok-groups.ensures) (ap lent_members c.as_slice-4.ensures.value ∙ c.in_ok-messages.ensures)
      HasWhole (kept_whole (members_of c.args.repository.now) c.requires);
}

pub returns : goal.returns
returns c =
    of_slices c.as_slice.result.now c.as_slice-2.result.now c.as_slice-3.result.now c.as_slice-4.result.now c.args.repository.now.children c.as_slice-items.result.now c.as_slice-items.ensures
    (ap lent_members c.as_slice.ensures.value ∙ c.in_ok-fields.ensures) (ap lent_members c.as_slice-2.ensures.value ∙ c.in_ok-components.ensures)
    (ap lent_members c.as_slice-3.ensures.value ∙ c.in_ok-groups.ensures) (ap lent_members c.as_slice-4.ensures.value ∙ c.in_ok-messages.ensures)
    (λ fields m. IfOk c.table_of.result (λ table. structures_in table ≡ structures_of fields m)) c.table_of.ensures
