use Rattle.sbe_types.specs.declared.message.GroupVal.{items_hidden-the_row-Block-1}
use denote.Hole.Carrier as carrier
use Rattle.sbe_types.specs.declared.schema.Level as level
use Rattle.version_laws.specs.Projected.{projected_block, projected_groups, projected_group, lifted_block, lifted_groups, lifted_group}
use Rattle.version_laws.proofs.worked.entries_are_projected.Goals as goal

pub returns : goal.returns
unfolding projected_block projected_groups projected_group lifted_block lifted_groups lifted_group level.out-Level carrier.out
returns c = simp items_hidden-the_row-Block-1
