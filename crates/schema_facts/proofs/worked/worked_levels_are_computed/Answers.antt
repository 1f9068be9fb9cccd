use Rattle.std.proofs.Common.{refl}
use denote.Hole.Carrier as carrier
use Rattle.sbe_types.specs.declared.schema.Group as group
use Rattle.sbe_types.specs.declared.schema.Group.TheBlock as block
use Rattle.sbe_types.specs.declared.schema.Level as level
use Rattle.schema_facts.specs.CheckedLevels.{groups_deep, row_deep, group_deep}
use Rattle.schema_facts.specs.Levels.{nodes, nodes_below, nodes_of}
use Rattle.schema_facts.proofs.worked.worked_levels_are_computed.Goals as goal

pub returns-clause-levels : goal.returns-clause-levels
unfolding nodes nodes_below nodes_of level.roll-Level group.roll-Group carrier.roll block.hidden-the_row-Group-0 block.shape-the_row-Group-0 carrier.hidden
returns-clause-levels c = refl

pub returns-clause-names : goal.returns-clause-names
unfolding level.roll-Level group.roll-Group level.out-Level group.out-Group carrier.out carrier.roll block.hidden-the_row-Group-0 block.shape-the_row-Group-0 carrier.hidden block.shown-the_row-Group-0 carrier.shown
returns-clause-names c = refl

pub returns-clause-deep : goal.returns-clause-deep
unfolding groups_deep row_deep group_deep level.roll-Level group.roll-Group carrier.roll block.hidden-the_row-Group-0 block.shape-the_row-Group-0 carrier.hidden
returns-clause-deep c = refl

pub returns-clause-least : goal.returns-clause-least
unfolding level.roll-Level group.roll-Group level.out-Level group.out-Group carrier.out carrier.roll block.hidden-the_row-Group-0 block.shape-the_row-Group-0 carrier.hidden block.shown-the_row-Group-0 carrier.shown
returns-clause-least c = refl
