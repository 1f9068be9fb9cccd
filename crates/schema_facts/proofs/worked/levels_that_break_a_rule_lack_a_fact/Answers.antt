use Rattle.std.proofs.Common.{◌≤◌, arith, refl}
use Rattle.std.specs.Prelude.{[]}
use denote.Hole.Carrier as carrier
use Rattle.sbe_types.specs.declared.schema.Group.TheBlock as block
use Rattle.sbe_types.specs.declared.schema.Level as level
use Rattle.schema_facts.proofs.worked.levels_that_break_a_rule_lack_a_fact.Goals as goal

pub returns-clause-entries : goal.returns-clause-entries
unfolding level.roll-Level level.out-Level carrier.out carrier.roll block.hidden-the_row-Group-0 block.shape-the_row-Group-0 carrier.hidden block.shown-the_row-Group-0 carrier.shown
returns-clause-entries c = λ h. let none : 1 ≤ 0 = h 0 (omega arith) in omega arith

pub returns-clause-names : goal.returns-clause-names
unfolding level.roll-Level level.out-Level carrier.out carrier.roll block.hidden-the_row-Group-0 block.shape-the_row-Group-0 carrier.hidden block.shown-the_row-Group-0 carrier.shown
returns-clause-names c = λ h. h.names_differ 0 1 [] (omega arith) (omega arith) refl

pub returns-clause-block : goal.returns-clause-block
unfolding level.roll-Level level.out-Level carrier.out carrier.roll block.hidden-the_row-Group-0 block.shape-the_row-Group-0 carrier.hidden block.shown-the_row-Group-0 carrier.shown
returns-clause-block c = λ h. let short : 2 ≤ 1 = h.whole in omega arith
