use Rattle.std.proofs.Common.{sym, ◌∙◌}
use Rattle.bridge_terms.specs.Plans.{owns}
use Rattle.field_judge.specs.Fields.{fields_of}
use Rattle.field_judge.specs.Levels.{owned_by}
use Rattle.field_judge.proofs.RunLemmas.{group_owns, no_run, same_run, value_owns}
use Rattle.field_judge.proofs.runs.run_len.Goals as goal

pub returns-in-Value-clause-run : goal.returns-in-Value-clause-run
returns-in-Value-clause-run c = λ levels p is. sym (no_run (owns p) c.args.row.now.tag (value_owns levels p c.args.row.now c.in-Value.field-0 is c.in-Value.is) (fields_of c.args.fields.now)).0

pub returns-in-Value-clause-rest : goal.returns-in-Value-clause-rest
returns-in-Value-clause-rest c = λ levels p is. sym (no_run (owns p) c.args.row.now.tag (value_owns levels p c.args.row.now c.in-Value.field-0 is c.in-Value.is) (fields_of c.args.fields.now)).1

pub returns-in-Group-clause-run : goal.returns-in-Group-clause-run
returns-in-Group-clause-run c = λ levels p is.
    c.owned_len.ensures.run ∙ sym (same_run (owns p) (owned_by c.in-Group.group.owned) c.args.row.now.tag 0 (group_owns levels p c.args.row.now c.in-Group.group is c.in-Group.is) (fields_of c.args.fields.now)).0

pub returns-in-Group-clause-rest : goal.returns-in-Group-clause-rest
returns-in-Group-clause-rest c = λ levels p is.
    c.owned_len.ensures.rest ∙ sym (same_run (owns p) (owned_by c.in-Group.group.owned) c.args.row.now.tag 0 (group_owns levels p c.args.row.now c.in-Group.group is c.in-Group.is) (fields_of c.args.fields.now)).1
