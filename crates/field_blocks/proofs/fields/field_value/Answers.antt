use Rattle.std.proofs.Common.{sym, ◌∙◌}
use Rattle.field_judge.proofs.Judging.{if_ok}
use Rattle.field_blocks.proofs.Rows.{none_seen, seen_is}
use Rattle.field_blocks.proofs.fields.field_value.Goals as goal

pub returns-in-None : goal.returns-in-None
returns-in-None c = λ levels p k s v found at same is. none_seen c.read_slot.result v c.in-None.is (sym is ∙ c.read_slot.ensures levels p k s found at same)

pub returns-in-Some : goal.returns-in-Some
returns-in-Some c = if_ok c.value.result _ _
    (λ value own levels p k s v found at same is. own ∙ sym (seen_is c.in-Some.read c.read_slot.result v c.in-Some.is (sym is ∙ c.read_slot.ensures levels p k s found at same)))
    c.value.ensures
