use Rattle.std.proofs.Common.{subst}
use Rattle.sbe_types.specs.declared.schema.Level.{out-Level}
use Rattle.bridge_plan.specs.Covers.{data_slot, field_slot}
use Rattle.plan_rows.specs.Found.{IsFound}
use Rattle.plan_rows.proofs.Fronts.{data_second, field_first}
use Rattle.plan_rows.proofs.slots.slot_row.Goals as goal

pub returns-in-Nothing : goal.returns-in-Nothing
returns-in-Nothing g c = λ m h.
    let tag = c.args.tag in
    let level = c.args.level.now in
    let follows = g.R.RuleRow.follows_rule in
    data_second follows m.lists (field_slot m tag 0 (out-Level level).fields) (data_slot m tag 0 (out-Level level).parts) c.data_found.result
    (subst (IsFound follows m.lists (field_slot m tag 0 (out-Level level).fields)) c.in-Nothing.is (c.in_ok-field_found.ensures m h)) (c.data_found.ensures m h)

pub returns-in-Row : goal.returns-in-Row
returns-in-Row g c = λ m h.
    let tag = c.args.tag in
    let level = c.args.level.now in
    let follows = g.R.RuleRow.follows_rule in
    field_first follows m.lists (field_slot m tag 0 (out-Level level).fields) (data_slot m tag 0 (out-Level level).parts) c.in-Row.row
    (subst (IsFound follows m.lists (field_slot m tag 0 (out-Level level).fields)) c.in-Row.is (c.in_ok-field_found.ensures m h))
