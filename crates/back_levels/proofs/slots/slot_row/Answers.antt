use Rattle.std.proofs.Common.{subst}
use Rattle.sbe_types.specs.declared.schema.Level.{out-Level}
use Rattle.bridge_plan.specs.Covers.{data_slot, field_slot}
use Rattle.back_levels.specs.Found.{IsFound}
use Rattle.back_levels.proofs.Fronts.{data_second, field_first}
use Rattle.back_levels.proofs.slots.slot_row.Goals as goal

pub returns-in-Nothing : goal.returns-in-Nothing
returns-in-Nothing c = λ m h.
    let tag = c.args.tag in
    let level = c.args.level.now in
    data_second (field_slot m tag 0 (out-Level level).fields) (data_slot m tag 0 (out-Level level).parts) c.data_found.result
    (subst (IsFound (field_slot m tag 0 (out-Level level).fields)) c.in-Nothing.is (c.in_ok-field_found.ensures m h)) (c.data_found.ensures m h)

pub returns-in-Row : goal.returns-in-Row
returns-in-Row c = λ m h.
    let tag = c.args.tag in
    let level = c.args.level.now in
    field_first (field_slot m tag 0 (out-Level level).fields) (data_slot m tag 0 (out-Level level).parts) c.in-Row.row
    (subst (IsFound (field_slot m tag 0 (out-Level level).fields)) c.in-Row.is (c.in_ok-field_found.ensures m h))
