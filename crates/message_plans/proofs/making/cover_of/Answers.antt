use Rattle.std.proofs.Common.{◌∙◌}
use Rattle.plan_rows.proofs.Ruling.{turned_ok}
use Rattle.message_plans.proofs.Covering.{no_message_found, structure_found}
use Rattle.message_plans.proofs.making.cover_of.Goals as goal

pub returns-in-None : goal.returns-in-None
returns-in-None g c = λ m h is. no_message_found m c.args.level.now c.as_slice-kind.result.now c.in_ok-rows.field-0 c.as_slice-kind.ensures (c.in_ok-rows.ensures m is) c.in-None.is

pub returns-in-Some : goal.returns-in-Some
returns-in-Some g c =
    turned_ok c.mapped_cover.result c.mapped_cover.ensures (λ cover own m h is.
    let s = structure_found m c.args.level.now c.as_slice-kind.result.now c.in_ok-rows.field-0 c.in-Some.places c.as_slice-kind.ensures (c.in_ok-rows.ensures m is) c.in-Some.is in
    own m s.0 h (c.as_slice-rows.ensures ∙ s.2) s.1)
