use Rattle.std.proofs.Common.{ap, ◌∙◌}
use Rattle.map_members.specs.Lent.{lent_members}
use Rattle.map_rules.proofs.Gathering.{of_items}
use Rattle.map_rules.proofs.verdict.judge_items.Goals as goal

pub returns : goal.returns
returns c =
    of_items c.args.items.now c.judge_by_ids.result c.args.tables.now (lent_members c.args.fields.now) c.as_slice.result.now c.as_slice-2.result.now c.as_slice-3.result.now
    (ap lent_members c.as_slice.ensures.value ∙ c.in_ok-components.ensures) (ap lent_members c.as_slice-2.ensures.value ∙ c.in_ok-groups.ensures) (ap lent_members c.as_slice-3.ensures.value ∙ c.in_ok-messages.ensures) c.judge_by_ids.ensures
