use Rattle.std.proofs.Common.{sym}
use Rattle.map_types.specs.Trees.{members_of}
use Rattle.bridge_mapping.specs.Mapped.{mapping_of}
use Rattle.plan_rows.proofs.Ruling.{turned_ok}
use Rattle.message_plans.proofs.making.templates_by.Goals as goal

pub returns : goal.returns
returns g c =
    turned_ok c.templates_of.result c.templates_of.ensures (λ templates own h. own (mapping_of (members_of c.args.repository.now)) h (sym c.in_ok-messages.ensures))
