use Rattle.bridge_plan.proofs.SchemaGives.{checked_kinds}
use Rattle.bridge_plan.proofs.Canonical.{fitting_canonical}
use Rattle.bridge_plan.proofs.laws.fitting_blocks_of_item_forms_are_canonical.Goals as goal

pub returns : goal.returns
returns c order schema m s i level block draft checked at covered headed fits forms written =
    let kinds = checked_kinds schema s i level checked at in
    fitting_canonical c.kinds_in_order_are_writable.ensures order m s level block draft kinds.0 kinds.1 covered headed fits forms written
