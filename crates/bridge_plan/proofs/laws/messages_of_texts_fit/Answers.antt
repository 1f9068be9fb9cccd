use Rattle.bridge_plan.proofs.SchemaGives.{checked_kinds}
use Rattle.bridge_plan.proofs.BackFits.{back_fits}
use Rattle.bridge_plan.proofs.laws.messages_of_texts_fit.Goals as goal

pub returns : goal.returns
returns c order schema m s i level text b checked at covered is =
    let kinds = checked_kinds schema s i level checked at in
    back_fits c.kinds_in_order_are_writable.ensures order m s level text b kinds.0 kinds.1 covered is
