use Rattle.std.proofs.Common.{sym, ap, ◌∙◌}
use Rattle.std.specs.Prelude.{slice_get}
use Rattle.regrade_laws.proofs.Fit.{few_below}
use Rattle.regrade.proofs.Whole.{shallow_there}
use Rattle.regrade.proofs.regrading.fill.Goals as goal

pub fill_block-requires-clause-few : goal.fill_block-requires-clause-few
fill_block-requires-clause-few c =
    few_below c.args.to.now c.args.moved.template c.at.result.now c.schema-schema.ensures.order (ap (λ ms. slice_get ms c.args.moved.template) (sym c.messages-2.ensures) ∙ c.at.ensures)

pub fill_block-requires-clause-shallow : goal.fill_block-requires-clause-shallow
fill_block-requires-clause-shallow c =
    shallow_there c.args.to.now c.args.moved.template c.at.result.now c.schema-schema.ensures.order (ap (λ ms. slice_get ms c.args.moved.template) (sym c.messages-2.ensures) ∙ c.at.ensures)
