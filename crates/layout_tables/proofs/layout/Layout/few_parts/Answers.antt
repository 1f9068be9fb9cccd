use Rattle.std.proofs.Common.{◌≤◌, subst}
use Rattle.sbe_types.specs.declared.limits.TheConstants.{PART_LIMIT}
use Rattle.layout_tables.specs.Parts.{parts_in_all}
use Rattle.layout_tables.proofs.Told.{few_told}
use Rattle.layout_tables.proofs.layout.Layout.few_parts.Goals as goal

pub returns-clause-few : goal.returns-clause-few
returns-clause-few c = subst (λ s. parts_in_all s c.args.level ≤ PART_LIMIT) c.self.view_is (few_told c.self.inside.schema c.args.level c.self.invariant.checked.counts)
