use Rattle.std.proofs.Common.{subst}
use Rattle.plan_rows.proofs.Ruling.{turned_ok}
use Rattle.message_plans.specs.Plans.{IsCover}
use Rattle.sbe_translation.specs.Plans.{IsAny}
use Rattle.sbe_translation.proofs.Planning.{none_mapped, part_unmapped}
use Rattle.sbe_translation.proofs.trees.tree_of.Goals as goal

pub returns-in-NoMessage : goal.returns-in-NoMessage
returns-in-NoMessage c = λ m tables messages is all p at.
    none_mapped m c.args.level.now (subst (IsCover IsAny m c.args.level.now) c.in-NoMessage.is is) p at

pub returns-in-Unmapped : goal.returns-in-Unmapped
returns-in-Unmapped c = λ m tables messages is all p at.
    part_unmapped m c.args.level.now _ (subst (IsCover IsAny m c.args.level.now) c.in-Unmapped.is is) p at

pub returns-in-Mapped : goal.returns-in-Mapped
returns-in-Mapped c = turned_ok c.mapped_tree.result c.mapped_tree.ensures (λ tree own m tables messages is all.
    let mapped = subst (IsCover IsAny m c.args.level.now) c.in-Mapped.is is in
    own m mapped.structure tables messages mapped.mapped (all mapped.structure mapped.mapped mapped.covered))
