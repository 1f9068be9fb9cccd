use Rattle.std.proofs.Common.{sym, ◌∙◌}
use Rattle.sbe_types.specs.declared.message.Block.{out-Block}
use Rattle.value_texts.proofs.Members.{members_are, no_members, same_members, seen_there}
use Rattle.value_texts.proofs.composite.members_at.Goals as goal

pub comp-requires-clause-composite : goal.comp-requires-clause-composite
comp-requires-clause-composite c = seen_there c.field-found.result _ _ (sym c.is_composite.ensures ∙ c.if-is_composite.true) c.field-found.ensures.kind c.field-found.ensures.shows

pub returns-then-is_composite-clause-members : goal.returns-then-is_composite-clause-members
returns-then-is_composite-clause-members c = members_are _ c.args.number (out-Block c.args.block.now.block).fields c.comp.result c.comp.ensures

pub returns-then-is_composite-clause-same : goal.returns-then-is_composite-clause-same
returns-then-is_composite-clause-same c =
    same_members c.field-found.result _ _ c.comp.result (sym c.is_composite.ensures ∙ c.if-is_composite.true) c.field-found.ensures.kind c.field-found.ensures.shows c.comp.ensures

pub returns-clause-members : goal.returns-clause-members
returns-clause-members c =
    no_members c.field-found.result c.args.number (out-Block c.args.block.now.block).fields (sym c.is_composite.ensures ∙ c.if-is_composite.false) c.field-found.ensures.shows c.field-found.ensures.absent
