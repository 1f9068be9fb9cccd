use Rattle.std.proofs.Common.{◌∙◌}
use Rattle.regrade.proofs.FillValues.{leaf_filled, enum_is, set_is, const_is, comp_is}
use Rattle.regrade.proofs.fills.+fill.Goals as goal

pub fill_of-returns-in-Enum : goal.fill_of-returns-in-Enum
fill_of-returns-in-Enum t c = enum_is c.args.kind.now c.in-Enum.leaf c.in-Enum.field-1 c.enum_fill.result c.in-Enum.is c.enum_fill.ensures

pub fill_of-returns-in-Set : goal.fill_of-returns-in-Set
fill_of-returns-in-Set t c = set_is c.args.kind.now c.in-Set.field-0 c.in-Set.field-1 c.in-Set.is

pub fill_of-returns-in_ok-member_fills-in-Comp : goal.fill_of-returns-in_ok-member_fills-in-Comp
fill_of-returns-in_ok-member_fills-in-Comp t c = c.composite_of.ensures ∙ comp_is c.args.kind.now c.in-Comp.members _ c.in-Comp.is c.in_ok-member_fills-in-Comp.ensures

pub fill_of-returns-in-Const : goal.fill_of-returns-in-Const
fill_of-returns-in-Const t c = const_is c.args.kind.now c.in-Const.field-0 c.in-Const.is

pub fill_of-returns-in-Leaf : goal.fill_of-returns-in-Leaf
fill_of-returns-in-Leaf t c = leaf_filled c.args.kind.now c.in-Leaf.leaf c.leaf_fill.result c.in-Leaf.is c.leaf_fill.ensures
