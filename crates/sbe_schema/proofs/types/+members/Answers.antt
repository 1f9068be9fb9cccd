use Rattle.std.proofs.Common.{arith, sym, subst, ◌∙◌}
use Rattle.json_data.specs.Trees.{data_of, items_of}
use Rattle.json_elements.specs.Reading.{Gives}
use Rattle.json_elements.specs.Elements.{branches}
use Rattle.json_elements.proofs.Children.{each_more, item_within}
use Rattle.json_elements.proofs.Trees.{content_deeper, tree_seen}
use Rattle.sbe_schema.specs.Types.{composite_child, by_member, member_of}
use Rattle.sbe_schema.proofs.types.+members.Goals as goal

pub read_composite-read_members-requires : goal.read_composite-read_members-requires
read_composite-read_members-requires t c = (omega (arith, content_deeper (data_of c.args.element.now) (items_of c.in_ok-children.children.now) c.in_ok-children.ensures), tt)

pub read_members-member_at-requires : goal.read_members-member_at-requires
read_members-member_at-requires t c = (omega (arith, item_within c.args.items.now c.loop-i.i c.index-items-i.result (omega arith) c.index-items-i.is), tt)

pub read_members-loop-i-preserved : goal.read_members-loop-i-preserved
read_members-loop-i-preserved t c =
    each_more member_of c.loop-i.members c.push.new.self c.args.items.now c.loop-i.i c.index-items-i.result c.in_ok-member_at.field-0 c.in_ok-push.ensures.ok (omega arith) c.index-items-i.is c.in_ok-member_at.ensures ∙ c.loop-i.invariant

pub read_member-returns-in-Some : goal.read_member-returns-in-Some
read_member-returns-in-Some t c =
    let read = subst (λ n. Gives c.read_named_member.result (composite_child n (data_of c.in-Some.element.now) (branches by_member (data_of c.in-Some.element.now)))) c.of.ensures c.read_named_member.ensures in
    subst (Gives c.read_named_member.result) (sym (tree_seen by_member (data_of c.args.item.now) (data_of c.in-Some.element.now) c.in-Some.name.now (sym c.in-Some.ensures))) read
