use Rattle.std.proofs.Common.{arith, sym, subst, ◌∙◌}
use Rattle.json_data.specs.Trees.{data_of, items_of}
use Rattle.json_elements.specs.Reading.{Gives}
use Rattle.json_elements.specs.Elements.{branches}
use Rattle.json_elements.proofs.Children.{each_more, item_within}
use Rattle.json_elements.proofs.Trees.{content_deeper, tree_seen}
use Rattle.sbe_schema.specs.Messages.{part_child, by_part, part_of}
use Rattle.sbe_schema.proofs.message.+parts.Goals as goal

pub read_group-read_parts-requires : goal.read_group-read_parts-requires
read_group-read_parts-requires t c = (omega (arith, content_deeper (data_of c.args.element.now) (items_of c.in_ok-children.children.now) c.in_ok-children.ensures), tt)

pub read_parts-part_at-requires : goal.read_parts-part_at-requires
read_parts-part_at-requires t c = (omega (arith, item_within c.args.items.now c.loop-i.i c.index-items-i.result (omega arith) c.index-items-i.is), tt)

pub read_parts-loop-i-preserved : goal.read_parts-loop-i-preserved
read_parts-loop-i-preserved t c =
    each_more part_of c.loop-i.parts c.push.new.self c.args.items.now c.loop-i.i c.index-items-i.result c.in_ok-part_at.field-0 c.in_ok-push.ensures.ok (omega arith) c.index-items-i.is c.in_ok-part_at.ensures ∙ c.loop-i.invariant

pub read_part-returns-in-Some : goal.read_part-returns-in-Some
read_part-returns-in-Some t c =
    let read = subst (λ n. Gives c.read_named_part.result (part_child n (data_of c.in-Some.element.now) (branches by_part (data_of c.in-Some.element.now)))) c.of.ensures c.read_named_part.ensures in
    subst (Gives c.read_named_part.result) (sym (tree_seen by_part (data_of c.args.item.now) (data_of c.in-Some.element.now) c.in-Some.name.now (sym c.in-Some.ensures))) read
