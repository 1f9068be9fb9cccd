use Rattle.std.proofs.Common.{arith, ◌∙◌}
use Rattle.json_elements.proofs.Children.{each_more}
use Rattle.sbe_schema.specs.Types.{valid_value}
use Rattle.sbe_schema.proofs.types.read_valid_values.Goals as goal

pub loop-i-preserved : goal.loop-i-preserved
loop-i-preserved c =
    each_more valid_value c.loop-i.values c.push.new.self c.args.items.now c.loop-i.i c.index-items-i.result c.in_ok-valid_value_at.field-0 c.in_ok-push.ensures.ok (omega arith) c.index-items-i.is c.in_ok-valid_value_at.ensures ∙ c.loop-i.invariant
