use Rattle.std.proofs.Common.{◌<◌, ap, refl, length, arith}
use Rattle.schema_facts.specs.Levels.{groups_at}
use Rattle.layout_tables.proofs.GroupWalk.{groups_begin, groups_go, group_within}
use Rattle.layout_tables.proofs.LeastRows.{least_more}
use Rattle.layout_tables.proofs.Small.{row_small}
use Rattle.layout_tables.proofs.layout.Layout.groups_least.Goals as goal

pub loop-init : goal.loop-init
loop-init c = record {
  walk = groups_begin c.args.self.now c.args.level c.requires;
  least = refl;
  small = omega arith;
}

pub row-row-requires : goal.row-row-requires
row-row-requires c =
    let within : c.loop.counter < length (groups_at c.args.self.now c.args.level) = omega (arith, ap (λ p. p.0) c.few_parts-count.ensures.are) in
    group_within c.args.self.now c.args.level c.loop.counter c.loop.child c.loop.invariant.walk within

pub loop-preserved : goal.loop-preserved
loop-preserved c =
    let within : c.loop.counter < length (groups_at c.args.self.now c.args.level) = omega (arith, ap (λ p. p.0) c.few_parts-count.ensures.are) in
    record {
      walk = groups_go c.args.self.now c.args.level c.loop.counter c.loop.child c.row-row.result.now c.loop.invariant.walk within c.row-row.ensures;
      least = least_more c.args.self.now c.args.level c.loop.counter c.loop.child c.args.version c.loop.least _ c.row-row.result.now c.loop.invariant.walk within c.row-row.ensures c.loop.invariant.least (omega (arith, c.dim_least-least.ensures));
      small = omega (arith, c.loop.invariant.small, row_small c.args.self.now c.loop.child c.args.version c.row-row.result.now c.schema-schema.ensures.order.measured c.row-row.ensures, c.dim_least-least.ensures);
    }

pub overflow_add-least : goal.overflow_add-least
overflow_add-least c =
    omega (
      arith,
      c.loop.invariant.small,
      row_small c.args.self.now c.loop.child c.args.version c.row-row.result.now c.schema-schema.ensures.order.measured c.row-row.ensures,
      c.dim_least-least.ensures,
      c.few_parts-count.ensures.few,
      ap (λ p. p.0) c.few_parts-count.ensures.are,
    )
