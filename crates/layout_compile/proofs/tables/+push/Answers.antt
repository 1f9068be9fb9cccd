use Rattle.std.proofs.Common.{◌≡◌, length, ap, arith, subst, sym}
use Rattle.std.specs.Prelude.{flat_map}
use Rattle.sbe_types.specs.declared.schema.Level.{out-Level}
use Rattle.schema_facts.specs.Levels.{nodes_of}
use Rattle.layout_compile.specs.inner.Grown.{Grown, LevelIs, AreOrdered}
use Rattle.layout_compile.proofs.Grows.{below_more, group_measured, long_level, fewer}
use Rattle.layout_compile.proofs.tables.+push.Goals as goal

pub push_level-push_below-requires : goal.push_level-push_below-requires
push_level-push_below-requires t c = (
  omega (arith, long_level c.args.around.template c.args.level.now, ap (λ gs. length (flat_map (nodes_of c.args.around.template) gs)) c.as_slice.ensures),
  subst (λ gs. AreOrdered (flat_map (nodes_of c.args.around.template) gs)) (sym c.as_slice.ensures) c.requires.below,
)

pub push_below-push_level-requires : goal.push_below-push_level-requires
push_below-push_level-requires t c =
    let here = group_measured c.args.template c.args.groups.now c.loop-group.group-index c.group-item.result (omega arith) c.group-item.is c.loop-group.invariant.measured in
    (omega (arith, fewer c.args.template c.args.groups.now c.loop-group.group-index c.group-item.result (omega arith) c.group-item.is), (here.0.measured.fields, (here.0.kinds, here.1)))

pub push_below-dim_row-requires : goal.push_below-dim_row-requires
push_below-dim_row-requires t c =
    (group_measured c.args.template c.args.groups.now c.loop-group.group-index c.group-item.result (omega arith) c.group-item.is c.loop-group.invariant.measured).0.measured.dim

pub push_below-loop-group-preserved : goal.push_below-loop-group-preserved
push_below-loop-group-preserved t c =
    let here = group_measured c.args.template c.args.groups.now c.loop-group.group-index c.group-item.result (omega arith) c.group-item.is c.loop-group.invariant.measured in
    record {
      grown = below_more _ c.args.levels.now.items c.loop-group.levels.items c.push_level.new.levels.items c.args.groups.now c.loop-group.group-index c.group-item.result
          (omega arith) c.group-item.is c.dim_row.ensures c.loop-group.invariant.grown c.in_ok-push_level.ensures;
      measured = here.2;
    }

pub push_level-returns : goal.push_level-returns
push_level-returns t c =
    let here : c.len.result ≡ length c.args.levels.now.items = omega (arith, c.len.ensures) in
    record {
      row = c.in_ok-row.row;
      this = subst (λ n. LevelIs c.args.around n c.args.level.now c.in_ok-row.row) here c.in_ok-row.ensures;
      below = subst (λ ls. Grown ls c.push_below.new.levels.items (flat_map (nodes_of c.args.around.template) (out-Level c.args.level.now).groups)) c.in_ok-push.ensures.items
          (subst (λ gs. Grown c.push.new.self.items c.push_below.new.levels.items (flat_map (nodes_of c.args.around.template) gs)) c.as_slice.ensures c.in_ok-push_below.ensures);
    }
