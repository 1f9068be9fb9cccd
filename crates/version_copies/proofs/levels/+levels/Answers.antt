use Rattle.std.proofs.Common.{ap, refl, arith}
use Rattle.sbe_types.specs.declared.schema.Level.{Level, out-Level}
use Rattle.sbe_types.proofs.ListSame.{more_same, whole_same}
use Rattle.version_copies.proofs.LevelParts.{level_is}
use Rattle.version_copies.proofs.levels.+levels.Goals as goal

pub are_same_groups-loop-i-preserved : goal.are_same_groups-loop-i-preserved
are_same_groups-loop-i-preserved t c =
    more_same c.args.a.now c.args.b.now c.loop-i.i c.at.result.now c.at-in-loop-i.result.now c.at.ensures c.at-in-loop-i.ensures
    (c.is_same_group.ensures.0 c.if-not-is_same_group.false) c.loop-i.invariant

pub are_same_groups-returns : goal.are_same_groups-returns
are_same_groups-returns t c = (λ _. whole_same c.args.a.now c.args.b.now c.loop-i.i (omega arith) (omega arith) c.loop-i.invariant, λ _. refl)

pub is_same_level-returns : goal.is_same_level-returns
is_same_level-returns t c = (
  λ yes. level_is c.args.a.now c.args.b.now (c.is_same_head.ensures.0 c.if-not-is_same_head.false) (c.are_same_fields.ensures.0 c.if-not-are_same_fields.false)
      (c.are_same_parts.ensures.0 c.if-not-are_same_parts.false) (c.are_same_groups.ensures.0 yes),
  λ same. c.are_same_groups.ensures.1 (ap (λ (l : Level). (out-Level l).groups) same),
)
