-- How large the counts of a rewritten message may be. Own profile.
use Rattle.std.specs.Prelude.{ℕ, suc, ◌*◌, Option, List}
use Rattle.std.specs.List.{AllByRecursion}
use Rattle.sbe_types.specs.declared.limits.TheConstants.{PART_LIMIT}
use Rattle.sbe_types.specs.declared.kind.Member.{Member}
use Rattle.sbe_types.specs.declared.schema.Level.{Level}
use Rattle.schema_facts.specs.CheckedLevels.{HasFewParts}
use Rattle.schema_facts.specs.Levels.{nodes}

-- each level, this one and those of the groups below it, has at most as many parts as the limit
pub record HasFewThroughout (level : Level) : Type 0 where
  pub template : ℕ
  pub dim : Option (List Member)
  pub each : AllByRecursion (λ node. HasFewParts node.level) (nodes template dim level)

-- the most parts of a message with this many entries
abbrev pub most_among : ℕ → ℕ
most_among entries = PART_LIMIT * suc entries
