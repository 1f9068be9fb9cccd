-- The check of a level, over the list of its parts.
use Rattle.std.specs.Prelude.{false, Ok, Err}
use Rattle.sbe_types.specs.declared.tree.GroupEl.{GroupEl}
use Rattle.schema_rules.specs.declared.codes.PartClass.TheVariants as class
use Rattle.schema_rules.specs.declared.levels.LevelFacts.{LevelFacts}
use Rattle.schema_rules.specs.Judging.{CheckResult, ◌>>=◌, first_of}
use Rattle.schema_rules.specs.Kinds.{members_named}
use Rattle.schema_rules.specs.PartRules.{Scope, PartsBefore, no_part, entries_level, part_rules, dimension_rules, group_rules, parts_check}

-- what is known of a level whose parts were checked
abbrev pub level_of : CheckResult PartsBefore → CheckResult LevelFacts
level_of (Ok parts) = Ok parts.all
level_of (Err e) = Err e

-- the check of a group, over the list of its parts
abbrev pub group_check : Scope → PartsBefore → GroupEl → CheckResult (Unit {0})
group_check scope before g = do
  _ ← first_of (dimension_rules scope.types g.dimension_type)
  _ ← first_of (part_rules scope.level before g.name (record { class = class.Group; since = g.since_version; is_fixed = false }))
  all ← level_of (parts_check (record { types = scope.types; level = entries_level scope.level g.since_version }) no_part g.children)
  first_of (group_rules scope.level.around (members_named scope.types g.dimension_type) g.block_length all)
