use Rattle.std.proofs.Common.{◌≡◌, ◌≤◌, ◌*◌, take}
use Rattle.sbe_types.specs.declared.limits.TheConstants.{PLACE_LIMIT}
use Rattle.schema_facts.specs.Entries.{groups_least}
use Rattle.schema_facts.specs.Levels.{groups_at}
use Rattle.layout_tables.proofs.GroupWalk.{GroupsFrom}
use Rattle.layout_tables.proofs.layout.Layout.groups_least.Given as goal

abbrev pub invariant-loop : goal.invariant-loop
invariant-loop l = record {
  walk : GroupsFrom l.self l.level l.counter l.child;
  least : l.least ≡ groups_least l.version (take l.counter (groups_at l.self l.level));
  small : l.least ≤ l.counter * PLACE_LIMIT;
}
