use Rattle.layout_tables.proofs.GroupWalk.{GroupsFrom}
use Rattle.layout_tables.proofs.layout.Layout.group.Given as goal

abbrev pub invariant-loop : goal.invariant-loop
invariant-loop l = GroupsFrom l.self l.level l.counter l.child
