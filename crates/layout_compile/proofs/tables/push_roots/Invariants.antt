use Rattle.std.proofs.Common.{◌≡◌, length, take, drop}
use Rattle.schema_facts.specs.Levels.{nodes_from}
use Rattle.layout_compile.specs.inner.Grown.{Grown, AreOrdered}
use Rattle.layout_tables.specs.Rowed.{roots_from}
use Rattle.layout_compile.proofs.tables.push_roots.Given as goal

abbrev pub invariant-loop-template : goal.invariant-loop-template
invariant-loop-template l = record {
  grown : Grown l.fn.levels.items l.levels.items (nodes_from 0 (take l.template l.messages));
  measured : AreOrdered (nodes_from l.template (drop l.template l.messages));
  roots_are : l.roots.items ≡ roots_from (length l.fn.levels.items) 0 (take l.template l.messages);
}
