use Rattle.std.proofs.Common.{◌+◌, ◌*◌, take, drop}
use Rattle.schema_facts.specs.CheckedLevels.{groups_deep}
use Rattle.flyweight_view.specs.Deep.{deepest}
use Rattle.tree_json.specs.Texts.{AreGroupsPrintable, HaveTexts}
use Rattle.tree_json.proofs.texts.+make.Given as goal

abbrev pub invariant-group_texts-loop-group : goal.invariant-group_texts-loop-group
invariant-group_texts-loop-group l = record {
  printable : AreGroupsPrintable (drop l.group-index l.groups);
  texts : HaveTexts (take l.group-index l.groups) l.texts;
}

abbrev pub decreases-level_texts : goal.decreases-level_texts
decreases-level_texts l = 2 * groups_deep l.level.now + 1

abbrev pub decreases-group_texts : goal.decreases-group_texts
decreases-group_texts l = 2 * deepest l.groups.now
