use Rattle.std.proofs.Common.{take, drop}
use Rattle.std.specs.List.{AllByRecursion}
use Rattle.tree_json.specs.Texts.{AreMessageTexts, IsPrintable}
use Rattle.tree_json.proofs.texts.message_texts.Given as goal

abbrev pub invariant-loop-level : goal.invariant-loop-level
invariant-loop-level l = record {
  printable : AllByRecursion IsPrintable (drop l.level-index l.messages);
  texts : AreMessageTexts (take l.level-index l.messages) l.texts;
}
