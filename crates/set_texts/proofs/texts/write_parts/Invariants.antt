use Rattle.std.proofs.Common.{◌≡◌, ◌≤◌, List, length}
use Rattle.fix_values.specs.declared.rule.Code.{Code}
use Rattle.set_texts.specs.declared.texts.TheConstants.{SET_ROOM}
use Rattle.set_texts.specs.Runs.{AreRuns}
use Rattle.set_texts.proofs.Written.{IsWrittenTo}
use Rattle.set_texts.proofs.texts.write_parts.Given as goal

abbrev pub invariant-loop-run : goal.invariant-loop-run
invariant-loop-run l = record {
  long : length l.room ≡ SET_ROOM;
  within : l.written.end ≤ SET_ROOM;
  written : (codes : List Code) → AreRuns l.runs codes → IsWrittenTo l.runs l.run-index codes l.written l.room l.bits;
}
