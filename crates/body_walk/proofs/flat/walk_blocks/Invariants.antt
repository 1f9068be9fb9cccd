use Rattle.std.proofs.Common.{◌≡◌, ◌≤◌, ◌-◌, length}
use Rattle.body_walk.specs.inner.Cursor.{skim, entries_read, steps_end}
use Rattle.body_walk.proofs.flat.walk_blocks.Given as goal

abbrev pub invariant-loop-i : goal.invariant-loop-i
invariant-loop-i l =
    let step = skim (entries_read l.layer.mode l.layer.level.now l.dim.block) l.layer.body.now in
    record {
      near : l.at ≤ length l.layer.body.now;
      told : steps_end step l.i (l.dim.count - l.i) l.at ≡ steps_end step 0 l.dim.count l.dim.after;
    }
