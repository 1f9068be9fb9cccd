use Rattle.std.proofs.Common.{◌≡◌, ◌≤◌, ◌+◌, drop, length}
use Rattle.std.specs.List.{AllByRecursion}
use Rattle.schema_facts.specs.Measured.{IsSmall}
use Rattle.body_walk.specs.inner.Cursor.{parts_end}
use Rattle.body_walk.proofs.data.walk_parts.Given as goal

abbrev pub invariant-loop-i : goal.invariant-loop-i
invariant-loop-i l =
    record {
      near : l.at ≤ length l.body;
      small : AllByRecursion (λ r. IsSmall r.length.prim) (drop l.i l.rows);
      told : parts_end l.mode (l.first + l.i) (drop l.i l.rows) l.body l.at ≡ parts_end l.mode l.first l.rows l.body l.fn.at;
    }
