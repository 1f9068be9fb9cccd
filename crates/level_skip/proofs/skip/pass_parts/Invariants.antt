use Rattle.std.proofs.Common.{◌≡◌, ◌≤◌, drop, length}
use Rattle.std.specs.List.{AllByRecursion}
use Rattle.schema_facts.specs.Measured.{IsSmall}
use Rattle.level_skip.specs.Behind.{parts_behind}
use Rattle.level_skip.proofs.skip.pass_parts.Given as goal

abbrev pub invariant-loop-i : goal.invariant-loop-i
invariant-loop-i l =
    record {
      near : l.at ≤ length l.bytes;
      small : AllByRecursion (λ r. IsSmall r.length.prim) (drop l.i l.rows);
      told : parts_behind l.order l.version (drop l.i l.rows) l.bytes l.at ≡ parts_behind l.order l.version l.rows l.bytes l.fn.at;
    }
