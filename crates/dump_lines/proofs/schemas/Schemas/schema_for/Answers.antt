use Rattle.std.proofs.Common.{arith}
use Rattle.std.proofs.lemmas.Bool.Decides.{nat_tests}
use Rattle.std.specs.Prelude.{codes}
use Rattle.layout_tables.specs.Heads.{header_number}
use Rattle.dump_lines.proofs.Finding.{lone_schema, no_items}
use Rattle.dump_lines.proofs.schemas.Schemas.schema_for.Goals as goal

pub returns-then-is_empty : goal.returns-then-is_empty
returns-then-is_empty c =
    let s = c.args.self.now in
    lone_schema s (header_number s.first (codes "schemaId") c.args.body.now) (no_items s.also (grind (arith, nat_tests)))
