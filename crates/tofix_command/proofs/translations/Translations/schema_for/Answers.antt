use Rattle.std.proofs.Common.{arith, ap}
use Rattle.std.proofs.lemmas.Bool.Decides.{nat_tests}
use Rattle.std.specs.Prelude.{codes}
use Rattle.layout_tables.specs.Heads.{header_number}
use Rattle.dump_lines.proofs.Finding.{lone_schema, no_items}
use Rattle.tofix_command.specs.Planned.{layouts_of, schemas_of}
use Rattle.tofix_command.proofs.translations.Translations.schema_for.Goals as goal

pub returns-then-is_empty-clause-schema : goal.returns-then-is_empty-clause-schema
returns-then-is_empty-clause-schema c =
    let all = c.args.self.now in
    lone_schema (schemas_of all) (header_number all.first.layout (codes "schemaId") c.args.body.now) (ap layouts_of (no_items all.also (grind (arith, nat_tests))))

pub returns-then-is_empty-clause-planned : goal.returns-then-is_empty-clause-planned
returns-then-is_empty-clause-planned c = λ m planned. planned.first

pub returns-in-None-clause-planned : goal.returns-in-None-clause-planned
returns-in-None-clause-planned c = λ m planned. planned.first
