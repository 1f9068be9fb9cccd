use Rattle.std.proofs.Common.{ap, sym, ◌∙◌}
use Rattle.schema_rules.specs.Facts.{no_members, member_fact, members_fact}
use Rattle.type_facts.specs.Tables.{table_fact}
use Rattle.type_facts.proofs.Rows.{composite_fact}
use Rattle.type_facts.proofs.facts.+facts.Goals as goal

pub member_fact-returns-in-Composite : goal.member_fact-returns-in-Composite
member_fact-returns-in-Composite t c =
    c.members_fact.ensures
    ∙ ap (members_fact c.args.types.now (table_fact c.args.types.now c.args.table.now) no_members) c.as_slice-in-Composite.ensures
    ∙ sym (composite_fact c.args.types.now (table_fact c.args.types.now c.args.table.now) c.in-Composite.c)
    ∙ ap (member_fact c.args.types.now (table_fact c.args.types.now c.args.table.now)) (sym c.in-Composite.is)
