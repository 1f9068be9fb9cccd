use Rattle.std.proofs.Common.{ap, sym, ◌∙◌}
use Rattle.std.specs.List.{list_any}
use Rattle.schema_rules.specs.Chains.{member_has}
use Rattle.type_facts.specs.Tables.{table_chain}
use Rattle.type_facts.proofs.Rows.{chain_composite}
use Rattle.type_facts.proofs.chains.+chains.Goals as goal

pub goes_member_on-returns-in-Composite : goal.goes_member_on-returns-in-Composite
goes_member_on-returns-in-Composite t c =
    c.go_members_on.ensures
    ∙ ap (list_any (member_has (table_chain c.args.types.now c.args.table.now))) c.as_slice-in-Composite.ensures
    ∙ sym (chain_composite (table_chain c.args.types.now c.args.table.now) c.in-Composite.c)
    ∙ ap (member_has (table_chain c.args.types.now c.args.table.now)) (sym c.in-Composite.is)
