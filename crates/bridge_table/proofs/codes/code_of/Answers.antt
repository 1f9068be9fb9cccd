use Rattle.std.proofs.Common.{sym, ap, ◌∙◌}
use Rattle.bridge_rules.specs.Table.{named_text}
use Rattle.bridge_table.specs.Codes.{named_codes}
use Rattle.bridge_table.proofs.NamedTexts.{uncoded}
use Rattle.bridge_table.proofs.codes.code_of.Goals as goal

pub returns-then-not-has_text : goal.returns-then-not-has_text
returns-then-not-has_text c =
    uncoded c.args.prim (named_codes c.args.table.now) c.args.name.now (named_text (named_codes c.args.table.now) c.args.name.now.name) c.as_slice-2.result.now
    (ap (named_text (named_codes c.args.table.now)) (sym c.as_slice.ensures) ∙ c.in_default.ensures) (c.as_slice-2.ensures ∙ c.in_ok-text.ensures)
    (sym c.has_text.ensures ∙ c.if-not-has_text.true)
