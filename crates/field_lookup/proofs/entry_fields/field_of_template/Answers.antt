use Rattle.std.proofs.Common.{Some, None, ◌∙◌}
use Rattle.field_lookup.proofs.EntryFieldLemmas.{template_told}
use Rattle.field_lookup.proofs.entry_fields.field_of_template.Goals as goal

pub returns-in-Some : goal.returns-in-Some
returns-in-Some c =
    c.field_of_group.ensures
    ∙ template_told c.args.path.now c.args.layout.now c.args.template c.root.result (Some c.in-Some.group) c.root.ensures
    (c.in-Some.ensures.is c.args.layout.now c.requires.names)

pub returns-in-None : goal.returns-in-None
returns-in-None c =
    template_told c.args.path.now c.args.layout.now c.args.template c.root.result None c.root.ensures
    (c.in-None.ensures.is c.args.layout.now c.requires.names)
