use Rattle.std.proofs.Common.{Some, None, ◌∙◌}
use Rattle.field_lookup.proofs.EntryFieldLemmas.{message_told}
use Rattle.field_lookup.proofs.entry_fields.find_field.Goals as goal

pub returns-in-Some : goal.returns-in-Some
returns-in-Some c =
    c.field_of_template.ensures
    ∙ message_told c.args.path.now c.args.layout.now (Some c.in-Some.template) (c.in-Some.ensures.is c.args.layout.now c.requires)

pub returns-in-None : goal.returns-in-None
returns-in-None c = message_told c.args.path.now c.args.layout.now None (c.in-None.ensures.is c.args.layout.now c.requires)
