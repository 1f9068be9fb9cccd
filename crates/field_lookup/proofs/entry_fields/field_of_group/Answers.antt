use Rattle.std.proofs.Common.{Some, None}
use Rattle.field_lookup.proofs.EntryFieldLemmas.{group_told}
use Rattle.field_lookup.proofs.entry_fields.field_of_group.Goals as goal

pub returns-in-Some : goal.returns-in-Some
returns-in-Some c =
    group_told c.args.path.now c.args.layout.now c.args.template c.args.group c.root.result c.group-level.result (Some c.in-Some.field)
    c.root.ensures c.group-level.ensures.number (c.in-Some.ensures.is c.args.layout.now c.requires.names)

pub returns-in-None : goal.returns-in-None
returns-in-None c =
    group_told c.args.path.now c.args.layout.now c.args.template c.args.group c.root.result c.group-level.result None
    c.root.ensures c.group-level.ensures.number (c.in-None.ensures.is c.args.layout.now c.requires.names)
