use Rattle.std.proofs.Common.{ap, ◌∙◌}
use Rattle.sbe_types.specs.declared.schema.Header.{Header}
use Rattle.clean_walk.proofs.Entries.{root_walked, numbers_of_header}
use Rattle.clean_walk.proofs.walk.is_clean_root.Goals as goal

pub returns-in-Some-entry_end : goal.returns-in-Some-entry_end
returns-in-Some-entry_end c = λ yes.
    let schema = c.args.layout.now in
    root_walked schema c.args.level.now c.args.body.now c.as_slice-members.result.now c.in-Some.size _
    c.requires.good c.requires.header c.requires.bytes (c.as_slice-members.ensures ∙ ap (λ (h : Header). h.members) c.header.ensures) c.in-Some.ensures.end
    (numbers_of_header schema c.args.level.now c.id.result c.version.result c.order.result c.as_slice-members.result.now c.args.body.now c.id.ensures c.version.ensures c.order.ensures c.in-Some.ensures.says)
    c.in-Some-entry_end.ensures.whole
