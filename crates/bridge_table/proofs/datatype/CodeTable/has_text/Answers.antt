use Rattle.std.proofs.Common.{map, is_some, sym, ap, ◌∙◌}
use Rattle.id_tables.specs.Places.{name_place}
use Rattle.map_types.specs.declared.tree.CodeEl.{CodeEl}
use Rattle.bridge_table.proofs.NamedTexts.{some_text}
use Rattle.bridge_table.proofs.datatype.CodeTable.has_text.Goals as goal

pub returns : goal.returns
returns c =
    c.is_some.ensures
    ∙ ap is_some (c.place.ensures.is ∙ ap (name_place c.args.text.now) (c.self.invariant.1 ∙ ap (map (λ (x : CodeEl). x.value)) c.self.view_is))
    ∙ sym (some_text c.args.text.now 0 c.args.self.now)
