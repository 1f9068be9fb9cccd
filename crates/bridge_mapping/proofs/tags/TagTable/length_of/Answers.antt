use Rattle.std.proofs.Common.{sym, ap, ◌∙◌}
use Rattle.id_tables.specs.Places.{place_of}
use Rattle.bridge_terms.specs.Parts.{TagLists}
use Rattle.bridge_terms.specs.MessageFields.{length_in}
use Rattle.bridge_mapping.proofs.TagLists.{length_none, length_at}
use Rattle.bridge_mapping.proofs.tags.TagTable.length_of.Goals as goal

pub returns-in-None : goal.returns-in-None
returns-in-None c =
    sym (length_none c.args.tag c.self.inside.pairs (sym (c.place.ensures.is ∙ ap (place_of c.args.tag) c.self.invariant.1) ∙ c.in-None.is))
    ∙ ap (λ (l : TagLists). length_in c.args.tag l.lengths) c.self.view_is

pub returns-in-Some : goal.returns-in-Some
returns-in-Some c =
    sym (length_at c.args.tag c.in-Some.i c.self.inside.pairs (sym (c.place.ensures.is ∙ ap (place_of c.args.tag) c.self.invariant.1)
    ∙ c.in-Some.is) c.at.result.now c.at.ensures)
    ∙ ap (λ (l : TagLists). length_in c.args.tag l.lengths) c.self.view_is
