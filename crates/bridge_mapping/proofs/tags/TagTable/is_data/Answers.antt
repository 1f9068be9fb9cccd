use Rattle.std.proofs.Common.{map, is_some, ap, ◌∙◌}
use Rattle.tagvalue_codec.specs.declared.data_tags.Pair.{Pair}
use Rattle.id_tables.specs.Places.{place_of}
use Rattle.bridge_terms.specs.Parts.{TagLists}
use Rattle.bridge_terms.specs.Plans.{is_in}
use Rattle.bridge_plan.specs.Covers.{data_tags}
use Rattle.bridge_mapping.specs.Mapped.{tags_in}
use Rattle.bridge_mapping.proofs.TagLists.{place_among, both_maps}
use Rattle.bridge_mapping.proofs.tags.TagTable.is_data.Goals as goal

pub returns : goal.returns
returns c =
    c.is_some.ensures ∙ ap is_some (c.place.ensures.is ∙ ap (place_of c.args.tag) c.self.invariant.1)
    ∙ place_among c.args.tag (map (λ (p : Pair). p.tag) c.self.inside.pairs)
    ∙ ap (is_in c.args.tag) (both_maps (λ (pair : _ × _). pair.1) tags_in c.self.inside.pairs)
    ∙ ap (λ (l : TagLists). is_in c.args.tag (data_tags l)) c.self.view_is
