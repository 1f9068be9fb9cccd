use Rattle.std.proofs.Common.{ap, ◌∙◌}
use Rattle.bridge_terms.specs.Parts.{TagLists}
use Rattle.bridge_terms.specs.Plans.{is_in}
use Rattle.bridge_mapping.proofs.TagLists.{among}
use Rattle.bridge_mapping.proofs.tags.TagTable.is_header.Goals as goal

pub returns : goal.returns
returns c = c.has.ensures ∙ among c.args.tag c.self.inside.header ∙ ap (λ (l : TagLists). is_in c.args.tag l.header) c.self.view_is
