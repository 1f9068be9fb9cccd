use Rattle.std.proofs.Common.{map, sym, ap, ◌∙◌}
use Rattle.map_types.specs.Trees.{members_of}
use Rattle.bridge_mapping.specs.Mapped.{tags_in, tag_lists_of}
use Rattle.bridge_mapping.proofs.TagLists.{among}
use Rattle.bridge_mapping.proofs.tags.TagTable.new.Goals as goal

pub returns : goal.returns
returns c = record {
  header = λ tag. sym (among tag c.in_ok-header.header) ∙ c.in_ok-header.ensures tag ∙ among tag (tag_lists_of (members_of c.args.repository.now)).header;
  lengths = ap (map tags_in) c.in_ok-pairs.ensures;
}
