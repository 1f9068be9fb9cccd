use Rattle.std.proofs.Common.{sym, subst}
use Rattle.map_types.specs.Trees.{members_of}
use Rattle.bridge_mapping.specs.Mapped.{mapping_of}
use Rattle.bridge_mapping.specs.Tables.{HaveSameTags}
use Rattle.bridge_terms.specs.Parts.{TagLists}
use Rattle.tosbe_command.proofs.direct.DirectWay.new.Goals as goal

pub returns : goal.returns
returns c = λ plans paired.
    c.in_ok-judge.ensures (subst (λ (tags : TagLists). HaveSameTags tags (mapping_of (members_of c.args.files.now.repository)).lists) (sym c.tags.ensures) plans.tags) paired
