use Rattle.std.proofs.Common.{List, subst}
use Rattle.map_types.specs.Trees.{members_of}
use Rattle.bridge_mapping.specs.Mapped.{mapping_of}
use Rattle.tagvalue_codec.specs.declared.data_tags.Pair.{Pair}
use Rattle.text_judge.specs.Judges.{IsJudge}
use Rattle.tosbe_command.proofs.bridge.BridgeWays.new.Goals as goal

pub returns-clause-judge : goal.returns-clause-judge
returns-clause-judge c =
    let files = c.args.files.now in
    subst (λ (tags : List Pair). IsJudge (mapping_of (members_of files.repository)) files.checked.messages tags c.in_ok-direct.direct.judge) c.in_ok-parts.ensures.tags
    (c.in_ok-direct.ensures c.in_ok-parts.ensures.plan c.in_ok-parts.ensures.tags)
