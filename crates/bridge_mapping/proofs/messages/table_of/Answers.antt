use Rattle.std.proofs.Common.{◌≡◌, length, sym}
use Rattle.map_members.specs.Lent.{lent_members}
use Rattle.map_members.proofs.Lent.{as_many}
use Rattle.map_links.specs.Links.{linked}
use Rattle.bridge_mapping.proofs.MessageTables.{table_is, as_many_kinds, nodes_are_there, nodes_are_whole}
use Rattle.bridge_mapping.proofs.messages.table_of.Goals as goal

pub invariant_of-result : goal.invariant_of-result
invariant_of-result c =
    let fields = lent_members c.args.fields.now in
    let members = linked c.args.components.now c.args.groups.now c.args.messages.now in
    let graph = c.in_ok-structures.ensures in
    let many : length c.args.messages.now ≡ length (lent_members c.args.messages.now) = sym (as_many c.args.messages.now) in
    let kinds = c.in_ok-kinds.ensures in (
      as_many_kinds fields members c.in_ok-structures.structures (length c.args.messages.now) c.in_ok-kinds.kinds graph many kinds,
      nodes_are_there fields members c.in_ok-structures.structures (length c.args.messages.now) c.in_ok-kinds.kinds graph many kinds,
      nodes_are_whole fields members c.in_ok-structures.structures (length c.args.messages.now) c.in_ok-kinds.kinds graph many kinds c.requires.whole,
    )

pub returns : goal.returns
returns c =
    let fields = lent_members c.args.fields.now in
    let members = linked c.args.components.now c.args.groups.now c.args.messages.now in
    let many : length c.args.messages.now ≡ length (lent_members c.args.messages.now) = sym (as_many c.args.messages.now) in
    table_is fields members c.in_ok-structures.structures (length c.args.messages.now) c.in_ok-kinds.kinds c.in_ok-structures.ensures many c.in_ok-kinds.ensures
