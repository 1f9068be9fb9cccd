use Rattle.std.proofs.Common.{sym}
use Rattle.map_types.specs.Trees.{members_of}
use Rattle.bridge_mapping.specs.Mapped.{mapping_of}
use Rattle.bridge_mapping.proofs.Lawful.{kept_distinct}
use Rattle.plan_rows.proofs.Ruling.{turned_ok}
use Rattle.sbe_translation.proofs.trees.trees_of.Goals as goal

pub trees_by-requires : goal.trees_by-requires
trees_by-requires c = record { planned = (mapping_of (members_of c.args.repository.now), c.requires.plans) }

pub returns : goal.returns
returns c = turned_ok c.trees_by.result c.trees_by.ensures (λ trees are tables.
    let members = members_of c.args.repository.now in
    are (mapping_of members) tables (sym c.in_ok-messages.ensures) c.requires.short (λ kind s h. kept_distinct members kind s c.requires.kept h) c.requires.plans)
