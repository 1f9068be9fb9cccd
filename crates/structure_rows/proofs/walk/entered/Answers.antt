use Rattle.std.proofs.Common.{◌-◌, Option, option_map, subst, sym, arith}
use Rattle.reference_graph.specs.declared.graph.Link.TheVariants.{To}
use Rattle.structure_rows.specs.declared.row.PlaceRow.{PlaceRow}
use Rattle.structure_rows.specs.Rows.{group_row}
use Rattle.structure_rows.specs.Walking.{OpensRow}
use Rattle.structure_rows.proofs.Making.{ends_after, opens_bare, opens_node}
use Rattle.structure_rows.proofs.walk.entered.Goals as goal

pub returns-then-places-eq0 : goal.returns-then-places-eq0
returns-then-places-eq0 c =
    opens_bare c.args.structures.now c.args.i c.requires.ends c.args.node.now c.requires.here c.places-places.result
    (c.places-places.ensures c.args.node.now c.requires.here (ends_after c.args.structures.now c.args.i c.requires.ends c.args.node.now c.requires.here)) c.requires.short
    (omega (arith, c.if-places-eq0.true))

pub returns : goal.returns
returns c =
    subst (λ (row : Option PlaceRow). OpensRow c.args.structures.now (To c.args.i) row c.as_slice.result.now) (sym c.group_row.ensures)
    (subst (OpensRow c.args.structures.now (To c.args.i) (option_map (λ tag. group_row tag (c.places-places.result - 1)) c.args.node.now.count)) (sym c.as_slice.ensures)
    (opens_node c.args.structures.now c.args.i c.requires.ends c.args.node.now c.requires.here c.places-places.result
    (c.places-places.ensures c.args.node.now c.requires.here (ends_after c.args.structures.now c.args.i c.requires.ends c.args.node.now c.requires.here)) c.requires.short))
