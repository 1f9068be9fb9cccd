use Rattle.std.proofs.Common.{ap, arith, length, subst}
use Rattle.layout_tables.specs.Parts.{all_parts, PartStands}
use Rattle.layout_tables.proofs.DataParts.{places_all, part_told}
use Rattle.layout_tables.proofs.layout.Layout.part_place.Goals as goal

pub index-requires : goal.index-requires
index-requires c = omega (arith, places_all c.self.inside.schema c.self.inside.tables.places.items c.self.invariant.places_are, ap (λ s. length (all_parts s)) c.self.view_is)

pub returns : goal.returns
returns c =
    subst (λ s. PartStands s c.args.part c.index.result.now) c.self.view_is
    (part_told c.self.inside.schema c.self.inside.tables.places.items c.args.part c.index.result.now c.self.invariant.places_are (omega (arith, ap (λ s. length (all_parts s)) c.self.view_is)) c.index.ensures)
