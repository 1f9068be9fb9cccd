use Rattle.std.proofs.Common.{◌<◌, ap, arith, length, subst}
use Rattle.schema_facts.specs.Levels.{all_nodes, parts_at}
use Rattle.layout_tables.specs.Parts.{Numbered}
use Rattle.layout_tables.proofs.DataParts.{first_within, number_told}
use Rattle.layout_tables.proofs.layout.Layout.first_part.Goals as goal

pub index-requires : goal.index-requires
index-requires c =
    let within : c.args.level < length (all_nodes c.self.inside.schema) = omega (arith, ap (λ s. length (all_nodes s)) c.self.view_is) in
    omega (arith, first_within c.self.inside.schema c.self.inside.tables.firsts.items c.args.level c.self.invariant.firsts_are within)

pub returns : goal.returns
returns c = λ i h.
    subst (λ s. Numbered s c.args.level i c.index.result.now) c.self.view_is
    (number_told c.self.inside.schema c.self.inside.tables.firsts.items c.args.level i c.index.result.now c.self.invariant.firsts_are
    (omega (arith, ap (λ s. length (all_nodes s)) c.self.view_is)) (omega (arith, h, ap (λ s. length (parts_at s c.args.level)) c.self.view_is)) c.index.ensures)
