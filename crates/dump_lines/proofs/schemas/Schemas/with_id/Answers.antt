use Rattle.dump_lines.specs.Chosen.{has_id}
use Rattle.dump_lines.proofs.Finding.{id_differs, other_found, none_found}
use Rattle.dump_lines.proofs.schemas.Schemas.with_id.Goals as goal

pub returns-in-Some : goal.returns-in-Some
returns-in-Some c =
    other_found (has_id c.args.id) c.args.self.now.first c.in-Some.layout.now c.args.self.now.also (id_differs c.args.self.now.first c.id.result c.args.id c.id.ensures c.if-id.false)
    (rw c.as_slice.ensures at c.in-Some.ensures.some)

pub returns-in-None : goal.returns-in-None
returns-in-None c =
    none_found (has_id c.args.id) c.args.self.now.first c.args.self.now.also (id_differs c.args.self.now.first c.id.result c.args.id c.id.ensures c.if-id.false)
    (rw c.as_slice.ensures at c.in-None.ensures.none)
