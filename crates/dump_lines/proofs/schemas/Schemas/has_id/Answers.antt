use Rattle.std.proofs.Common.{true, false}
use Rattle.dump_lines.specs.Chosen.{has_id}
use Rattle.dump_lines.proofs.Finding.{id_differs, some_pass, none_pass, others_pass}
use Rattle.dump_lines.proofs.schemas.Schemas.has_id.Goals as goal

pub returns-in-Some : goal.returns-in-Some
returns-in-Some c =
    others_pass (has_id c.args.id) c.args.self.now.first c.args.self.now.also true (id_differs c.args.self.now.first c.id.result c.args.id c.id.ensures c.if-id.false)
    (some_pass (has_id c.args.id) c.args.self.now.also _ (rw c.as_slice.ensures at c.in-Some.ensures.some))

pub returns-in-None : goal.returns-in-None
returns-in-None c =
    others_pass (has_id c.args.id) c.args.self.now.first c.args.self.now.also false (id_differs c.args.self.now.first c.id.result c.args.id c.id.ensures c.if-id.false)
    (none_pass (has_id c.args.id) c.args.self.now.also (rw c.as_slice.ensures at c.in-None.ensures.none))
