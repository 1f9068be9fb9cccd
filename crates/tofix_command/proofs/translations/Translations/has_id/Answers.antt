use Rattle.std.proofs.Common.{true, false}
use Rattle.dump_lines.specs.Chosen.{has_id}
use Rattle.dump_lines.proofs.Finding.{id_differs, others_pass, none_pass, some_pass}
use Rattle.tofix_command.specs.Planned.{layouts_of}
use Rattle.tofix_command.proofs.translations.Translations.has_id.Goals as goal

pub returns-in-Some : goal.returns-in-Some
returns-in-Some c =
    let all = c.args.self.now in
    let found = rw c.as_slice.ensures at c.in-Some.ensures.some in
    others_pass (has_id c.args.id) all.first.layout (layouts_of all.also) true (id_differs all.first.layout c.id.result c.args.id c.id.ensures c.if-id.false)
    (some_pass (has_id c.args.id) (layouts_of all.also) _ found.first)

pub returns-in-None : goal.returns-in-None
returns-in-None c =
    let all = c.args.self.now in
    others_pass (has_id c.args.id) all.first.layout (layouts_of all.also) false (id_differs all.first.layout c.id.result c.args.id c.id.ensures c.if-id.false)
    (none_pass (has_id c.args.id) (layouts_of all.also) (rw c.as_slice.ensures at c.in-None.ensures.none))
