use Rattle.std.proofs.Common.{sym}
use Rattle.dump_lines.specs.Chosen.{has_id}
use Rattle.dump_lines.proofs.Finding.{first_found, id_differs, id_same, none_found, other_found}
use Rattle.tofix_command.specs.Planned.{layouts_of}
use Rattle.tofix_command.proofs.Finding.{found_planned}
use Rattle.tofix_command.proofs.translations.Translations.with_id.Goals as goal

pub returns-then-id-clause-schema : goal.returns-then-id-clause-schema
returns-then-id-clause-schema c =
    let all = c.args.self.now in
    first_found (has_id c.args.id) all.first.layout (layouts_of all.also) (id_same all.first.layout c.id.result c.args.id c.id.ensures c.if-id.true)

pub returns-then-id-clause-planned : goal.returns-then-id-clause-planned
returns-then-id-clause-planned c = λ m planned. planned.first

pub returns-in-Some-clause-schema : goal.returns-in-Some-clause-schema
returns-in-Some-clause-schema c =
    let all = c.args.self.now in
    let found = rw c.as_slice.ensures at c.in-Some.ensures.some in
    other_found (has_id c.args.id) all.first.layout c.in-Some.translation.now.layout (layouts_of all.also) (id_differs all.first.layout c.id.result c.args.id c.id.ensures c.if-id.false) found.first

pub returns-in-Some-clause-planned : goal.returns-in-Some-clause-planned
returns-in-Some-clause-planned c = λ m planned. found_planned m c.args.self.now c.args.id c.in-Some.translation.now (rw c.as_slice.ensures at c.in-Some.ensures.some) planned

pub returns-in-None-clause-schema : goal.returns-in-None-clause-schema
returns-in-None-clause-schema c =
    let all = c.args.self.now in
    none_found (has_id c.args.id) all.first.layout (layouts_of all.also) (id_differs all.first.layout c.id.result c.args.id c.id.ensures c.if-id.false) (rw c.as_slice.ensures at c.in-None.ensures.none)

pub returns-in-None-clause-planned : goal.returns-in-None-clause-planned
returns-in-None-clause-planned c = λ m planned. planned.first
