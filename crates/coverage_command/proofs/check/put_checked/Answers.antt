use Rattle.std.proofs.Common.{◌≡◌, length, sym, ap, ◌∙◌}
use Rattle.map_types.specs.Trees.{members_of}
use Rattle.bridge_mapping.specs.Mapped.{mapping_of}
use Rattle.coverage_command.proofs.check.put_checked.Goals as goal

pub put_coverage-requires : goal.put_coverage-requires
put_coverage-requires c =
    let levels : c.as_slice.result.now ≡ c.args.schema.now.messages = c.as_slice.ensures ∙ c.messages.ensures in
    record { many = c.in_ok-plan.ensures.many ∙ ap length (sym levels) }

pub returns-clause-lines : goal.returns-clause-lines
returns-clause-lines c =
    let m = mapping_of (members_of c.args.repository.now) in
    let levels : c.as_slice.result.now ≡ c.args.schema.now.messages = c.as_slice.ensures ∙ c.messages.ensures in
    let own = rw levels at (c.in_ok-put_coverage.ensures m) in
    (own c.in_ok-plan.ensures).grown
