use Rattle.std.proofs.Common.{ap, ◌∙◌}
use Rattle.sbe_types.specs.declared.schema.WireSchema.{WireSchema}
use Rattle.dump_lines.specs.Dumped.{encoding_of}
use Rattle.dump_lines.proofs.Answered.{body_printed}
use Rattle.dump_command.proofs.dumped.put_frame.Goals as goal

pub returns : goal.returns
returns g c =
    body_printed c.args.schemas.now c.args.item c.args.encoding c.args.body.now c.schema_for.result.now _ c.schema_for.ensures
    (c.if-encoding-encoding_of.false ∙ c.encoding_of.ensures ∙ ap encoding_of (c.order.ensures ∙ ap (λ (s : WireSchema). s.order) c.layout.ensures)) (c.put_body.ensures c.args.encoding)
