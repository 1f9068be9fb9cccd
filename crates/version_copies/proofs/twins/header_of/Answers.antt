use Rattle.std.proofs.Common.{◌∙◌, Some, take, ap, sym}
use Rattle.typed_writer.specs.Steps.{header_in, block_in}
use Rattle.schema_facts.specs.Levels.{root_of}
use Rattle.version_copies.proofs.Copying.{front_is, header_is}
use Rattle.version_copies.proofs.twins.header_of.Goals as goal

pub returns-in-Ok : goal.returns-in-Ok
returns-in-Ok c =
    let to = c.args.to.now in
    let wide = c.header_row.result.now.width in
    front_is c.front_of.result (header_in to c.args.place) (take wide c.bytes.result.now)
    (header_is to c.schema-schema.ensures.order c.args.place c.message.result.now c.message.ensures (block_in to (root_of to c.args.place)) c.bytes.result.now wide
    c.header_row.ensures.width (c.in-Ok.ensures.ok.bytes ∙ sym (ap Some c.bytes.ensures)))
    c.front_of.ensures
