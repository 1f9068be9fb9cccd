use Rattle.std.proofs.Common.{ap, ◌∙◌}
use Rattle.layout_tables.specs.Heads.{number_at}
use Rattle.layout_tables.specs.Rowed.{as_spot}
use Rattle.body_walk.proofs.HeadSpots.{at_spot}
use Rattle.body_walk.proofs.head_numbers.any_numbers.Goals as goal

pub returns : goal.returns
returns c =
    let schema = c.args.layout.now in
    let members = schema.header.members in
    let head = c.args.head.now in
    let row = c.header_row-row.result.now in
    let is = c.header_row-row.ensures in
    let order = c.order-order.ensures in
    record {
      block_is = at_spot schema.order members _ head row.block _ is.block (c.number_at-block.ensures ∙ ap (λ o. number_at o (as_spot row.block) head) order);
      template_is = at_spot schema.order members _ head row.template _ is.template (c.number_at-template.ensures ∙ ap (λ o. number_at o (as_spot row.template) head) order);
      schema_is = at_spot schema.order members _ head row.schema _ is.schema (c.number_at-schema.ensures ∙ ap (λ o. number_at o (as_spot row.schema) head) order);
      version_is = at_spot schema.order members _ head row.version _ is.version (c.number_at-version.ensures ∙ ap (λ o. number_at o (as_spot row.version) head) order);
    }
