use Rattle.std.proofs.Common.{◌∙◌, refl, sym, arith}
use Rattle.version_copies.proofs.Copying.{copy_is}
use Rattle.version_copies.proofs.copies.copy_of.Goals as goal

pub returns : goal.returns
returns c = λ to good all.
    copy_is c.args.from.now to c.schema-schema.ensures.order good c.template-template.result c.args.twins.now c.index-twins-template.result all
    (omega (arith, c.if-template-twins.false)) c.index-twins-template.is c.in_ok-header.header.now c.in_ok-header.ensures c.in_ok-view.view.message
    c.args.body.now (sym c.template-template.ensures) (sym c.version.ensures ∙ c.if-version.false ∙ c.version-2.ensures) c.are_bytes.ensures
    c.in_ok-view.ensures.lies (c.if-not-is_clean_body.ensures refl) c.header_row.result.now.width c.header_row.ensures.width
