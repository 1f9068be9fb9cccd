use Rattle.std.proofs.Common.{◌<◌, length, sym, subst}
use Rattle.sbe_types.specs.declared.schema.WireSchema.{WireSchema}
use Rattle.library_examples.proofs.Within.{template_within}
use Rattle.library_examples.proofs.lines.template_of.Goals as goal

pub at-root-requires : goal.at-root-requires
at-root-requires c =
    let m = c.in_ok-message.message in
    subst (λ (s : WireSchema). m.template < length s.messages) (sym c.schema.ensures.schema) (template_within c.args.checked.now c.args.line.now m c.in_ok-message.ensures)
