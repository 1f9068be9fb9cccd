use Rattle.std.proofs.Common.{sym, ap, ◌∙◌, subst}
use Rattle.std.specs.List.{AllByRecursion}
use Rattle.sbe_types.specs.declared.schema.WireSchema.{WireSchema}
use Rattle.tree_json.specs.Texts.{AreMessageTexts, IsPrintable}
use Rattle.tree_json.proofs.Printable.{checked_is_printable}
use Rattle.tree_json.proofs.texts.LineLayout.new.Goals as goal

pub message_texts-requires : goal.message_texts-requires
message_texts-requires c =
    subst (AllByRecursion IsPrintable) (sym (c.as_slice.ensures ∙ ap (λ (s : WireSchema). s.messages) c.schema.ensures.schema)) (checked_is_printable c.args.layout c.schema.ensures.order)

pub invariant_of-result : goal.invariant_of-result
invariant_of-result c =
    subst (λ levels. AreMessageTexts levels c.in_ok-messages.messages) (c.as_slice.ensures ∙ ap (λ (s : WireSchema). s.messages) c.schema.ensures.schema) c.in_ok-messages.ensures
