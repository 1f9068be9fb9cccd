use Rattle.std.proofs.Common.{length, refl, sym, ap, arith, ◌∙◌}
use Rattle.std.specs.Prelude.{slice_get}
use Rattle.std.proofs.lemmas.Option.{slice_get_read}
use Rattle.sbe_types.specs.declared.schema.WireSchema.{WireSchema}
use Rattle.test_bridge.proofs.coverage.messages_answer.Goals as goal

pub message_answer-requires : goal.message_answer-requires
message_answer-requires c =
    let messages = c.as_slice-messages.result.now in
    let i = c.loop-level.level-index in
    record {
      order =
          c.kinds_of_messages_are_in_order.ensures c.args.checked.now i c.level-item.result c.schema-schema.ensures.order
          (ap (λ ls. slice_get ls i) (sym (c.as_slice-messages.ensures ∙ ap (λ (s : WireSchema). s.messages) c.schema-schema.ensures.schema))
          ∙ slice_get_read messages (length messages) i c.level-item.result refl (omega arith) c.level-item.is);
    }
