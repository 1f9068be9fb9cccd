use Rattle.std.proofs.Common.{ap, ◌∙◌, arith, length}
use Rattle.std.specs.Prelude.{slice_get}
use Rattle.sbe_types.specs.declared.schema.WireSchema.{WireSchema}
use Rattle.tree_json.proofs.LevelTextsOf.{messages_many, message_has}
use Rattle.tree_json.proofs.texts.LineLayout.message.Goals as goal

pub at-requires : goal.at-requires
at-requires c = omega (arith, messages_many c.self.inside.layout.messages c.self.inside.messages c.self.invariant, ap (λ (s : WireSchema). length s.messages) c.self.view_is)

pub returns : goal.returns
returns c = λ level is.
    message_has c.self.inside.layout.messages c.self.inside.messages c.args.template level c.at.result.now c.self.invariant
    (ap (λ (s : WireSchema). slice_get s.messages c.args.template) c.self.view_is ∙ is) c.at.ensures
