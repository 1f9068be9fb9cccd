use Rattle.std.proofs.Common.{◌++◌, [], ◌∷◌, ap, ◌∙◌}
use Rattle.tagvalue_codec.specs.Fields.{soh}
use Rattle.tagvalue_codec.proofs.Framing.{four_pieces}
use Rattle.tagvalue_codec.proofs.framed.Framed.append_field.Goals as goal

pub returns-clause-bytes : goal.returns-clause-bytes
returns-clause-bytes c =
    c.append-4.ensures.bytes ∙ ap (λ b. b ++ (soh ∷ [])) (c.append-3.ensures.bytes ∙ ap (λ b. b ++ c.args.value.now) (c.append-2.ensures.bytes ∙ ap (λ b. b ++ (61 ∷ [])) c.append.ensures.bytes))
    ∙ four_pieces c.args.self.now.bytes c.args.digits.now (61 ∷ []) c.args.value.now (soh ∷ [])
