use Rattle.std.proofs.Common.{[], ◌∷◌, ◌++◌, sym, ap, ◌∙◌, append_assoc}
use Rattle.tagvalue_codec.specs.Drafts.{ready_bytes}
use Rattle.tagvalue_codec.proofs.Drafting.{head_is}
use Rattle.tagvalue_codec.proofs.write.put_head.Goals as goal

pub returns-clause-bytes : goal.returns-clause-bytes
returns-clause-bytes c =
    c.append.ensures.bytes
    ∙ ap (λ b. b ++ (57 ∷ 61 ∷ [])) c.append_ready.ensures.bytes
    ∙ append_assoc c.args.room.now.bytes (ready_bytes (56 ∷ 61 ∷ []) c.args.begin.now) (57 ∷ 61 ∷ [])
    ∙ ap (λ b. c.args.room.now.bytes ++ b) (sym (head_is c.args.begin.now))
