use Rattle.std.proofs.Common.{arith, ap, ◌∙◌}
use Rattle.std.proofs.lemmas.Grind.{common_steps}
use Rattle.open_framing.specs.Heads.{head_of}
use Rattle.open_framing.proofs.FrameLemmas.{head_back}
use Rattle.open_framing.proofs.head.put_head.Goals as goal

pub returns-clause-bytes : goal.returns-clause-bytes
returns-clause-bytes c = grind (arith, common_steps)

pub returns-clause-back : goal.returns-clause-back
returns-clause-back c = λ limit.
    ap (λ out. head_of out limit) (returns-clause-bytes c) ∙ head_back c.args.head.now.length c.args.head.now.encoding limit (omega arith) (omega arith)
