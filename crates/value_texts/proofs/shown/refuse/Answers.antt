use Rattle.value_texts.proofs.Leaving.{refused}
use Rattle.value_texts.proofs.shown.refuse.Goals as goal

pub returns : goal.returns
returns c = λ lists d tag. refused lists d c.tell.new.self tag c.args.why c.tell.ensures
