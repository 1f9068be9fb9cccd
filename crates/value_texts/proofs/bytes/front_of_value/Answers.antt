use Rattle.value_texts.proofs.PlainFronts.{passage_told}
use Rattle.value_texts.proofs.bytes.front_of_value.Goals as goal

pub returns-in-Passage-clause-told : goal.returns-in-Passage-clause-told
returns-in-Passage-clause-told c =
    let own = c.args.row.now in
    passage_told c.front_of_passage.result own.rule own.face own.codes c.args.bytes.now c.in-Passage.is c.front_of_passage.ensures.told
