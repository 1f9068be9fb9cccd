use Rattle.value_texts.proofs.CodeBytes.{found_ready, found_told}
use Rattle.value_texts.proofs.bytes.front_of_code.Goals as goal

pub returns-clause-value : goal.returns-clause-value
returns-clause-value c = found_ready c.code_front.result c.args.bytes.now c.args.codes.now c.code_front.ensures

pub returns-clause-told : goal.returns-clause-told
returns-clause-told c = found_told c.code_front.result c.args.rule.now c.args.face.now c.args.bytes.now c.args.codes.now c.code_front.ensures
