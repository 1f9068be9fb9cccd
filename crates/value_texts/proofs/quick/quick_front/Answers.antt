use Rattle.std.proofs.Common.{◌<◌, length, rules, arith}
use Rattle.std.proofs.lemmas.Bool.Decides.{nat_tests}
use Rattle.message_walk.proofs.Values.{plain_value}
use Rattle.value_texts.proofs.PlainFronts.{plain_text}
use Rattle.value_texts.proofs.quick.quick_front.Goals as goal

pub returns-clause-value : goal.returns-clause-value
returns-clause-value c = λ room.
    let some : 0 < length c.args.front.text.now = grind (arith, nat_tests) in
    plain_value c.args.front.text.now some (c.requires (search rules))

pub returns-clause-told : goal.returns-clause-told
returns-clause-told c = λ room.
    let some : 0 < length c.args.front.text.now = grind (arith, nat_tests) in
    plain_text c.args.front.text.now some (c.requires (search rules))
