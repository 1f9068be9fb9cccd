use Rattle.std.proofs.Common.{◌≡◌, length, rules}
use Rattle.value_texts.proofs.CodeBytes.{found_there, one_byte}
use Rattle.value_texts.proofs.codes.code_front.Goals as goal

pub returns : goal.returns
returns c =
    let one : length c.args.bytes.now ≡ 1 = search rules in
    found_there c.front.result c.args.bytes.now c.args.codes.now _ _ (one_byte c.args.bytes.now one) c.at.ensures c.front.ensures.value c.front.ensures.same
