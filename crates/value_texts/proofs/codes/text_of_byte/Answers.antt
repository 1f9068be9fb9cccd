use Rattle.std.proofs.Common.{rules, FitsSigned}
use Rattle.std.specs.Int.{w64}
use Rattle.value_texts.specs.Coded.{IsNumberText}
use Rattle.value_texts.proofs.Leaving.{narrow}
use Rattle.value_texts.proofs.codes.text_of_byte.Goals as goal

pub returns-in-Number : goal.returns-in-Number
returns-in-Number c = λ some.
    let n = c.in-Number.n in
    let small : FitsSigned w64 n = search rules in
    record {
      read = c.in-Number.ensures.0;
      number = n;
      shown = c.in-Number.ensures.1;
      text_is = narrow (λ n. IsNumberText c.args.spelling.now n c.number_text.result) n small (c.number_text.ensures some);
    }
