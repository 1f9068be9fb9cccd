use Rattle.std.proofs.Common.{◌≡◌, true}
use Rattle.same_texts.proofs.Values.{fields_each}
use Rattle.same_texts.proofs.laws.fields_are_those_of_values.Goals as goal

pub returns : goal.returns
returns c = λ test p t fields all h. fields_each (λ f. test f ≡ true) p t fields all h
