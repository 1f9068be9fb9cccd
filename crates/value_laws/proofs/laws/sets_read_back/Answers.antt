use Rattle.std.specs.List.{list_all}
use Rattle.fix_values.specs.Codes.{is_apart, is_choice, same_number, same_text}
use Rattle.fix_values.proofs.NumeralLemmas.{both}
use Rattle.value_laws.proofs.SetsBack.{set_back}
use Rattle.value_laws.proofs.laws.sets_read_back.Goals as goal

pub returns : goal.returns
returns c = λ list leaf n text can shown.
    let choices = both (list_all is_choice list) _ can in
    set_back list n text choices.0 (both (is_apart same_number list) (is_apart same_text list) choices.1).1 shown
