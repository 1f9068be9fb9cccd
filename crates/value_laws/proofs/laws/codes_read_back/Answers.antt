use Rattle.std.specs.List.{list_all}
use Rattle.fix_values.specs.Codes.{has_short_text, is_apart, same_text}
use Rattle.fix_values.proofs.NumeralLemmas.{both}
use Rattle.value_laws.proofs.ReadBack.{code_back}
use Rattle.value_laws.proofs.laws.codes_read_back.Goals as goal

pub returns : goal.returns
returns c = λ list leaf n text can null shown. code_back list leaf n text (both (list_all has_short_text list) (is_apart same_text list) can).1 null shown
