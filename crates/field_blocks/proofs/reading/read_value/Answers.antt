use Rattle.std.proofs.Common.{option_map, ap, ◌∙◌}
use Rattle.bridge_terms.specs.Gathering.{value_found, value_read}
use Rattle.text_values.specs.Read.{answer_of_read}
use Rattle.field_blocks.proofs.reading.read_value.Goals as goal

pub returns-in-None : goal.returns-in-None
returns-in-None c = λ rule reads. ap (λ o. value_found rule (option_map (λ t. t.now) o)) c.in-None.is ∙ c.missing.ensures rule reads

pub returns-in-Ok : goal.returns-in-Ok
returns-in-Ok c = λ rule reads. ap (λ o. value_found rule (option_map (λ t. t.now) o)) c.in-Some.is ∙ ap value_read (c.read.ensures rule reads) ∙ ap (λ r. value_read (answer_of_read r)) c.in-Ok.is

pub returns-in-Err : goal.returns-in-Err
returns-in-Err c = λ rule reads. ap (λ o. value_found rule (option_map (λ t. t.now) o)) c.in-Some.is ∙ ap value_read (c.read.ensures rule reads) ∙ ap (λ r. value_read (answer_of_read r)) c.in-Err.is
