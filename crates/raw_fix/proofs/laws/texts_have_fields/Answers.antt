use Rattle.raw_fix.proofs.FieldLemmas.{fix_text, fix_fields, fix_are_sized}
use Rattle.raw_fix.proofs.laws.texts_have_fields.Goals as goal

pub returns-clause-fields : goal.returns-clause-fields
returns-clause-fields c = λ tags most text. fix_fields tags text

pub returns-clause-text : goal.returns-clause-text
returns-clause-text c = λ tags most text. fix_text tags text

pub returns-clause-sized : goal.returns-clause-sized
returns-clause-sized c = fix_are_sized
