use Rattle.std.proofs.Common.{ap, sym}
use Rattle.std.proofs.lemmas.Grind.{flat_map-append}
use Rattle.tagvalue_codec.specs.Fields.{field_bytes}
use Rattle.tagvalue_codec.specs.Texts.{text_over}
use Rattle.bridge_terms.specs.MessageFields.{with_lengths}
use Rattle.fix_messages.specs.Heads.{head_fields}
use Rattle.fix_messages.proofs.laws.texts_have_heads_and_fields.Goals as goal

pub returns : goal.returns
returns c = λ lists kind head fields. ap (text_over head.begin) (sym (flat_map-append field_bytes (head_fields kind head) (with_lengths lists fields)))
