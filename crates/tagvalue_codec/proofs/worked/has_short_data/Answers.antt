use Rattle.std.proofs.Common.{refl}
use Rattle.std.specs.Fmt.{digits}
use Rattle.tagvalue_codec.specs.Reading.{walk, text_read}
use Rattle.tagvalue_codec.proofs.worked.has_short_data.Goals as goal

pub returns : goal.returns
unfolding walk text_read digits
returns c = refl
