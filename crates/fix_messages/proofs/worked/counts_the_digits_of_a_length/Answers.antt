use Rattle.std.proofs.Common.{refl}
use Rattle.std.specs.Fmt.{digits}
use Rattle.fix_messages.proofs.worked.counts_the_digits_of_a_length.Goals as goal

pub returns : goal.returns
unfolding digits
returns c = record { two = refl; met = refl; three = refl }
