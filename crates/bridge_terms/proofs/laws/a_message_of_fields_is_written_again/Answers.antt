use Rattle.bridge_terms.proofs.WrittenAgain.{written_again}
use Rattle.bridge_terms.proofs.laws.a_message_of_fields_is_written_again.Goals as goal

pub returns : goal.returns
returns c = λ p fields t root sound shows texts back. written_again p root.planned sound shows texts fields t back
