use Rattle.dump_lines.proofs.Answered as lemmas
use Rattle.dump_lines.proofs.laws.each_frame_has_one_answer.Goals as goal

pub returns : goal.returns
returns c = record { some = lemmas.is_answered; once = lemmas.answered_once }
