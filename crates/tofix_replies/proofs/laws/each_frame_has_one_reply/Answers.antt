use Rattle.tofix_replies.proofs.Replied.{some_reply, one_reply}
use Rattle.tofix_replies.proofs.laws.each_frame_has_one_reply.Goals as goal

pub returns : goal.returns
returns c = record { some = λ b kept item order. some_reply b kept item order; one = λ b kept item x y order h k. one_reply b kept item order x y h k }
