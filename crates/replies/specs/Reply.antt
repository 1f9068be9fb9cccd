-- What is written for one piece of the input, and for several in order.
use Rattle.std.specs.Prelude.{ℕ, List, [], ◌++◌}
use Rattle.replies.specs.declared.verdict.Verdict.{Verdict}

-- what goes to the output and what goes to the notes
pub record Written : Type 0 where
  pub output : List ℕ
  pub notes : List ℕ

-- what is answered for one piece, and what became of the piece
pub record Reply : Type 0 where
  pub output : List ℕ
  pub notes : List ℕ
  pub verdict : Verdict

-- Nothing written.
abbrev pub none_written : Written
none_written = record { output = []; notes = [] }

-- What is written for a reply.
abbrev pub written_of : Reply → Written
written_of reply = record { output = reply.output; notes = reply.notes }

-- what is written first, and then more
abbrev pub then_written : Written → Written → Written
then_written first more = record { output = first.output ++ more.output; notes = first.notes ++ more.notes }
