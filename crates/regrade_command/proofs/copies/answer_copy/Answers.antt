use Rattle.std.proofs.Common.{ap, ◌∙◌}
use Rattle.dump_lines.specs.Dumped.{encoding_of}
use Rattle.version_copies.specs.Copies.{copy_bytes}
use Rattle.regrade_command.proofs.CopyAnswers.{frame_is, put_whole, put_part}
use Rattle.regrade_command.proofs.copies.answer_copy.Goals as goal

pub returns-in-Ok : goal.returns-in-Ok
returns-in-Ok g c = λ notes.
    put_whole _ _ _ _ (frame_is c.args.written.now (copy_bytes c.args.copy.now) c.encoding_of.result (c.encoding_of.ensures ∙ ap encoding_of c.order.ensures)) notes c.in-Ok.ensures

pub returns-in-Err : goal.returns-in-Err
returns-in-Err g c = λ notes.
    put_part _ _ _ _ (frame_is c.args.written.now (copy_bytes c.args.copy.now) c.encoding_of.result (c.encoding_of.ensures ∙ ap encoding_of c.order.ensures)) notes c.in-Err.ensures
