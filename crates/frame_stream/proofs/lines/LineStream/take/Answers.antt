use Rattle.std.proofs.Common.{◌+◌, Some, Ok, Err, subst}
use Rattle.frame_stream.specs.declared.lines.LineEnded.TheVariants as line_ended
use Rattle.frame_stream.specs.declared.lines.LineTaken.TheVariants as line
use Rattle.frame_stream.specs.declared.lines.LineErr.TheVariants as line_err
use Rattle.frame_stream.specs.LineTakes.{TakesLine, lines_shown}
use Rattle.frame_stream.proofs.LineCuts.{takes_line, takes_last, takes_limit, takes_full}
use Rattle.frame_stream.proofs.lines.LineStream.take.Goals as goal

pub returns-in-Ok-clause-takes : goal.returns-in-Ok-clause-takes
returns-in-Ok-clause-takes g c = λ none.
    let l = (g.I.Source.state c.args.input.now).told in
    let r = (g.I.Source.state c.next_end.new.input).told in
    let s = c.self.inside in
    let n = c.next_end.new.self.held in
    let i = c.in-Ok.i in
    subst (λ old. TakesLine old (lines_shown i (i + 1) n s.ended) l r (Ok line.Line)) c.self.view_is
    (takes_line s.line s.front s.bytes.held n c.self.invariant s.ended l r i c.in_default.is c.in-Ok.ensures.ends)

pub returns-in-Err-Dry-End-clause-takes : goal.returns-in-Err-Dry-End-clause-takes
returns-in-Err-Dry-End-clause-takes g c = λ none.
    let l = (g.I.Source.state c.args.input.now).told in
    let r = (g.I.Source.state c.next_end.new.input).told in
    let s = c.self.inside in
    let n = c.next_end.new.self.held in
    let len = c.len-len.result in
    let e = c.in-Err-Dry-End in
    subst (λ old. TakesLine old (lines_shown len len n (Some line_ended.End)) l r (Ok c.last_taken.result)) c.self.view_is
    (takes_last s.line s.front s.bytes.held n c.self.invariant s.ended l r len c.last_taken.result c.in_default.is c.len-len.ensures c.last_taken.ensures (rw (e.field-0-is, e.field-0-0-is) at e.ensures.ends))

pub returns-in-Err-Dry-Over-clause-takes : goal.returns-in-Err-Dry-Over-clause-takes
returns-in-Err-Dry-Over-clause-takes g c = λ none.
    let l = (g.I.Source.state c.args.input.now).told in
    let r = (g.I.Source.state c.next_end.new.input).told in
    let s = c.self.inside in
    let n = c.next_end.new.self.held in
    let e = c.in-Err-Dry-Over in
    subst (λ old. TakesLine old (lines_shown 0 0 n (Some line_ended.Limit)) l r (Err line_err.InputLimit)) c.self.view_is
    (takes_limit s.line s.front s.bytes.held n c.self.invariant s.ended l r c.in_default.is (rw (e.field-0-is, e.field-0-0-is) at e.ensures.ends))

pub returns-in-Err-Full-clause-takes : goal.returns-in-Err-Full-clause-takes
returns-in-Err-Full-clause-takes g c = λ none.
    let l = (g.I.Source.state c.args.input.now).told in
    let r = (g.I.Source.state c.next_end.new.input).told in
    let s = c.self.inside in
    let n = c.next_end.new.self.held in
    let e = c.in-Err-Full in
    subst (λ old. TakesLine old (lines_shown 0 0 n (Some line_ended.Over)) l r (Err line_err.LineOver)) c.self.view_is
    (takes_full s.line s.front s.bytes.held n c.self.invariant s.ended l r c.in_default.is (rw e.field-0-is at e.ensures.ends))
