use Rattle.std.proofs.Common.{[], rules, arith}
use Rattle.tofix_replies.proofs.notes.note_halt.Goals as goal

pub returns : goal.returns
returns g c = λ lists p u rows is near.
    let w = c.finish.ensures.ends _ _ ((c.put_halt.ensures.text lists p u rows is near).more (g.N.Sink.state c.args.sink.now) [] c.new-printer.ensures.begins) in
    first_of (search (rules, w, c.new-printer.ensures.same_reference, c.put_halt.ensures.same_reference), grind (arith, w))
