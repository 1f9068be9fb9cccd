use Rattle.std.proofs.Common.{◌≡◌, Ok, ap, ◌∙◌, subst}
use Rattle.open_framing.specs.Heads.{head_of, IsBytes}
use Rattle.frame_stream.proofs.Nexts.{part_next, whole_next}
use Rattle.frame_stream.proofs.window.Window.read_frame.Goals as goal

pub returns-in-Ok-fill-clause-nexts : goal.returns-in-Ok-fill-clause-nexts
returns-in-Ok-fill-clause-nexts g c =
    let left = λ (o : _). (g.I.Source.state o).told in
    let head = c.in-Ok-read_head.head in
    let begun = c.in-Ok.ensures.begins in
    let filled = c.in-Ok-fill.ensures in
    let is : Ok head ≡ head_of c.begin_frame.new.self.held.bytes c.begin_frame.new.self.held.size = c.in-Ok-read_head.ensures ∙ ap (λ b. head_of b c.size.result) c.as_slice.ensures ∙ ap (head_of c.begin_frame.new.self.held.bytes) c.size.ensures in
    whole_next c.args.self.now.held c.begin_frame.new.self.held c.fill.new.self.held (left c.args.input.now) (left c.begin_frame.new.input) (left c.fill.new.input) head begun.0 begun.1 is filled.fills filled.whole (subst IsBytes c.as_slice-in-Ok-fill.ensures c.are_bytes.ensures)

pub returns-in-Err-fill-clause-nexts : goal.returns-in-Err-fill-clause-nexts
returns-in-Err-fill-clause-nexts g c =
    let left = λ (o : _). (g.I.Source.state o).told in
    let head = c.in-Ok-read_head.head in
    let begun = c.in-Ok.ensures.begins in
    let is : Ok head ≡ head_of c.begin_frame.new.self.held.bytes c.begin_frame.new.self.held.size = c.in-Ok-read_head.ensures ∙ ap (λ b. head_of b c.size.result) c.as_slice.ensures ∙ ap (head_of c.begin_frame.new.self.held.bytes) c.size.ensures in
    part_next c.args.self.now.held c.begin_frame.new.self.held c.fill.new.self.held (left c.args.input.now) (left c.begin_frame.new.input) (left c.fill.new.input) head c.in-Err-fill.stop begun.0 begun.1 is c.in-Err-fill.ensures.fills c.in-Err-fill.ensures.part
