use Rattle.frame_stream.specs.Window.{WindowState}
use Rattle.std.proofs.Common.{◌≡◌, ◌≤◌, rules, length, ap, ◌∙◌, subst}
use Rattle.frame_stream.proofs.Moving.{buffer_is, middle_fits, middle_kept, reads_dry}
use Rattle.frame_stream.proofs.window.Window.more_behind.Goals as goal

pub returns-in-Err-clause-reads : goal.returns-in-Err-clause-reads
returns-in-Err-clause-reads g c =
    let left = λ (o : _). (g.I.Source.state o).told in
    let w = c.self.inside in
    let read = c.in-Err.ensures in
    let new = c.read_within.new.buf in
    let len : w.buffer.len ≡ length new = search rules in
    let bytes = middle_kept w.start w.end w.buffer.len w.buffer.items c.as_mut_slice.result.now new len c.as_mut_slice.ensures.value read.kept in
    let size = ap length (buffer_is w.buffer.len w.buffer.items new len) ∙ read.size ∙ ap length c.as_mut_slice.ensures.value in
    let fits = subst (λ (k : WindowState). length k.held.bytes ≤ k.held.size) c.self.view_is (middle_fits w.start w.end w.buffer.items) in
    reads_dry w.end c.args.self.now.held _ (left c.args.input.now) (left c.read_within.new.input) c.read_within.new.buf c.in-Err.dry
    (bytes ∙ ap (λ (k : WindowState). k.held.bytes) c.self.view_is) (search rules) (search rules) (size ∙ ap (λ (k : WindowState). k.held.size) c.self.view_is) (search rules) fits (search rules) read.read
