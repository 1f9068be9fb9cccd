use Rattle.std.proofs.Common.{subst}
use Rattle.raw_fix.specs.Items.{ItemState, held_in}
use Rattle.frame_stream.specs.Window.{Reads}
use Rattle.raw_fix.proofs.KeptLemmas.{kept_read, reads_in}
use Rattle.raw_fix.proofs.items.Items.read.Goals as goal

pub more-requires-clause-room : goal.more-requires-clause-room
more-requires-clause-room g c = c.self.invariant.1.room

pub invariant_of-self : goal.invariant_of-self
invariant_of-self g c =
    let s = c.self.inside in
    let told = λ (o : _). (g.I.Source.state o).told in
    kept_read s.size s.bytes.held c.more.new.self.held s.plain s.begun s.recall (told c.args.input.now) (told c.more.new.input) c.more.result c.more.ensures.most c.more.ensures.reads c.self.invariant

pub returns-clause-reads : goal.returns-clause-reads
returns-clause-reads g c =
    let s = c.self.inside in
    let told = λ (o : _). (g.I.Source.state o).told in
    subst (λ (x : ItemState). Reads x.held (held_in s.size c.more.new.self.held) (told c.args.input.now) (told c.more.new.input) c.more.result) c.self.view_is
    (reads_in s.size s.bytes.held c.more.new.self.held (told c.args.input.now) (told c.more.new.input) c.more.result c.self.invariant.0.fits c.more.ensures.most c.more.ensures.reads)
