use Rattle.std.proofs.Common.{rules, refl}
use Rattle.frame_stream.proofs.Moving.{moves_none, stops_dry}
use Rattle.frame_stream.proofs.window.Window.fill.Goals as goal

pub loop-self-init : goal.loop-self-init
loop-self-init g c = record { moved = moves_none c.args.self.now.held (g.I.Source.state c.args.input.now).told (search rules) (search rules); within = c.requires.less; faults = refl }

pub returns-in-Err-clause-fills : goal.returns-in-Err-clause-fills
returns-in-Err-clause-fills g c =
    let left = λ (o : _). (g.I.Source.state o).told in
    stops_dry c.args.self.now.held c.loop-self.self.held c.more.new.self.held (left c.args.input.now) (left c.loop-self.input) (left c.more.new.input) c.in-Err.dry _ c.loop-self.invariant.moved c.in-Err.ensures.reads (search rules)
