use Rattle.layout_tables.specs.Paths.{path_found}
use Rattle.path_text.specs.Walks.{inside_of}
use Rattle.path_text.proofs.PathSteps.{path_leads, any_first, path_more}
use Rattle.path_text.proofs.paths.put_path.Goals as goal

pub put_step-requires : goal.put_step-requires
put_step-requires g c =
    path_leads (path_found c.args.layout.now c.args.template c.args.path.now) c.loop-i.first (inside_of c.loop-i.place) c.args.path.now c.loop-i.i c.step-step.result
    c.loop-i.invariant c.step-step.ensures c.requires

pub place_behind-place-requires : goal.place_behind-place-requires
place_behind-place-requires g c =
    any_first c.loop-i.first (inside_of c.loop-i.place) c.step-step.result
    (path_leads (path_found c.args.layout.now c.args.template c.args.path.now) c.loop-i.first (inside_of c.loop-i.place) c.args.path.now c.loop-i.i c.step-step.result
    c.loop-i.invariant c.step-step.ensures c.requires)

pub loop-i-preserved : goal.loop-i-preserved
loop-i-preserved g c =
    path_more (path_found c.args.layout.now c.args.template c.args.path.now) c.loop-i.first (inside_of c.loop-i.place) (inside_of c.place_behind-place.result) c.args.path.now c.loop-i.i c.step-step.result
    c.loop-i.invariant c.step-step.ensures (c.place_behind-place.ensures c.loop-i.first) c.put_step.ensures
