use Rattle.std.proofs.Common.{◌<◌, ap, length, take, arith, length-take, ◌∙◌}
use Rattle.std.specs.Prelude.{Some}
use Rattle.std.proofs.lemmas.List.{get_or-take}
use Rattle.std.proofs.lemmas.Option.{slice_get-get_or}
use Rattle.sbe_types.proofs.path.Path.step.Goals as goal

pub offset_bounds-self-inside-i : goal.offset_bounds-self-inside-i
offset_bounds-self-inside-i c =
    let size = simp length-take at (ap length c.self.view_is) in
    omega arith

pub returns : goal.returns
returns c =
    let size = simp length-take at (ap length c.self.view_is) in
    let within : c.args.i < c.self.inside.len = omega arith in
    rw (← c.self.view_is) (slice_get-get_or (take c.self.inside.len c.self.inside.steps) c.args.i _ (simp length-take (omega arith)) ∙ ap Some (get_or-take c.self.inside.len c.self.inside.steps c.args.i _ within))
