use Rattle.std.proofs.Common.{subst}
use Rattle.json_elements.specs.Reading.{Gives}
use Rattle.json_elements.proofs.Pointers.{goes_out}
use Rattle.json_elements.specs.declared.refusal.Step.TheVariants.{Name}
use Rattle.json_elements.proofs.refusal.inside.Goals as goal

pub returns-in-Err : goal.returns-in-Err
returns-in-Err g c = λ told given. goes_out (Name c.args.step) c.in-Err.e c.within.result told c.within.ensures (subst (λ r. Gives r told) c.in-Err.is given)
