use Rattle.std.proofs.Common.{subst}
use Rattle.json_elements.specs.Reading.{Gives}
use Rattle.json_elements.proofs.Pointers.{goes_out}
use Rattle.json_elements.specs.declared.refusal.Step.TheVariants.{Item}
use Rattle.json_elements.proofs.refusal.at_position.Goals as goal

pub returns-in-Err : goal.returns-in-Err
returns-in-Err g c = λ told given. goes_out (Item c.args.i) c.in-Err.e c.within.result told c.within.ensures (subst (λ r. Gives r told) c.in-Err.is given)
