-- What is told of a message is told of the line that holds it.
use Rattle.std.proofs.Common.{◌≡◌, ℕ, List, length, Some, Ok, sym, subst}
use Rattle.sbe_types.specs.declared.schema.WireSchema.{WireSchema}
use Rattle.sbe_types.specs.declared.message.Msg.{Msg}
use Rattle.sbe_wire.specs.Misfit.{Misfit, misfit}
use Rattle.line_reading.specs.Lines.{tree_of}
use Rattle.sbe_c.specs.declared.answers.Answer.{Answer}
use Rattle.sbe_c.specs.declared.answers.Answer.TheVariants.{Done, Closed, Memory, File, Rule, Body, Room, Absent, Line, Misfit as Unfit}
use Rattle.sbe_c.specs.Outcomes.{Outcome}
use Rattle.sbe_c.specs.Building.{BuildsIn, PutsIn, TellsWhy}

-- a line that holds a message is answered as the message is
pub line_built : (a : Answer) (schema : WireSchema) (line : List ℕ) (m : Msg) (body path : Outcome) → tree_of schema line ≡ Ok m → PutsIn a schema m body path → BuildsIn a schema line body path
line_built Done schema line m body path held h = record { message = m; held = held; says = h }
line_built Closed schema line m body path held h = h
line_built Memory schema line m body path held h = tt
line_built File schema line m body path held h = h
line_built Rule schema line m body path held h = h
line_built Body schema line m body path held h = h
line_built Room schema line m body path held h = h
line_built Absent schema line m body path held h = h
line_built Line schema line m body path held h = absurd h
line_built Unfit schema line m body path held h = record { message = m; held = held; says = h }

-- a message with a misfit is answered as the misfit is
pub misfit_put : (a : Answer) (schema : WireSchema) (m : Msg) (limit : ℕ) (why : Misfit) (body path : Outcome) → misfit schema m limit ≡ Some why → limit ≡ length body.old → TellsWhy a schema m.template why path
    → PutsIn a schema m body path
misfit_put Done schema m limit why body path first room h = absurd h
misfit_put Closed schema m limit why body path first room h = h
misfit_put Memory schema m limit why body path first room h = tt
misfit_put File schema m limit why body path first room h = h
misfit_put Rule schema m limit why body path first room h = h
misfit_put Body schema m limit why body path first room h = h
misfit_put Room schema m limit why body path first room h = h
misfit_put Absent schema m limit why body path first room h = h
misfit_put Line schema m limit why body path first room h = h
misfit_put Unfit schema m limit why body path first room h = record { why = why; first = subst (λ n. misfit schema m n ≡ Some why) room first; why_told = h }
