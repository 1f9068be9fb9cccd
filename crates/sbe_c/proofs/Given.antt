-- What is said of a text of a message is said of the body in which the message lies.
use Rattle.std.proofs.Common.{◌≡◌, ℕ, List, Option, Some}
use Rattle.std.specs.Prelude.{slice_get}
use Rattle.sbe_types.specs.declared.schema.WireSchema.{WireSchema}
use Rattle.sbe_wire.specs.Lays.{Lays}
use Rattle.flyweight_view.specs.TypedBlocks.{TypedMessage}
use Rattle.sbe_c.specs.declared.answers.Answer.{Answer}
use Rattle.sbe_c.specs.declared.answers.Answer.TheVariants.{Done, Closed, Memory, File, Rule, Body, Room, Absent, Line, Misfit}
use Rattle.sbe_c.specs.Outcomes.{Outcome}
use Rattle.sbe_c.specs.Fields.{GivesText, TextIn}

pub text_given : (text : TypedMessage → Option (List ℕ)) (a : Answer) (schema : WireSchema) (body : List ℕ) (told : Outcome) (seen : TypedMessage) → Lays schema seen.message body
    → slice_get schema.messages seen.message.template ≡ Some seen.level → GivesText a (text seen) told → TextIn text a schema body told
text_given text Done schema body told seen lies root h = record { message = seen.message; level = seen.level; lies = lies; root = root; says = h }
text_given text Closed schema body told seen lies root h = h
text_given text Memory schema body told seen lies root h = h
text_given text File schema body told seen lies root h = h
text_given text Rule schema body told seen lies root h = h
text_given text Body schema body told seen lies root h = absurd h
text_given text Room schema body told seen lies root h = record { message = seen.message; level = seen.level; lies = lies; root = root; says = h }
text_given text Absent schema body told seen lies root h = record { message = seen.message; level = seen.level; lies = lies; root = root; says = h }
text_given text Line schema body told seen lies root h = h
text_given text Misfit schema body told seen lies root h = h
