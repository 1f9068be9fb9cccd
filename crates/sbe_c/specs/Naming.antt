-- What is answered when a part of a schema is looked for by its name.
use Rattle.std.specs.Prelude.{◌≡◌, ℕ, nat_eq, if◌then◌else◌, Option, Some, None, List, ⊤}
use Rattle.std.specs.Option.{option_and_then}
use Rattle.sbe_types.specs.declared.schema.WireSchema.{WireSchema}
use Rattle.field_lookup.specs.declared.parts.Part.{Part}
use Rattle.field_lookup.specs.declared.parts.Sort.{Sort}
use Rattle.field_lookup.specs.declared.parts.Sort.TheVariants as sorts
use Rattle.field_lookup.specs.Parts.{part_named}
use Rattle.sbe_c.specs.declared.answers.Answer.{Answer}
use Rattle.sbe_c.specs.declared.answers.Answer.TheVariants as answer

-- What is looked for: the number of its sort, the level that has it, and its name.
pub record Sought : Type 0 where
  pub sort : ℕ
  pub level : ℕ
  pub name : List ℕ

-- the sort of a number that C passes
abbrev pub sort_numbered : ℕ → Option Sort
sort_numbered n =
    if nat_eq n 0 then Some sorts.Message
    else (if nat_eq n 1 then Some sorts.Field
    else (if nat_eq n 2 then Some sorts.Group
    else (if nat_eq n 3 then Some sorts.Data else None)))

-- the part that is looked for; there is none of another sort
abbrev pub part_sought : Sought → WireSchema → Option Part
part_sought sought schema = option_and_then (λ s. part_named s sought.level sought.name schema) (sort_numbered sought.sort)

-- the part is this one, or there is none
abbrev pub PartIn : Answer → WireSchema → Sought → Part → Type 0
PartIn answer.Done schema sought part = part_sought sought schema ≡ Some part
PartIn answer.Closed schema sought part = ⊥
PartIn answer.Memory schema sought part = ⊤
PartIn answer.File schema sought part = ⊥
PartIn answer.Rule schema sought part = ⊥
PartIn answer.Body schema sought part = ⊥
PartIn answer.Room schema sought part = ⊥
PartIn answer.Absent schema sought part = part_sought sought schema ≡ None
PartIn answer.Line schema sought part = ⊥
PartIn answer.Misfit schema sought part = ⊥

-- the same by a handle, which may be closed
abbrev pub AnswersPart : Answer → Option WireSchema → Sought → Part → Type 0
AnswersPart a (Some schema) sought part = PartIn a schema sought part
AnswersPart a None sought part = a ≡ answer.Closed
