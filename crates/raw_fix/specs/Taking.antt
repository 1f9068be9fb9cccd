-- What a stream reports. Own profile.
use Rattle.std.specs.Prelude.{◌≡◌, ◌≤◌, ℕ, Bool, true, false, not, Option, Some, None, Result, Ok, Err, List, [], ◌++◌, ⊤}
use Rattle.std.specs.Io.KnownBytes.{Consumes, IsAtEnd}
use Rattle.sbe_base.specs.Causes.{Rose}
use Rattle.tagvalue_codec.specs.declared.data_tags.Pair.{Pair}
use Rattle.tagvalue_codec.specs.declared.table.FixField.{FixField}
use Rattle.tagvalue_codec.specs.Places.{Holds}
use Rattle.raw_fix.specs.declared.taken.RawEnded.{RawEnded}
use Rattle.raw_fix.specs.declared.taken.RawEnded.TheVariants as ended
use Rattle.raw_fix.specs.declared.taken.RawTaken.{RawTaken}
use Rattle.raw_fix.specs.declared.taken.RawTaken.TheVariants as taken
use Rattle.raw_fix.specs.declared.taken.RawErr.{RawErr}
use Rattle.raw_fix.specs.declared.taken.RawErr.TheVariants as err
use Rattle.raw_fix.specs.Raw.{Texts, IsItem, message}
use Rattle.raw_fix.specs.Fields.{fix_texts}
use Rattle.raw_fix.specs.Stream.{RawState, IsCounted, place, Garbles, LetsGo, TakesBy, RawFalls, RawHeldBy}

-- the answer at an end
abbrev pub end_answer : RawEnded → Result RawTaken RawErr
end_answer ended.End = Ok taken.End
end_answer ended.Limit = Err err.InputLimit

-- the end that an answer reports, which stays
abbrev pub raw_ended_of : Result RawTaken RawErr → Option RawEnded
raw_ended_of (Ok taken.Message) = None
raw_ended_of (Ok (taken.Garbled code at many)) = None
raw_ended_of (Ok taken.End) = Some ended.End
raw_ended_of (Err err.InputLimit) = Some ended.Limit
raw_ended_of (Err err.ReadFault) = None

-- the texts of this stream
abbrev pub texts_for : List Pair → RawState → Texts
texts_for tags s = fix_texts tags s.most

-- what a source has left, before and after
pub record Lefts : Type 0 where
  pub before : Option (List ℕ)
  pub after : Option (List ℕ)

-- P holds of the bytes of the source if they are modelled; nothing is required if not
abbrev pub IfTold : Option (List ℕ) → Option (List ℕ) → (List ℕ → List ℕ → Type 0) → Type 0
IfTold None left' P = ⊤
IfTold (Some left) None P = ⊥
IfTold (Some left) (Some left') P = P left left'

-- the answer by the bytes of the source if they are modelled, and any answer if not
abbrev pub TakesFrom : Texts → RawState → RawState → Lefts → Result RawTaken RawErr → Type 0
TakesFrom texts old new lefts result = IfTold lefts.before lefts.after (λ left left'. TakesBy texts old new (record { stream = old.held ++ left; left = left' }) result)

-- What was read of the source, and the bytes of an item, or those that were dropped; the rest is held.
pub record Comes (old new : List ℕ) (lefts : Lefts) (gone : List ℕ) : Type 0 where
  pub more : List ℕ
  pub consumed : Consumes lefts.before lefts.after more
  pub parts : old ++ more ≡ gone ++ new

-- The bytes taken alone determine the answer, whatever the source has left, or where it has ended.
abbrev pub ComesBy : Texts → RawState → RawState → Lefts → Result RawTaken RawErr → Type 0
ComesBy texts old new lefts (Ok taken.Message) =
    Comes old.held new.held lefts new.text × IsItem texts true (new.text ++ new.held) (message new.text)
ComesBy texts old new lefts (Ok (taken.Garbled code at many)) =
    (gone : List ℕ) × Comes old.held new.held lefts gone
    × Garbles texts (record { place = place old; bytes = gone ++ new.held; goes_on = not new.met }) gone old.run
    (record { code = code; at = at; length = many })
ComesBy texts old new lefts (Ok taken.End) = ⊤
ComesBy texts old new lefts (Err err.InputLimit) = ⊤
ComesBy texts old new lefts (Err err.ReadFault) =
    (gone : List ℕ) × Comes old.held new.held lefts gone
    × LetsGo texts (record { place = place old; bytes = gone ++ new.held; goes_on = true }) gone old.run new.run

-- Once the source has ended it stays so, it has no bytes left, and no read fails.
pub record Meets (old new : Bool) (lefts : Lefts) (result : Result RawTaken RawErr) : Type 0 where
  pub stays : old ≡ true → new ≡ true
  pub ended : new ≡ true → IsAtEnd lefts.after
  pub reads : result ≡ Err err.ReadFault → new ≡ false

-- what a source has left: nothing if it has ended
abbrev pub left_if : Bool → Option (List ℕ) → Option (List ℕ)
left_if true left = Some []
left_if false left = left

-- the same before and after
abbrev pub lefts_if : Bool → Lefts → Lefts
lefts_if met lefts = record { before = left_if met lefts.before; after = left_if met lefts.after }

-- What holds whether or not the bytes of the source are modelled.
pub record TakesRaw (texts : Texts) (old new : RawState) (lefts : Lefts) (result : Result RawTaken RawErr) : Type 0 where
  pub from : TakesFrom texts old new lefts result
  pub falls : RawFalls old new result
  pub held : RawHeldBy texts new result
  pub comes : ComesBy texts old new lefts result
  pub meets : Meets old.met new.met lefts result
  pub ended : new.ended ≡ raw_ended_of result
  pub counted : IsCounted new
  pub most : new.most ≡ old.most
  pub input : new.input ≡ old.input

-- no text is lent unless a message was taken
abbrev pub RawTextOf : RawState → Result RawTaken RawErr → Type 0
RawTextOf new (Ok taken.Message) = new.ended ≡ None
RawTextOf new (Ok (taken.Garbled code at many)) = new.text ≡ []
RawTextOf new (Ok taken.End) = new.text ≡ []
RawTextOf new (Err e) = new.text ≡ []

-- the table has the fields of a message, and else none
abbrev pub TableOf : List Pair → List ℕ → Result RawTaken RawErr → List FixField → Type 0
TableOf tags text (Ok taken.Message) table = Holds tags text table
TableOf tags text (Ok (taken.Garbled code at many)) table = table ≡ []
TableOf tags text (Ok taken.End) table = table ≡ []
TableOf tags text (Err e) table = table ≡ []

-- the count of faults rose at a read fault, and any other answer leaves it
abbrev pub RawCause : {T : Type 0} → ℕ → ℕ → Result T RawErr → Type 0
RawCause before now (Ok x) = now ≡ before
RawCause before now (Err err.InputLimit) = now ≡ before
RawCause before now (Err err.ReadFault) = (before ≤ now) × Rose before now
