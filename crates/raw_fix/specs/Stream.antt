-- Items taken one by one from a source. Own profile.
use Rattle.std.specs.Prelude.{◌≡◌, ◌<◌, ◌≤◌, ℕ, ◌+◌, ◌-◌, nat_lt, Bool, true, Option, Some, None, Result, Ok, Err, List, [], ◌∷◌, ◌++◌, length, take}
use Rattle.raw_fix.specs.declared.taken.Run.{Run}
use Rattle.raw_fix.specs.declared.taken.RawEnded.{RawEnded}
use Rattle.raw_fix.specs.declared.taken.RawEnded.TheVariants as ended
use Rattle.raw_fix.specs.declared.taken.RawTaken.{RawTaken}
use Rattle.raw_fix.specs.declared.taken.RawTaken.TheVariants as taken
use Rattle.raw_fix.specs.declared.taken.RawErr.{RawErr}
use Rattle.raw_fix.specs.declared.taken.RawErr.TheVariants as err
use Rattle.raw_fix.specs.Raw.{Texts, mark, NoMark, Undecided, Garbled, Item, IsItem, IsGarbled, RunsOn, Raw, RawEnd, End, InputLimit, message}

-- the bytes held after the last item, the last text taken, how many bytes were taken, the most bytes of a text and of
-- the input, garbled bytes that haven't ended, whether the source has ended after the bytes held, and the answer that
-- stays, if it was reached
pub record RawState : Type 0 where
  pub held : List ℕ
  pub text : List ℕ
  pub taken : ℕ
  pub most : ℕ
  pub input : ℕ
  pub run : Option Run
  pub met : Bool
  pub ended : Option RawEnded

-- the most bytes that the stream may still have
abbrev pub room : RawState → ℕ
room s = s.input + length s.held - s.taken

-- What is held was taken, and no more was taken than may be.
pub record IsCounted (s : RawState) : Type 0 where
  pub there : length s.held ≤ s.taken
  pub within : s.taken ≤ s.input

-- the offset of the first byte that is held
abbrev pub place : RawState → ℕ
place s = s.taken - length s.held

-- what a stream still has of the input, from which offset on, and whether it goes on after the input
pub record Ahead : Type 0 where
  pub place : ℕ
  pub bytes : List ℕ
  pub goes_on : Bool

-- what this stream still has: what is held and what follows
abbrev pub ahead : List ℕ → RawState → Ahead
ahead stream s = record { place = place s; bytes = take (room s) stream; goes_on = nat_lt (room s) (length stream) }

-- no mark begins in the first n bytes
abbrev pub NoneBefore : List ℕ → ℕ → Type 0
NoneBefore bytes n = (f m : List ℕ) → bytes ≡ f ++ mark ++ m → n ≤ length f

-- These first bytes are part of a run from its first byte on: no mark begins after that byte.
pub record BeginsRun (bytes gone : List ℕ) : Type 0 where
  pub byte : ℕ
  pub after : List ℕ
  pub front : List ℕ
  pub begins : bytes ≡ byte ∷ after
  pub runs : gone ≡ byte ∷ front
  pub none : NoneBefore after (length front)

-- these bytes are a garbled item, or the rest of the one that hasn't ended, and `run` reports it
abbrev pub Garbles : Texts → Ahead → List ℕ → Option Run → Run → Type 0
Garbles texts next front None run = IsItem texts next.goes_on next.bytes (record { kind = Garbled run.code; bytes = front }) × (run.at ≡ next.place) × (run.length ≡ length front)
Garbles texts next front (Some begun) run = RunsOn next.goes_on next.bytes front × (run ≡ record begun { length = begun.length + length front })

-- these bytes are dropped: none, or those of a garbled item that hasn't ended
abbrev pub LetsGo : Texts → Ahead → List ℕ → Option Run → Option Run → Type 0
LetsGo texts next gone None None = gone ≡ []
LetsGo texts next gone None (Some run) = IsGarbled texts next.goes_on next.bytes run.code × BeginsRun next.bytes gone × (run.at ≡ next.place) × (run.length ≡ length gone)
LetsGo texts next gone (Some begun) None = ⊥
LetsGo texts next gone (Some begun) (Some run) = NoneBefore next.bytes (length gone) × (run ≡ record begun { length = begun.length + length gone })

-- the bytes held settle nothing: a text may begin here, or the run that has begun goes on
abbrev pub Stuck : Texts → List ℕ → Option Run → Type 0
Stuck texts bytes None = Undecided texts.most bytes
Stuck texts bytes (Some run) = NoMark bytes

-- all the bytes that may be taken settle nothing
abbrev pub Unsettled : Texts → List ℕ → ℕ → Option Run → Type 0
Unsettled texts stream room None = Raw texts stream room [] InputLimit
Unsettled texts stream room (Some run) = (nat_lt room (length stream) ≡ true) × NoMark (take room stream)

-- all bytes from the first one held on, and those that the source has left afterwards
pub record RawBetween : Type 0 where
  pub stream : List ℕ
  pub left : List ℕ

-- The stream is what was held and what the source had left. Its items go on with this answer. At the limit and at a
-- fault, bytes of a garbled item that hasn't ended may have been dropped.
abbrev pub TakesBy : Texts → RawState → RawState → RawBetween → Result RawTaken RawErr → Type 0
TakesBy texts old new b (Ok taken.Message) =
    (old.run ≡ None) × (new.run ≡ None) × IsItem texts (ahead b.stream old).goes_on (ahead b.stream old).bytes (message new.text)
    × (room old ≡ length new.text + room new) × (b.stream ≡ new.text ++ (new.held ++ b.left))
TakesBy texts old new b (Ok (taken.Garbled code at many)) =
    (front : List ℕ) × Garbles texts (ahead b.stream old) front old.run (record { code = code; at = at; length = many }) × (new.run ≡ None)
    × (room old ≡ length front + room new) × (b.stream ≡ front ++ (new.held ++ b.left))
TakesBy texts old new b (Ok taken.End) = (old.run ≡ None) × Raw texts b.stream (room old) [] End × (b.stream ≡ new.held ++ b.left)
TakesBy texts old new b (Err err.InputLimit) = Unsettled texts b.stream (room old) old.run × ((gone : List ℕ) × (x : ℕ) × (b.stream ≡ gone ++ (new.held ++ x ∷ b.left)))
TakesBy texts old new b (Err err.ReadFault) =
    (gone : List ℕ) × LetsGo texts (ahead b.stream old) gone old.run new.run × (room old ≡ length gone + room new) × (b.stream ≡ gone ++ (new.held ++ b.left))

-- how many bytes of a garbled item were dropped
abbrev pub so_far : Option Run → ℕ
so_far None = 0
so_far (Some run) = run.length

-- the most bytes that the stream may still have, from the next item on, or from the first byte of the one that hasn't
-- ended
abbrev pub item_room : RawState → ℕ
item_room s = room s + so_far s.run

-- An item takes its bytes off the room, whether or not the source is modelled. No other answer changes the room.
abbrev pub RawFalls : RawState → RawState → Result RawTaken RawErr → Type 0
RawFalls old new (Ok taken.Message) = item_room old ≡ length new.text + item_room new
RawFalls old new (Ok (taken.Garbled code at many)) = item_room old ≡ many + item_room new
RawFalls old new (Ok taken.End) = item_room new ≡ item_room old
RawFalls old new (Err e) = item_room new ≡ item_room old

-- What is held after an answer. After a fault and at the limit, the bytes held settle no item.
abbrev pub RawHeldBy : Texts → RawState → Result RawTaken RawErr → Type 0
RawHeldBy texts new (Ok taken.Message) = (new.run ≡ None) × (0 < length new.text) × (length new.text ≤ texts.most)
RawHeldBy texts new (Ok (taken.Garbled code at many)) = (new.run ≡ None) × (0 < many)
RawHeldBy texts new (Ok taken.End) = (new.run ≡ None) × (new.held ≡ [])
RawHeldBy texts new (Err err.InputLimit) = Stuck texts new.held new.run × (new.taken ≡ new.input)
RawHeldBy texts new (Err err.ReadFault) = Stuck texts new.held new.run

-- ---- what is taken in order

-- the item of a stream that an answer reports
abbrev pub item_of_answer : List ℕ → RawState → RawTaken → Option Item
item_of_answer stream new taken.Message = Some (message new.text)
item_of_answer stream new (taken.Garbled code at many) = Some (record { kind = Garbled code; bytes = take many stream })
item_of_answer stream new taken.End = None

-- These items are taken of the stream one after another, and the bytes left are not.
abbrev pub TakesItems : Texts → List Item → RawState → RawState → RawBetween → Type 0
TakesItems texts [] old new b = (b.stream ≡ b.left) × (new ≡ old)
TakesItems texts (item ∷ items) old new b =
    (told : RawTaken) × (next : RawState) × (left' : List ℕ) × TakesBy texts old next (record { stream = b.stream; left = left' }) (Ok told) × (item_of_answer b.stream next told ≡ Some item)
    × TakesItems texts items next new (record { stream = next.held ++ left'; left = b.left })

-- the end of the items of a stream that ends like this
abbrev pub raw_end : RawEnded → RawEnd
raw_end ended.End = End
raw_end ended.Limit = InputLimit
