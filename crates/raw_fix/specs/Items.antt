-- The bytes of a stream that are held from the next item on. Own profile.
use Rattle.std.specs.Prelude.{◌≡◌, ◌<◌, ◌≤◌, ℕ, ◌+◌, ◌-◌, Bool, false, Option, Some, None, Result, Ok, Err, List, [], ◌++◌, length, take, drop, IfSome, ⊤}
use Rattle.frame_stream.specs.Window.{HeldState}
use Rattle.open_framing.specs.declared.head.TheConstants.{HEAD_BYTES}
use Rattle.raw_fix.specs.declared.taken.Run.{Run}
use Rattle.raw_fix.specs.declared.taken.RawEnded.{RawEnded}
use Rattle.raw_fix.specs.declared.taken.RawTaken.{RawTaken}
use Rattle.raw_fix.specs.declared.taken.RawTaken.TheVariants as taken
use Rattle.raw_fix.specs.declared.taken.RawErr.{RawErr}
use Rattle.raw_fix.specs.declared.items.Settled.{Settled}
use Rattle.raw_fix.specs.declared.items.Settled.TheVariants as settled
use Rattle.tagvalue_codec.specs.declared.data_tags.Pair.{Pair}
use Rattle.raw_fix.specs.declared.items.TheConstants.{LEAST_FRAME}
use Rattle.raw_fix.specs.Raw.{Texts, IsMessage}
use Rattle.raw_fix.specs.Fields.{fix_texts}
use Rattle.raw_fix.specs.Stream.{RawState, Garbles, LetsGo, Stuck, RawFalls, RawHeldBy}
use Rattle.raw_fix.specs.Taking.{Lefts, TakesFrom, ComesBy, Meets}
use Rattle.raw_fix.specs.Steps.{Whatever}
use Rattle.raw_fix.specs.Claims.{before_soh}

-- the bytes held, the garbled bytes before them that haven't ended, and whether the source has ended after what is held
pub record ItemState : Type 0 where
  pub held : HeldState
  pub begun : Option Run
  pub met : Bool

-- what is held if at most so many bytes are
abbrev pub held_in : ℕ → HeldState → HeldState
held_in size h = record { bytes = h.bytes; size = size; taken = h.taken; limit = h.limit }

-- the offset of the first byte
abbrev pub item_place : ItemState → ℕ
item_place s = s.held.taken - length s.held.bytes

-- the first `plain` bytes have no SOH, and a run, if one has begun, has at least one byte before them
pub record AreItems (plain : ℕ) (h : HeldState) (begun : Option Run) : Type 0 where
  pub room : LEAST_FRAME ≤ h.size
  pub within : h.taken ≤ h.limit
  pub fits : length h.bytes ≤ h.size
  pub there : length h.bytes ≤ h.taken
  pub front : plain ≤ length h.bytes
  pub none : before_soh (take plain h.bytes) ≡ None
  pub counts : IfSome begun (λ run. run.length + length h.bytes ≤ h.taken)
  pub some : IfSome begun (λ run. 0 < run.length)

-- the first bytes are dropped, and nothing else of what is held changes
pub record Drops (old new : HeldState) (gone : List ℕ) : Type 0 where
  pub bytes : old.bytes ≡ gone ++ new.bytes
  pub size : new.size ≡ old.size
  pub taken : new.taken ≡ old.taken
  pub limit : new.limit ≡ old.limit

-- more bytes are needed, and there is room for them
abbrev pub Waits : Texts → ItemState → Type 0
Waits texts s = (length s.held.bytes < s.held.size) × Stuck texts s.held.bytes s.begun

-- what is settled by what is held, whatever follows
abbrev pub Settles : Texts → ItemState → ItemState → Option Settled → Type 0
Settles texts old new (Some (settled.Message n)) = (new ≡ old) × (old.begun ≡ None) × (n ≤ length old.held.bytes) × IsMessage texts old.held.bytes (take n old.held.bytes)
Settles texts old new (Some (settled.Garbled run)) =
    (gone : List ℕ) × Drops old.held new.held gone × (new.begun ≡ None) × Whatever old.held.bytes (item_place old) (λ next. Garbles texts next gone old.begun run)
    × (new.met ≡ old.met)
Settles texts old new (Some settled.End) = ⊥
Settles texts old new None =
    (gone : List ℕ) × Drops old.held new.held gone × Whatever old.held.bytes (item_place old) (λ next. LetsGo texts next gone old.begun new.begun) × Waits texts new
    × (new.met ≡ old.met)

-- what is settled if nothing follows
abbrev pub Finishes : Texts → ItemState → ItemState → Settled → Type 0
Finishes texts old new (settled.Message n) = ⊥
Finishes texts old new (settled.Garbled run) =
    (gone : List ℕ) × Drops old.held new.held gone × (new.begun ≡ None) × Garbles texts (record { place = item_place old; bytes = old.held.bytes; goes_on = false }) gone old.begun run × (new.met ≡ old.met)
Finishes texts old new settled.End = (old.begun ≡ None) × (old.held.bytes ≡ []) × (new ≡ old)

-- the texts of this buffer: at most a frame less its head
abbrev pub texts_of : List Pair → ItemState → Texts
texts_of tags s = fix_texts tags (s.held.size - HEAD_BYTES)

-- the state that the items show, where the first `text` bytes are the last text taken
abbrev pub raw_shown : ℕ → ItemState → Option RawEnded → RawState
raw_shown text s end = record {
  held = drop text s.held.bytes;
  text = take text s.held.bytes;
  taken = s.held.taken;
  most = s.held.size - HEAD_BYTES;
  input = s.held.limit;
  run = s.begun;
  met = s.met;
  ended = end;
}

-- the answer by what was settled
abbrev pub settled_answer : Result Settled RawErr → Result RawTaken RawErr
settled_answer (Ok (settled.Message n)) = Ok taken.Message
settled_answer (Ok (settled.Garbled run)) = Ok (taken.Garbled run.code run.at run.length)
settled_answer (Ok settled.End) = Ok taken.End
settled_answer (Err e) = Err e

-- how many of the first bytes are the text
abbrev pub text_length : Result Settled RawErr → ℕ
text_length (Ok (settled.Message n)) = n
text_length (Ok (settled.Garbled run)) = 0
text_length (Ok settled.End) = 0
text_length (Err e) = 0

-- the next item, or why there is none
pub record Nexts (texts : Texts) (old new : ItemState) (lefts : Lefts) (result : Result Settled RawErr) : Type 0 where
  pub from : TakesFrom texts (raw_shown 0 old None) (raw_shown (text_length result) new None) lefts (settled_answer result)
  pub falls : RawFalls (raw_shown 0 old None) (raw_shown (text_length result) new None) (settled_answer result)
  pub held : RawHeldBy texts (raw_shown (text_length result) new None) (settled_answer result)
  pub comes : ComesBy texts (raw_shown 0 old None) (raw_shown (text_length result) new None) lefts (settled_answer result)
  pub meets : Meets old.met new.met lefts (settled_answer result)
  pub there : length new.held.bytes ≤ new.held.taken
  pub within : new.held.taken ≤ new.held.limit
  pub size : new.held.size ≡ old.held.size
  pub limit : new.held.limit ≡ old.held.limit

-- the text is among the bytes held
abbrev pub TextFits : ItemState → Result Settled RawErr → Type 0
TextFits s (Ok (settled.Message n)) = n ≤ length s.held.bytes
TextFits s (Ok (settled.Garbled run)) = ⊤
TextFits s (Ok settled.End) = ⊤
TextFits s (Err e) = ⊤

-- a stream of which nothing was taken
abbrev pub raw_opened : ℕ → ℕ → RawState
raw_opened frame input = record { held = []; text = []; taken = 0; most = frame - HEAD_BYTES; input = input; run = None; met = false; ended = None }

-- The first bytes are the last text taken; there is none once the stream has ended.
pub record IsRawStream (text : ℕ) (held : HeldState) (end : Option RawEnded) : Type 0 where
  pub fits : text ≤ length held.bytes
  pub ended : (e : RawEnded) → end ≡ Some e → text ≡ 0
