-- A stream of tag-value texts without heads, and of bytes between them that aren't texts. Own profile.
use Rattle.std.specs.Prelude.{◌≡◌, ◌≢◌, ℕ, ◌<◌, ◌≤◌, ◌⊎◌, nat_lt, nat_le, Bool, true, false, ◌&&◌, ◌==◌, if◌then◌else◌, Option, Some, None, List, [], ◌∷◌, ◌++◌, length, take}
use Rattle.std.specs.List.{flat_map}
use Rattle.raw_fix.specs.declared.code.PCode.{PCode}
use Rattle.raw_fix.specs.declared.code.PCode.TheVariants as code
use Rattle.raw_fix.specs.declared.verdict.Verdict.{Verdict}
use Rattle.raw_fix.specs.declared.verdict.Verdict.TheVariants.{Says, Refuses}
use Rattle.raw_fix.specs.declared.claim.Claim.{Claim}
use Rattle.raw_fix.specs.declared.claim.Claim.TheVariants.{Whole, Open, Never}
use Rattle.open_framing.specs.Lines.{with_byte}
use Rattle.raw_fix.specs.Claims.{Opening, IsOpening, opening_bytes, text_size, IsWhole, IsOpen, IsNever, claim_of}
use Rattle.raw_fix.specs.Turns.{InTurn, turns_in}

-- which bytes are a text, and the most bytes of a text
pub record Texts : Type 0 where
  pub is_text : List ℕ → Bool
  pub most : ℕ

-- `8=FIX`, where the search continues after bytes that aren't a text
abbrev pub mark : List ℕ
mark = 56 ∷ 61 ∷ 70 ∷ 73 ∷ 88 ∷ []

-- a message, or garbled bytes and why
pub data Kind : Type 0 where
  Message : Kind
  Garbled : PCode → Kind

-- what is at an offset, and its bytes
pub record Item : Type 0 where
  pub kind : Kind
  pub bytes : List ℕ

-- ---- how far bytes that aren't a text extend

-- the bytes don't contain a mark
abbrev pub NoMark : List ℕ → Type 0
NoMark bytes = (front more : List ℕ) → bytes ≢ front ++ mark ++ more

-- these bytes precede the first mark
pub record BeforeMark (bytes front : List ℕ) : Type 0 where
  pub more : List ℕ
  pub whole : bytes ≡ front ++ mark ++ more
  pub first : (f m : List ℕ) → bytes ≡ f ++ mark ++ m → length front ≤ length f

-- bytes that aren't a text extend to the next mark, or to the end if there is none and the stream doesn't go on
abbrev pub RunsOn : Bool → List ℕ → List ℕ → Type 0
RunsOn goes_on bytes front = BeforeMark bytes front ⊎ ((goes_on ≡ false) × (front ≡ bytes) × NoMark bytes)

-- one byte, and then as far as bytes that aren't a text extend
pub record IsRun (goes_on : Bool) (bytes run : List ℕ) : Type 0 where
  pub byte : ℕ
  pub after : List ℕ
  pub front : List ℕ
  pub begins : bytes ≡ byte ∷ after
  pub runs : run ≡ byte ∷ front
  pub ends : RunsOn goes_on after front

-- ---- the item at an offset

-- a text begins here but isn't complete yet, or may begin here
abbrev pub Undecided : ℕ → List ℕ → Type 0
Undecided most bytes = IsOpen most bytes ⊎ ((n : ℕ) × IsWhole most bytes n × (length bytes < n))

-- The bytes from here to the end of the input don't begin with a message, for this reason.
abbrev pub IsGarbled : Texts → Bool → List ℕ → PCode → Type 0
IsGarbled texts goes_on bytes code.Prefix = IsNever texts.most bytes
IsGarbled texts goes_on bytes code.Text = (n : ℕ) × IsWhole texts.most bytes n × (n ≤ length bytes) × (texts.is_text (take n bytes) ≡ false)
IsGarbled texts goes_on bytes code.Ends = (goes_on ≡ false) × Undecided texts.most bytes

-- A text is at the front.
pub record IsMessage (texts : Texts) (bytes text : List ℕ) : Type 0 where
  pub size : ℕ
  pub claim : IsWhole texts.most bytes size
  pub there : size ≤ length bytes
  pub front : text ≡ take size bytes
  pub holds : texts.is_text (take size bytes) ≡ true

-- what these bytes are, given all the bytes from their offset on
abbrev pub IsItemOf : Texts → Bool → List ℕ → List ℕ → Kind → Type 0
IsItemOf texts goes_on bytes item Message = IsMessage texts bytes item
IsItemOf texts goes_on bytes item (Garbled code) = IsGarbled texts goes_on bytes code × IsRun goes_on bytes item

-- the item at the front of the bytes from an offset to the end of the input; `goes_on`: the stream goes on after them
abbrev pub IsItem : Texts → Bool → List ℕ → Item → Type 0
IsItem texts goes_on bytes item = IsItemOf texts goes_on bytes item.bytes item.kind

-- the bytes of an item
abbrev pub item_bytes : Item → List ℕ
item_bytes item = item.bytes

-- ---- the whole stream

-- how a stream ends: with all of it read, or at the limit of the input
pub data RawEnd : Type 0 where
  End : RawEnd
  InputLimit : RawEnd

-- the end at a rest: nothing is left, or the stream goes on and no item is settled here
abbrev pub EndsAt : Texts → Bool → List ℕ → RawEnd → Type 0
EndsAt texts goes_on rest End = (goes_on ≡ false) × (rest ≡ [])
EndsAt texts goes_on rest InputLimit = (goes_on ≡ true) × ((item : Item) → IsItem texts goes_on rest item → ⊥)

-- The first `input` bytes of the stream are these items, each where the one before ends, and a rest with this end.
pub record Raw (texts : Texts) (stream : List ℕ) (input : ℕ) (items : List Item) (end : RawEnd) : Type 0 where
  pub rest : List ℕ
  pub turns : InTurn (IsItem texts (nat_lt input (length stream))) item_bytes (take input stream) items rest
  pub ends : EndsAt texts (nat_lt input (length stream)) rest end

-- ---- streams of texts

-- It begins with fields 8 and 9, and has as many bytes as they count.
pub record IsSized (text : List ℕ) : Type 0 where
  pub opening : Opening
  pub more : List ℕ
  pub opens : IsOpening opening
  pub begins : text ≡ opening_bytes opening ++ more
  pub counts : length text ≡ text_size opening

-- each text is sized
abbrev pub AreSized : Texts → Type 0
AreSized texts = (text : List ℕ) → texts.is_text text ≡ true → IsSized text

-- a text within the limit
pub record IsText (texts : Texts) (text : List ℕ) : Type 0 where
  pub holds : texts.is_text text ≡ true
  pub within : length text ≤ texts.most

-- an item that is a message
abbrev pub message : List ℕ → Item
message text = record { kind = Message; bytes = text }

-- an item of bytes at which no text begins
abbrev pub prefix : List ℕ → Item
prefix bytes = record { kind = Garbled code.Prefix; bytes = bytes }

-- texts, concatenated
abbrev pub concat_texts : List (List ℕ) → List ℕ
concat_texts texts = flat_map (λ text. text) texts

-- Bytes before others, in which no text begins: they don't begin with 8, no mark begins in them, and at least one byte
-- follows them.
pub record IsGarbage (front back : List ℕ) : Type 0 where
  pub byte : ℕ
  pub others : List ℕ
  pub some : front ≡ byte ∷ others
  pub strange : byte ≢ 56
  pub unmarked : (f m : List ℕ) → front ++ back ≡ f ++ mark ++ m → length front ≤ length f
  pub more : List ℕ
  pub marked : back ≡ mark ++ more

-- ---- the reader

-- the second bytes begin with the first
abbrev pub begins_with : List ℕ → List ℕ → Bool
begins_with [] bytes = true
begins_with (a ∷ front) [] = false
begins_with (a ∷ front) (b ∷ bytes) = a == b && begins_with front bytes

-- the bytes before the first mark, if there is one
abbrev pub before_mark : List ℕ → Option (List ℕ)
before_mark [] = None
before_mark (b ∷ bytes) = if begins_with mark (b ∷ bytes) then Some [] else with_byte b (before_mark bytes)

-- the verdict if more bytes are needed
abbrev pub verdict_short : Bool → Option Verdict
verdict_short true = None
verdict_short false = Some (Refuses code.Ends)

-- the verdict on bytes with this claim, if it is settled
abbrev pub verdict_by : Texts → Bool → List ℕ → Claim → Option Verdict
verdict_by texts goes_on bytes (Whole n) =
    if nat_le n (length bytes) then (if texts.is_text (take n bytes) then Some (Says n) else Some (Refuses code.Text)) else verdict_short goes_on
verdict_by texts goes_on bytes Open = verdict_short goes_on
verdict_by texts goes_on bytes Never = Some (Refuses code.Prefix)

-- bytes up to the next mark, or to the end
abbrev pub run_by : Bool → List ℕ → Option (List ℕ) → Option (List ℕ)
run_by goes_on after (Some front) = Some front
run_by true after None = None
run_by false after None = Some after

-- bytes from the first on that aren't a text
abbrev pub run_of : Bool → List ℕ → Option (List ℕ)
run_of goes_on [] = None
run_of goes_on (b ∷ after) = with_byte b (run_by goes_on after (before_mark after))

-- an item with these bytes
abbrev pub with_bytes : Kind → Option (List ℕ) → Option Item
with_bytes kind None = None
with_bytes kind (Some bytes) = Some (record { kind = kind; bytes = bytes })

-- the item with this verdict
abbrev pub item_by : Bool → List ℕ → Option Verdict → Option Item
item_by goes_on bytes None = None
item_by goes_on bytes (Some (Says n)) = with_bytes Message (Some (take n bytes))
item_by goes_on bytes (Some (Refuses code)) = with_bytes (Garbled code) (run_of goes_on bytes)

-- the item at the front of the bytes
abbrev pub item_of : Texts → Bool → List ℕ → Option Item
item_of texts goes_on bytes = item_by goes_on bytes (verdict_by texts goes_on bytes (claim_of texts.most bytes))

-- the end by whether the stream goes on
abbrev pub end_of : Bool → RawEnd
end_of true = InputLimit
end_of false = End

-- the items of a stream and its end
unfoldable pub raw_of : Texts → List ℕ → ℕ → List Item × RawEnd
raw_of texts stream input =
    let bytes = take input stream in
    let goes_on = nat_lt input (length stream) in
    (turns_in (item_of texts goes_on) item_bytes (length bytes) bytes, end_of goes_on)
