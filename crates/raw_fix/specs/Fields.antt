-- The texts of a stream are those of the FIX tag-value encoding, whose fields a table holds. Own profile.
use Rattle.std.specs.Prelude.{◌≡◌, ℕ, Bool, Option, Some, None, Result, Ok, Err, List, [], take}
use Rattle.std.specs.Result.{is_ok}
use Rattle.tagvalue_codec.specs.declared.data_tags.Pair.{Pair}
use Rattle.tagvalue_codec.specs.declared.table.FixField.{FixField}
use Rattle.tagvalue_codec.specs.Reading.{text_read}
use Rattle.tagvalue_codec.specs.Places.{Holds}
use Rattle.raw_fix.specs.declared.verdict.Verdict.{Verdict}
use Rattle.raw_fix.specs.declared.verdict.Verdict.TheVariants.{Says, Refuses}
use Rattle.raw_fix.specs.declared.step.Step.{Step}
use Rattle.raw_fix.specs.declared.step.Step.TheVariants as step
use Rattle.raw_fix.specs.declared.items.Settled.{Settled}
use Rattle.raw_fix.specs.declared.items.Settled.TheVariants as settled
use Rattle.raw_fix.specs.declared.taken.RawErr.{RawErr}
use Rattle.raw_fix.specs.Raw.{Texts}

-- the bytes are a text of some fields
abbrev pub is_fix : List Pair → List ℕ → Bool
is_fix tags bytes = is_ok (text_read tags bytes)

-- the texts with these pairs of data tags, of at most `most` bytes
abbrev pub fix_texts : List Pair → ℕ → Texts
fix_texts tags most = record { is_text = is_fix tags; most = most }

-- the table has the fields of the first bytes if they are a text, else none
abbrev pub HasFields : List Pair → List ℕ → Option ℕ → List FixField → Type 0
HasFields tags bytes None table = table ≡ []
HasFields tags bytes (Some n) table = Holds tags (take n bytes) table

-- the length of the message that a verdict gives
abbrev pub verdict_size : Option Verdict → Option ℕ
verdict_size None = None
verdict_size (Some (Says n)) = Some n
verdict_size (Some (Refuses code)) = None

-- the length of the message that a step gives
abbrev pub step_size : Step → Option ℕ
step_size (step.Message n) = Some n
step_size (step.Ends run n) = None
step_size (step.GoesOn run n) = None
step_size step.More = None

-- the length of the message that is settled
abbrev pub settled_size : Settled → Option ℕ
settled_size (settled.Message n) = Some n
settled_size (settled.Garbled run) = None
settled_size settled.End = None

-- the same if something is settled
abbrev pub size_if : Option Settled → Option ℕ
size_if None = None
size_if (Some s) = settled_size s

-- the same if an item was taken
abbrev pub size_of : Result Settled RawErr → Option ℕ
size_of (Ok s) = settled_size s
size_of (Err e) = None
