-- The sums over messages that are drawn. Own profile.
use Rattle.std.specs.Prelude.{◌≤◌, ℕ, zero, suc, ◌+◌, ◌-◌, Bool, if◌then◌else◌, is_ok, List, [], ◌++◌, length, sum, codes, decimal, Option, Some, None, unwrap_or}
use Rattle.sbe_types.specs.declared.schema.WireSchema.{WireSchema}
use Rattle.sbe_types.specs.declared.message.Msg.{Msg}
use Rattle.sbe_wire.specs.declared.codes.NCode.{NCode}
use Rattle.sbe_wire.specs.declared.codes.NCode.TheVariants as unfit
use Rattle.sbe_wire.specs.Misfit.{Misfit, misfit}
use Rattle.sbe_wire.specs.Canonical.{canonical}
use Rattle.sbe_wire.specs.Reading.{message_of}
use Rattle.open_framing.specs.declared.head.TheConstants.{HEAD_BYTES}
use Rattle.open_framing.specs.Frames.{frame}
use Rattle.dump_lines.specs.Dumped.{encoding_of}
use Rattle.vectors.specs.Altered.{altered}
use Rattle.vectors.specs.Messages.{generated}
use Rattle.selftest_command.specs.declared.sums.Sums.{Sums}
use Rattle.selftest_command.specs.declared.trial.Trial.{Trial}
use Rattle.command_words.specs.declared.options.TheConstants.{MOST_MESSAGES}

-- ---- sums

-- the sums over no messages
abbrev pub no_sums : Sums
no_sums = record { frames = 0; skipped = 0; bytes = 0; byte_sum = 0; altered = 0 }

-- a message that is skipped
abbrev pub one_skipped : Sums
one_skipped = record { frames = 0; skipped = 1; bytes = 0; byte_sum = 0; altered = 0 }

-- each sum increased
abbrev pub added : Sums → Sums → Sums
added sums one = record {
  frames = sums.frames + one.frames;
  skipped = sums.skipped + one.skipped;
  bytes = sums.bytes + one.bytes;
  byte_sum = sums.byte_sum + one.byte_sum;
  altered = sums.altered + one.altered;
}

-- each sum is at most this number
pub record AreWithin (most : ℕ) (sums : Sums) : Type 0 where
  pub frames : sums.frames ≤ most
  pub skipped : sums.skipped ≤ most
  pub bytes : sums.bytes ≤ most
  pub byte_sum : sums.byte_sum ≤ most
  pub altered : sums.altered ≤ most

-- ---- one message

-- some message lies in the body
abbrev pub lies_in : WireSchema → List ℕ → Bool
lies_in schema body = is_ok (message_of schema body)

-- the frame of a body
abbrev pub frame_in : WireSchema → List ℕ → List ℕ
frame_in schema body = frame (encoding_of schema.order) body

-- what the frame of the body of message `index` adds
abbrev pub body_sums : WireSchema → ℕ → List ℕ → Sums
body_sums schema index body = record {
  frames = 1;
  skipped = 0;
  bytes = length (frame_in schema body);
  byte_sum = sum (frame_in schema body);
  altered = if lies_in schema (altered body index) then 1 else 0;
}

-- A message is skipped if it doesn't fit a frame, or a count or a length isn't admitted.
abbrev pub skipped_sums : NCode → Sums
skipped_sums unfit.Full = one_skipped
skipped_sums unfit.Count = one_skipped
skipped_sums unfit.Length = one_skipped
skipped_sums unfit.Range = no_sums
skipped_sums unfit.EnumUnknown = no_sums
skipped_sums unfit.SetUnknown = no_sums
skipped_sums unfit.TextByte = no_sums
skipped_sums unfit.Kind = no_sums
skipped_sums unfit.Shape = no_sums

-- what a message adds, by its first misfit
abbrev pub message_sums : WireSchema → ℕ → Msg → Option Misfit → Sums
message_sums schema index m None = body_sums schema index (unwrap_or (canonical schema m) [])
message_sums schema index m (Some why) = skipped_sums why.code

-- ---- all messages

-- A trial whose frames and messages are within the limits of the command's words.
pub record IsBoundedTrial (trial : Trial) : Type 0 where
  pub low : 64 ≤ trial.frame
  pub high : trial.frame ≤ 16_777_216
  pub count : trial.count ≤ MOST_MESSAGES

-- what a drawn message adds, if there is one
abbrev pub drawn_sums : WireSchema → Trial → ℕ → Option Msg → Sums
drawn_sums schema trial index None = no_sums
drawn_sums schema trial index (Some m) = message_sums schema index m (misfit schema m (trial.frame - HEAD_BYTES))

-- the sums over the first messages of a trial
unfoldable pub sums_until : WireSchema → Trial → ℕ → Sums
sums_until schema trial zero = no_sums
sums_until schema trial (suc n) = added (sums_until schema trial n) (drawn_sums schema trial n (generated schema trial.seed n))

-- ---- the line

-- the line of sums
abbrev pub sums_line : Sums → List ℕ
sums_line sums =
    codes "{\"frames\":" ++ (decimal sums.frames ++ (codes ",\"skipped\":" ++ (decimal sums.skipped ++ (codes ",\"bytes\":" ++ (decimal sums.bytes
    ++ (codes ",\"sum\":" ++ (decimal sums.byte_sum ++ (codes ",\"altered\":" ++ (decimal sums.altered ++ codes "}\n")))))))))
