-- What holds while a command works over a stream.
use Rattle.std.specs.Prelude.{◌≡◌, ◌⊎◌, Bool, true, false, ◌≤◌, ◌<◌, ◌+◌, ◌-◌, ◌^◌, Option, Some, None, [], length}
use Rattle.sbe_base.specs.declared.status.Limits.{Limits}
use Rattle.open_framing.specs.Lines.{longest_line}
use Rattle.frame_stream.specs.Stream.{StreamState, room}
use Rattle.frame_stream.specs.LineTakes.{LineState, line_bytes, line_room}
use Rattle.frame_stream.specs.declared.lines.LineEnded.{LineEnded}
use Rattle.frame_stream.specs.declared.lines.LineEnded.TheVariants as line_ended
use Rattle.command_steps.specs.Ahead.{Ahead}
use Rattle.command_steps.specs.Replies.{parts_dropped, parts_filled, most_parts}
use Rattle.command_steps.specs.declared.kept.Kept.{Kept}
use Rattle.command_steps.specs.declared.step.Tally.{Tally}

-- the bounds that buffers and numbers require
pub record IsBounded (limits : Limits) : Type 0 where
  pub low : 64 ≤ limits.frame
  pub high : limits.frame ≤ 16_777_216
  pub input : limits.input ≤ 2 ^ 40

-- a stream gives no more lines
abbrev pub is_at_end : Option LineEnded → Bool
is_at_end None = false
is_at_end (Some end) = true

-- what a stream of lines knows of its input after the last one
abbrev pub lines_ahead : LineState → Ahead
lines_ahead stream = record { held = stream.held; met_end = is_at_end stream.ended; is_all = false }

-- Before its end a stream holds nothing, what was taken from it is counted, and the counts are within their bounds.
pub record Stands (limits : Limits) (stream : StreamState) (kept : Kept) : Type 0 where
  pub runs : stream.ended ≡ None
  pub held : stream.held ≡ []
  pub frame : stream.frame ≡ limits.frame
  pub input : stream.input ≡ limits.input
  pub room : kept.bytes + room stream ≡ limits.input
  pub items : kept.items ≤ kept.bytes
  pub refused : kept.refused ≤ kept.items
  pub translated : kept.translated ≤ kept.items
  pub dropped : kept.dropped ≤ most_parts kept.bytes
  pub filled : kept.filled ≤ most_parts kept.bytes

-- The same for a stream of lines, which may hold bytes that were read ahead, and may have met the end.
pub record StandsLines (limits : Limits) (stream : LineState) (kept : Kept) : Type 0 where
  pub runs : (stream.ended ≡ None) ⊎ (stream.ended ≡ Some line_ended.End)
  pub within : stream.taken ≤ stream.input
  pub input : stream.input ≡ limits.input
  pub room : kept.bytes + line_room stream ≡ limits.input
  pub items : kept.items ≤ kept.bytes
  pub refused : kept.refused ≤ kept.items
  pub translated : kept.translated ≤ kept.items
  pub dropped : kept.dropped ≤ most_parts kept.bytes
  pub filled : kept.filled ≤ most_parts kept.bytes

-- A line was taken, whose bytes are not counted yet.
pub record HasTaken (limits : Limits) (stream : LineState) (kept : Kept) : Type 0 where
  pub runs : (stream.ended ≡ None) ⊎ ((stream.ended ≡ Some line_ended.End) × (stream.held ≡ []))
  pub within : stream.taken ≤ stream.input
  pub input : stream.input ≡ limits.input
  pub room : kept.bytes + (line_bytes stream + line_room stream) ≡ limits.input
  pub line : length stream.line ≤ longest_line

-- At most one job is done, and it took nothing from the input.
pub record StandsOnce (kept : Kept) : Type 0 where
  pub items : kept.items ≤ 1
  pub refused : kept.refused ≤ kept.items
  pub translated : kept.translated ≤ kept.items
  pub dropped : kept.dropped ≤ most_parts kept.bytes
  pub filled : kept.filled ≤ most_parts kept.bytes
  pub bytes : kept.bytes ≡ 0

-- the numbers can count one more item
pub record CanCount (kept : Kept) (tally : Tally) : Type 0 where
  pub items : kept.items < 2 ^ 64 - 1
  pub refused : kept.refused < 2 ^ 64 - 1
  pub translated : kept.translated < 2 ^ 64 - 1
  pub dropped : kept.dropped + parts_dropped tally.verdict < 2 ^ 64
  pub filled : kept.filled + parts_filled tally.verdict < 2 ^ 64
  pub bytes : kept.bytes + tally.bytes < 2 ^ 64
