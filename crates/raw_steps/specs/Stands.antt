-- What holds while a stream of texts is answered.
use Rattle.std.specs.Prelude.{◌≡◌, ◌≤◌, ◌+◌, ◌-◌, false, None}
use Rattle.sbe_base.specs.declared.status.Limits.{Limits}
use Rattle.open_framing.specs.declared.head.TheConstants.{HEAD_BYTES}
use Rattle.command_steps.specs.Ahead.{Ahead}
use Rattle.command_steps.specs.Replies.{most_parts}
use Rattle.command_steps.specs.declared.kept.Kept.{Kept}
use Rattle.raw_fix.specs.Stream.{RawState, IsCounted, room}

-- what a stream knows of its input after the last item
abbrev pub raw_ahead : RawState → Ahead
raw_ahead stream = record { held = stream.held; met_end = false; is_all = stream.met }

-- Before its end a stream has no unfinished item, what was taken from it is counted, and the counts are within the
-- bounds for it.
pub record StandsRaw (limits : Limits) (stream : RawState) (kept : Kept) : Type 0 where
  pub runs : stream.ended ≡ None
  pub whole : stream.run ≡ None
  pub counted : IsCounted stream
  pub most : stream.most ≡ limits.frame - HEAD_BYTES
  pub input : stream.input ≡ limits.input
  pub room : kept.bytes + room stream ≡ limits.input
  pub items : kept.items ≤ kept.bytes
  pub refused : kept.refused ≤ kept.items
  pub translated : kept.translated ≤ kept.items
  pub dropped : kept.dropped ≤ most_parts kept.bytes
  pub filled : kept.filled ≤ most_parts kept.bytes
