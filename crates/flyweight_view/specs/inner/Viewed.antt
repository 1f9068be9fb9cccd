-- The message that a view lends.
use Rattle.body_walk.specs.Walked.{message_in, IsWalked}
use Rattle.flyweight_view.specs.declared.view.MsgView.TheInside.{Inside}
use Rattle.flyweight_view.specs.TypedBlocks.{TypedMessage}

-- the message that the body is, and the root level of its template
abbrev pub viewed : Inside → TypedMessage
viewed v = record { level = v.walked.level.now; message = message_in v.layout.now v.body.now }

-- the body is that message
abbrev pub IsViewed : Inside → Type 0
IsViewed v = IsWalked v.layout.now v.body.now v.walked
