-- Covered templates, and the verdict on a message. Own profile.
use Rattle.std.specs.Prelude.{◌≡◌, List, Option, Some, Result, Ok, Err}
use Rattle.sbe_base.specs.declared.status.Status.{Status}
use Rattle.sbe_base.specs.declared.status.Status.TheVariants as status
use Rattle.sbe_base.specs.declared.stream.WriteFault.{WriteFault}
use Rattle.flyweight_view.specs.TypedBlocks.{TypedBlock}
use Rattle.bridge_rules.specs.Rules.{Rule}
use Rattle.bridge_terms.specs.Parts.{TagLists}
use Rattle.bridge_terms.specs.Places.{Unsent}
use Rattle.bridge_terms.specs.Plans.{Plan}
use Rattle.message_walk.specs.declared.plan.PlanRow.{PlanRow}
use Rattle.message_walk.specs.Rows.{AreRows, FitsBlock}
use Rattle.replies.specs.declared.verdict.Verdict.{Verdict}
use Rattle.tofix_replies.specs.Unsent.{IsNear}

-- the rows are those of a plan whose places are among the block's
pub record IsCovered {R : Type 0} (spells : R → Rule → Type 0) (rows : List (PlanRow R)) (seen : TypedBlock) : Type 0 where
  pub lists : TagLists
  pub plan : Plan
  pub rows_are : AreRows spells lists plan rows
  pub fits : FitsBlock plan seen

-- the path to a place that isn't written has few steps
abbrev pub AreNear : Option Unsent → Type 0
AreNear refusal = (u : Unsent) → refusal ≡ Some u → IsNear u

-- the verdict on an item, or the status of a failed write of its frame or line
abbrev pub put_so : Result (Unit {0}) WriteFault → Verdict → Result Verdict Status
put_so (Ok done) verdict = Ok verdict
put_so (Err e) verdict = Err status.WriteFault
