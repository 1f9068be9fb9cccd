-- What rewriting a message answers. Own profile.
use Rattle.std.specs.Prelude.{◌≡◌, ◌≤◌, ℕ, Result, Ok, Err, List, length, ⊤}
use Rattle.sbe_types.specs.declared.schema.WireSchema.{WireSchema}
use Rattle.sbe_types.specs.declared.message.Msg.{Msg}
use Rattle.sbe_wire.specs.Lays.{Lays}
use Rattle.regrade_laws.specs.declared.way.Way.{Way}
use Rattle.regrade_laws.specs.Regraded.{Refusal, way_of, regraded}
use Rattle.regrade_laws.specs.Regraded as why
use Rattle.regrade_laws.specs.Counts.{dropped, filled}
use Rattle.regrade.specs.declared.regrading.Regraded.{Regraded}
use Rattle.regrade.specs.declared.regrading.RegradeErr.{RegradeErr}
use Rattle.regrade.specs.declared.regrading.RegradeErr.TheVariants.{NoTemplate, NoFill, Memory}

-- the later of the two schemas extends the earlier one
abbrev pub HasWay : WireSchema → WireSchema → Type 0
HasWay from to = (way : Way) × (way_of from to ≡ Ok way)

-- the message lies in a body of a frame
abbrev pub LiesInFrame : WireSchema → Msg → Type 0
LiesInFrame schema m = (body : List ℕ) × Lays schema m body × (length body ≤ 16_777_216)

-- the expected answer: the rewritten message or why there is none, and its counts
pub record Expected : Type 0 where
  pub told : Result Msg Refusal
  pub dropped : ℕ
  pub filled : ℕ

-- the answer is the expected one, unless it is out of memory
abbrev pub Answers : Expected → Result Regraded RegradeErr → Type 0
Answers expected (Ok it) = (expected.told ≡ Ok it.msg) × (it.dropped ≡ expected.dropped) × (it.filled ≡ expected.filled)
Answers expected (Err NoTemplate) = expected.told ≡ Err why.NoTemplate
Answers expected (Err (NoFill path)) = expected.told ≡ Err (why.NoFill path)
Answers expected (Err Memory) = ⊤

-- The rewritten message with its counts, or why there is none, unless it is out of memory.
abbrev pub Regrades : WireSchema → WireSchema → Msg → Result Regraded RegradeErr → Type 0
Regrades from to m result = Answers (record { told = regraded from to m; dropped = dropped from to m; filled = filled from to m }) result
