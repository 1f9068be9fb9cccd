use Rattle.std.proofs.Common.{refl, [], ◌∷◌}
use denote.Hole.Carrier as carrier
use Rattle.sbe_types.specs.declared.schema.Level as level
use Rattle.std.specs.Fmt.{digits}
use Rattle.schema_lines.specs.Counts.{groups_in, groups_among, groups_with, parts_in, parts_among, parts_with}
use Rattle.command_steps.specs.Splits.{Whole, End}
use Rattle.replies.specs.Reply.{none_written}
use Rattle.sbe_cli.specs.Rows.{six_lines}
use Rattle.replies.specs.declared.verdict.Verdict.TheVariants.{Answered}
use Rattle.sbe_cli.proofs.rows.six_messages.Goals as goal

pub returns : goal.returns
unfolding groups_in groups_among groups_with parts_in parts_among parts_with level.out-Level carrier.out digits
returns c = λ input. (
  Whole ∷ [],
  End,
  record { output = six_lines; notes = [] },
  record { items = 1; refused = 0; translated = 0; dropped = 0; filled = 0; bytes = 0 },
  (refl, refl),
  (record { output = six_lines; notes = []; verdict = Answered }, none_written, (refl, refl, refl), (refl, refl), refl),
  refl,
)
