use Rattle.std.proofs.Common.{refl, [], ◌∷◌}
use denote.Hole.Carrier as carrier
use Rattle.sbe_types.specs.declared.schema.Level as level
use Rattle.version_laws.specs.Differ.{level_differs, groups_differ, group_differs}
use Rattle.version_laws.specs.Forward.{added_in, added_group, added_below, added_at_root}
use Rattle.command_steps.specs.Splits.{Whole, End}
use Rattle.replies.specs.Reply.{none_written}
use Rattle.sbe_cli.specs.Rows.{two_way}
use Rattle.replies.specs.declared.verdict.Verdict.TheVariants.{Answered}
use Rattle.sbe_cli.proofs.rows.goes_both_ways.Goals as goal

pub returns : goal.returns
unfolding level_differs groups_differ group_differs added_in added_group added_below added_at_root level.out-Level carrier.out
returns c = λ input. (
  Whole ∷ [],
  End,
  record { output = two_way; notes = [] },
  record { items = 1; refused = 0; translated = 0; dropped = 0; filled = 0; bytes = 0 },
  (refl, refl),
  (record { output = two_way; notes = []; verdict = Answered }, none_written, (refl, refl, refl), (refl, refl), refl),
  refl,
)
