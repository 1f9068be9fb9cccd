use Rattle.std.proofs.Common.{◌≡◌, ◌<◌, ◌^◌, ℕ, drop, pos, ◌==◌}
use Rattle.std.specs.Prelude.{◌||◌}
use Rattle.std.specs.Int.{bit_at}
use Rattle.sbe_types.specs.Shown.{is_listed}
use Rattle.named_numbers.proofs.choices.are_listed.Given as goal

abbrev pub invariant-loop-choice : goal.invariant-loop-choice
invariant-loop-choice l =
    (l.left < 2 ^ 64)
    × ((k : ℕ) → k < 64 → (bit_at l.left k == 0 || is_listed (drop l.choice-index l.choices) (pos k)) ≡ (bit_at l.bits k == 0 || is_listed l.choices (pos k)))
