-- The search for a message by its id.
use Rattle.std.proofs.Common.{◌≡◌, ◌≢◌, ◌+◌, ℕ, suc, Bool, true, false, cond, List, drop, Option, Some, None, sym, ap, ◌∙◌, arith}
use Rattle.std.specs.Prelude.{◌==◌, slice_get}
use Rattle.std.specs.Option.{option_map}
use Rattle.std.proofs.lemmas.Bool.Decides.{nat_tests}
use Rattle.sbe_types.specs.declared.schema.Level.{Level, out-Level}
use Rattle.sbe_wire.specs.Faults.{message_named}
use Rattle.version_project.proofs.Items.{drop_at}

module _ (levels : List Level) (id i : ℕ) (level : Level) (at : slice_get levels i ≡ Some level) where
  one_step : message_named i id (drop i levels) ≡ cond ((out-Level level).id == id) (Some (i, level)) (message_named (i + 1) id (drop (i + 1) levels))
  one_step =
      let next : suc i ≡ i + 1 = omega arith in
      ap (message_named i id) (drop_at levels i level at)
      ∙ ap (λ n. cond ((out-Level level).id == id) (Some (i, level)) (message_named n id (drop (i + 1) levels))) next

  pub found_here : (out-Level level).id ≡ id → message_named i id (drop i levels) ≡ message_named 0 id levels → Some i ≡ option_map (λ (m : ℕ × Level). m.0) (message_named 0 id levels)
  found_here same so_far =
      let is : ((out-Level level).id == id) ≡ true = grind (arith, nat_tests, same) in
      sym (ap (option_map (λ (m : ℕ × Level). m.0)) (sym so_far ∙ one_step ∙ ap (λ t. cond t (Some (i, level)) (message_named (i + 1) id (drop (i + 1) levels))) is))

  pub passed_by : (out-Level level).id ≢ id → message_named i id (drop i levels) ≡ message_named 0 id levels → message_named (i + 1) id (drop (i + 1) levels) ≡ message_named 0 id levels
  passed_by differs so_far =
      let is : ((out-Level level).id == id) ≡ false = grind (arith, nat_tests, differs) in
      sym (one_step ∙ ap (λ t. cond t (Some (i, level)) (message_named (i + 1) id (drop (i + 1) levels))) is) ∙ so_far
