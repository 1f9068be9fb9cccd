use Rattle.std.proofs.Common.{◌≡◌, ℕ, suc, zero, true, ◌<◌, arith, refl, sym, subst, length}
use Rattle.std.specs.Prelude.{List, [], ◌∷◌}
use Rattle.sbe_types.specs.declared.schema.Group.{Group}
use Rattle.sbe_types.specs.declared.schema.Level.{end_of-Group, items_shown-the_row-Group-0}
use Rattle.bridge_terms.specs.Blocks.{HasAll}
use Rattle.bridge_terms.specs.Plans.{is_in}
use Rattle.bridge_plan.proofs.Computing.{computing}
use Rattle.bridge_plan.proofs.rows.level_rows.Goals as goal

only_zero : (i : ℕ) → i < 1 → is_in i (0 ∷ []) ≡ true
only_zero zero h = refl
only_zero (suc i) h = absurd (omega (arith, h))

none_below : (ns : List ℕ) (i : ℕ) → i < 0 → is_in i ns ≡ true
none_below ns i h = absurd (omega (arith, h))

pub returns : goal.returns
unfolding computing
returns c = record {
  complete = record { fields = only_zero; groups = subst (λ (gs : List Group). HasAll (length gs) []) (sym (items_shown-the_row-Group-0 [] end_of-Group)) (none_below []); parts = none_below [] };
  all_complete = tt;
  separate = record { fields = ((refl, tt), (omega arith, tt)); groups = (tt, tt); parts = (tt, tt) };
  all_separate = tt;
  holds = (λ v good. tt, tt);
}
