-- The walk that fills absent parts.
use Rattle.std.proofs.Common.{◌≡◌, ◌≤◌, ◌<◌, ◌+◌, ℕ, suc, List, [], ◌∷◌, ◌++◌, length, drop, Some, Result, Ok, Err, refl, sym, ap, ◌∙◌, append_assoc, append-nil, arith}
use Rattle.std.specs.Prelude.{slice_get}
use Rattle.sbe_types.specs.declared.message.Block.{Block}
use Rattle.sbe_types.specs.declared.path.Step.{Step}
use Rattle.sbe_types.specs.declared.path.Step.TheVariants as way
use Rattle.schema_facts.specs.Counted.{total}
use Rattle.regrade_laws.specs.Fill.{Fills}
use Rattle.regrade_laws.specs.Filled.{in_step, then_all, filled_list, filled_entries}
use Rattle.regrade_laws.specs.Counts.{sum_pairs}
use Rattle.regrade.specs.declared.filler.Filler.{Filler}
use Rattle.regrade.specs.declared.filler.Unfilled.{Unfilled}
use Rattle.regrade.specs.declared.filler.Unfilled.TheVariants.{NoFill, Memory}
use Rattle.regrade.specs.Fillings.{IsFilled, IsLow, IsInside, IsShort}
use Rattle.version_project.proofs.Items.{drop_at}
use Rattle.regrade.proofs.Items.{none_left}

-- what is written so far, in front of what is filled further on
abbrev pub with_all : {X : Type 0} → List X → Fills (List X) → Fills (List X)
with_all xs (Ok ys) = Ok (xs ++ ys)
with_all xs (Err path) = Err path

one_more : {X : Type 0} (xs : List X) (x : X) (rest : Fills (List X)) → with_all (xs ++ x ∷ []) rest ≡ with_all xs (then_all (Ok x) rest)
one_more xs x (Ok ys) = ap Ok (append_assoc xs (x ∷ []) ys)
one_more xs x (Err path) = refl

no_more : {X : Type 0} (xs : List X) → with_all xs (Ok []) ≡ Ok xs
no_more xs = ap Ok (append-nil xs)

-- where a part further on has no fill
pub goes_low : (X Y : Type 0) (m : ℕ) (step : Step) (why : Unfilled) (mid new : Filler) → IsLow {X = X} m mid (Err why) → IsInside step why mid new → IsLow {X = Y} (suc m) new (Err why)
goes_low X Y m step NoFill mid new low is = omega (arith, low, ap length is)
goes_low X Y m step Memory mid new low is = tt

pub low_most : (X : Type 0) (m n : ℕ) (new : Filler) (result : Result X Unfilled) → m ≤ n → IsLow m new result → IsLow n new result
low_most X m n new (Ok x) most low = tt
low_most X m n new (Err NoFill) most low = omega (arith, most, low)
low_most X m n new (Err Memory) most low = tt

pub is_short : (X : Type 0) (m : ℕ) (why : Unfilled) (mid : Filler) → IsLow {X = X} m mid (Err why) → m < 20 → IsShort why mid
is_short X m NoFill mid low few = omega (arith, low, few)
is_short X m Memory mid low few = tt

module _ {P V : Type 0} (w : P → V → Fills V) (n : P → V → ℕ) (ps : List P) where
  pub list_goes : (xs : List V) (i k k' : ℕ) (p : P) (v x : V) (vs : List V) → slice_get ps i ≡ Some p → w p v ≡ Ok x → k' ≡ suc k →
      with_all (xs ++ x ∷ []) (filled_list w k' (drop (i + 1) ps) vs) ≡ with_all xs (filled_list w k (drop i ps) (v ∷ vs))
  list_goes xs i k k' p v x vs at is on =
      let rest = filled_list w (suc k) (drop (i + 1) ps) vs in
      ap (λ j. with_all (xs ++ x ∷ []) (filled_list w j (drop (i + 1) ps) vs)) on ∙ one_more xs x rest
      ∙ ap (λ o. with_all xs (then_all (in_step (way.Part k) o) rest)) (sym is) ∙ ap (λ l. with_all xs (filled_list w k l (v ∷ vs))) (sym (drop_at ps i p at))

  pub list_lacks : (xs : List V) (i k : ℕ) (p : P) (v : V) (vs : List V) (path : List Step) → slice_get ps i ≡ Some p → w p v ≡ Err path →
      with_all xs (filled_list w k (drop i ps) (v ∷ vs)) ≡ Err (way.Part k ∷ path)
  list_lacks xs i k p v vs path at is =
      ap (λ l. with_all xs (filled_list w k l (v ∷ vs))) (drop_at ps i p at)
      ∙ ap (λ o. with_all xs (then_all (in_step (way.Part k) o) (filled_list w (suc k) (drop (i + 1) ps) vs))) is

  pub list_ends : (xs : List V) (i k : ℕ) (vs : List V) → length ps ≤ i → with_all xs (filled_list w k (drop i ps) vs) ≡ Ok xs
  list_ends xs i k vs h = ap (λ l. with_all xs (filled_list w k l vs)) (none_left ps i h) ∙ no_more xs

  none_of : (k : ℕ) (qs : List P) → filled_list w k qs [] ≡ Ok []
  none_of k [] = refl
  none_of k (q ∷ qs) = refl

  pub list_none : (xs : List V) (i k : ℕ) (vs : List V) → vs ≡ [] → with_all xs (filled_list w k (drop i ps) vs) ≡ Ok xs
  list_none xs i k vs none = ap (λ l. with_all xs (filled_list w k (drop i ps) l)) none ∙ ap (with_all xs) (none_of k (drop i ps)) ∙ no_more xs

  -- a part that isn't written: it has no fill, or it ran out of memory
  pub list_refused : (whole : Fills (List V)) (count : ℕ) (xs : List V) (i k : ℕ) (p : P) (v : V) (vs : List V) (why : Unfilled) (old before mid new : Filler) → slice_get ps i ≡ Some p →
      IsFilled (w p v) (n p v) before mid (Err why) → IsInside (way.Part k) why mid new → with_all xs (filled_list w k (drop i ps) (v ∷ vs)) ≡ whole → IsFilled whole count old new (Err why)
  list_refused whole count xs i k p v vs NoFill old before mid new at told is so_far =
      sym so_far ∙ list_lacks xs i k p v vs mid.lack at told ∙ ap Err (sym is)
  list_refused whole count xs i k p v vs Memory old before mid new at told is so_far = tt

  pub sum_goes : (i : ℕ) (p : P) (v : V) (vs : List V) → slice_get ps i ≡ Some p → sum_pairs n (drop i ps) (v ∷ vs) ≡ n p v + sum_pairs n (drop (i + 1) ps) vs
  sum_goes i p v vs at = ap (λ l. sum_pairs n l (v ∷ vs)) (drop_at ps i p at)

  pub sum_ends : (i : ℕ) (vs : List V) → length ps ≤ i → sum_pairs n (drop i ps) vs ≡ 0
  sum_ends i vs h = ap (λ l. sum_pairs n l vs) (none_left ps i h)

  sum_of_none : (qs : List P) → sum_pairs n qs [] ≡ 0
  sum_of_none [] = refl
  sum_of_none (q ∷ qs) = refl

  pub sum_none : (i : ℕ) (vs : List V) → vs ≡ [] → sum_pairs n (drop i ps) vs ≡ 0
  sum_none i vs none = ap (sum_pairs n (drop i ps)) none ∙ sum_of_none (drop i ps)

module _ (w : Block → Fills Block) (n : Block → ℕ) where
  pub entries_go : (xs : List Block) (k k' : ℕ) (e x : Block) (es : List Block) → w e ≡ Ok x → k' ≡ suc k →
      with_all (xs ++ x ∷ []) (filled_entries w k' es) ≡ with_all xs (filled_entries w k (e ∷ es))
  entries_go xs k k' e x es is on =
      let rest = filled_entries w (suc k) es in
      ap (λ j. with_all (xs ++ x ∷ []) (filled_entries w j es)) on ∙ one_more xs x rest ∙ ap (λ o. with_all xs (then_all (in_step (way.Entry k) o) rest)) (sym is)

  pub entries_refused : (whole : Fills (List Block)) (count : ℕ) (xs : List Block) (k : ℕ) (e : Block) (es : List Block) (why : Unfilled) (old before mid new : Filler) →
      IsFilled (w e) (n e) before mid (Err why) → IsInside (way.Entry k) why mid new → with_all xs (filled_entries w k (e ∷ es)) ≡ whole → IsFilled whole count old new (Err why)
  entries_refused whole count xs k e es NoFill old before mid new told is so_far =
      sym so_far ∙ ap (λ o. with_all xs (then_all (in_step (way.Entry k) o) (filled_entries w (suc k) es))) told ∙ ap Err (sym is)
  entries_refused whole count xs k e es Memory old before mid new told is so_far = tt

  pub entries_none : (xs : List Block) (k : ℕ) (es : List Block) → es ≡ [] → with_all xs (filled_entries w k es) ≡ Ok xs
  entries_none xs k es none = ap (λ l. with_all xs (filled_entries w k l)) none ∙ no_more xs
