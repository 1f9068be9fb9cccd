-- Runs of codes.
use Rattle.std.proofs.Common.{◌≡◌, ℕ, zero, suc, ◌+◌, ◌*◌, ◌/◌, ◌%◌, ◌^◌, ◌<◌, ◌≤◌, List, [], ◌∷◌, ◌++◌, length, take, drop, get_or, Some, sym, ap, ◌∙◌, subst, append_assoc, append-nil}
use Rattle.std.specs.Prelude.{slice_get}
use Rattle.std.proofs.lemmas.List.{drop-drop, drop_all}
use Rattle.std.specs.List.{AllByRecursion}
use Rattle.fix_values.specs.declared.rule.Code.{Code}
use Rattle.fix_values.specs.Codes.{codes_in}
use Rattle.set_texts.specs.Parts.{IsPart, Part}
use Rattle.set_texts.specs.Runs.{AreParts, AreRuns, HasPlaceFrom, IsRun, Run}
use Rattle.set_texts.proofs.Bits.{same_codes}
use Rattle.set_texts.proofs.Grown.{next_codes}

-- what holds of the first codes, and of one more
all_more : (P : Code → Type 0) (xs : List Code) (x : Code) → AllByRecursion P xs → P x → AllByRecursion P (xs ++ x ∷ [])
all_more P [] x all own = (own, tt)
all_more P (y ∷ ys) x all own = (all.0, all_more P ys x all.1 own)

pub all_next : (P : Code → Type 0) (xs : List Code) (i : ℕ) (x : Code) → i < length xs → x ≡ get_or xs i x → AllByRecursion P (take i xs) → P x → AllByRecursion P (take (i + 1) xs)
all_next P xs i x within is all own = subst (AllByRecursion P) (sym (next_codes xs i x within is)) (all_more P (take i xs) x all own)

some_is : {X : Type 0} {x y : X} → Some x ≡ Some y → x ≡ y
some_is e = cc

-- what holds of each part at its place, and of one more
more_at : (P : ℕ → Part → Type 0) (xs : List Part) (x : Part) → ((n : ℕ) (p : Part) → slice_get xs n ≡ Some p → P n p) → P (length xs) x
    → (n : ℕ) (p : Part) → slice_get (xs ++ x ∷ []) n ≡ Some p → P n p
more_at P [] x all own zero p there = subst (P zero) (some_is there) own
more_at P [] x all own (suc n) p there = absurd cc
more_at P (y ∷ ys) x all own zero p there = all zero p there
more_at P (y ∷ ys) x all own (suc n) p there = more_at (λ n. P (suc n)) ys x (λ n p there. all (suc n) p there) own n p there

pub more_parts : (parts new : List Part) (x : Part) (first n : ℕ) (codes : List Code) → new ≡ parts ++ x ∷ [] → length parts ≡ n → AreParts parts first codes
    → IsPart x (codes_in codes (n * 2 ^ first)) → AreParts new first codes
more_parts parts new x first n codes is long all own =
    let P : ℕ → Part → Type 0 = λ n p. IsPart p (codes_in codes (n * 2 ^ first)) in
    subst (λ l. AreParts l first codes) (sym is) (more_at P parts x all (subst (λ k. P k x) (sym long) own))

-- parts for each number of four bits make a run
pub run_is : (first many : ℕ) (parts : List Part) (codes : List Code) → AllByRecursion (HasPlaceFrom first) codes → AreParts parts first codes
    → IsRun (record { first = first; many = many; parts = parts }) codes
run_is first many parts codes all are = λ n part there. subst (IsPart part) (same_codes n first codes all) (are (n / 2 ^ first % 16) part there)

-- one more run
pub more_runs : (codes : List Code) (runs new : List Run) (run : Run) (at past : ℕ) → new ≡ runs ++ run ∷ [] → past ≡ at + run.many → IsRun run (take run.many (drop at codes))
    → ((later : List Run) → AreRuns later (drop at codes) → AreRuns (runs ++ later) codes) → (later : List Run) → AreRuns later (drop past codes) → AreRuns (new ++ later) codes
more_runs codes runs new run at past is moved own all later are =
    let rest : drop past codes ≡ drop run.many (drop at codes) = ap (λ k. drop k codes) moved ∙ sym (drop-drop run.many at codes) in
    let same : new ++ later ≡ runs ++ run ∷ later = ap (λ l. l ++ later) is ∙ append_assoc runs (run ∷ []) later in
    subst (λ l. AreRuns l codes) (sym same) (all (run ∷ later) (own, subst (AreRuns later) rest are))

-- the runs of all codes
pub no_more : (codes : List Code) (runs : List Run) (at : ℕ) → length codes ≤ at → ((later : List Run) → AreRuns later (drop at codes) → AreRuns (runs ++ later) codes) → AreRuns runs codes
no_more codes runs at over all = subst (λ l. AreRuns l codes) (append-nil runs) (all [] (drop_all at codes over))
