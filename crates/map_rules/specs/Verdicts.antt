-- A verdict: all rules are kept, or the first one that is broken, with the place of the member that breaks it.
use Rattle.std.specs.Prelude.{◌≡◌, ℕ, ◌+◌, Bool, if◌then◌else◌, List, [], ◌∷◌, ◌++◌, codes, decimal, Option, Some, None, Result, Ok, Err, ⊤}
use Rattle.map_types.specs.declared.codes.MCode.{MCode}
use Rattle.map_types.specs.declared.codes.MapErr.{MapErr}
use Rattle.map_types.specs.declared.codes.MapErr.TheVariants.{Refused, Memory}
use Rattle.map_rules.specs.declared.rule.Rule.{Rule}

-- a rule that is broken, and the path of the member
pub record Refusal : Type 0 where
  pub code : MCode
  pub path : List ℕ

-- All rules are kept, or the first refusal.
abbrev pub Verdict : Type 0
Verdict = Result (Unit {0}) Refusal

-- one verdict, and then the next if all rules are kept
infixl 10 ◌then◌
abbrev pub ◌then◌ : Verdict → Verdict → Verdict
(Ok x) then more = more
(Err e) then more = Err e

-- the first rule that is broken
abbrev pub first_broken : List Rule → Option MCode
first_broken [] = None
first_broken (r ∷ rs) = if r.broken then Some r.code else first_broken rs

-- A rule, and whether it is broken.
abbrev pub rule : MCode → Bool → Rule
rule code broken = record { code = code; broken = broken }

-- the list and the index, as in fields/3
abbrev pub path_of : List ℕ → ℕ → List ℕ
path_of list i = list ++ (codes "/" ++ decimal i)

-- the verdict on the member with an index in a list
abbrev pub member_verdict : List ℕ → ℕ → Option MCode → Verdict
member_verdict list i None = Ok tt
member_verdict list i (Some code) = Err (record { code = code; path = path_of list i })

-- the verdict on all members of a list, from index i on
abbrev pub list_verdict : {A : Type 0} → List ℕ → (ℕ → A → List Rule) → ℕ → List A → Verdict
list_verdict list rules i [] = Ok tt
list_verdict list rules i (x ∷ xs) = member_verdict list i (first_broken (rules i x)) then list_verdict list rules (i + 1) xs

-- the code answers with the verdict, unless it is out of memory
abbrev pub Answers : Result (Unit {0}) MapErr → Verdict → Type 0
Answers (Ok x) verdict = verdict ≡ Ok tt
Answers (Err Memory) verdict = ⊤
Answers (Err (Refused code path)) verdict = verdict ≡ Err (record { code = code; path = path })
