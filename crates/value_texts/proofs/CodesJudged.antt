-- The texts of codes.
use Rattle.std.proofs.Common.{◌≡◌, ◌<◌, ℕ, Bool, true, false, cond, List, [], ◌∷◌, length, Some, Result, Ok, Err, refl, arith}
use Rattle.std.proofs.lemmas.Bool.Decides.{nat_tests}
use Rattle.fix_values.specs.declared.rule.Code.{Code}
use Rattle.fix_values.specs.declared.rule.V.{V}
use Rattle.fix_values.specs.declared.rule.V.TheVariants as why
use Rattle.fix_values.specs.Codes.{found_text, has_short_text, has_soh}
use Rattle.fix_values.specs.Values.{text_shown}
use Rattle.bridge_rules.specs.Texts.{judged_text}

judged_by : (t : List ℕ) (s : Bool) → judged_text t (cond {A = Result Unit V} s (Err why.Soh) (Ok tt)) ≡ cond {A = Result (List ℕ) V} s (Err why.Soh) (Ok t)
judged_by t true = refl
judged_by t false = refl

judged : (t : List ℕ) → 0 < length t → judged_text t (text_shown t) ≡ cond {A = Result (List ℕ) V} (has_soh t) (Err why.Soh) (Ok t)
judged [] some = absurd (omega (arith, some))
judged (b ∷ bs) some = judged_by (b ∷ bs) (has_soh (b ∷ bs))

-- a code's text is judged as any text
pub code_judged : (code : Code) → has_short_text code ≡ true → judged_text code.text (text_shown code.text) ≡ found_text (Some code)
code_judged code short = judged code.text (grind (arith, nat_tests))
