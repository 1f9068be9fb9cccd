use Rattle.std.proofs.Common.{◌≡◌, ◌==◌, ◌<◌, ◌^◌, false, drop, cond, get_or, Some, sym, ap, ◌∙◌, subst, ne_eqb}
use Rattle.std.specs.Str.Parse.{IsNumeral, digits_value, without_leading_plus}
use Rattle.serde_json.specs.Data.{unsigned}
use Rattle.json_data.proofs.Digits.{digits_read}
use Rattle.json_data.proofs.number.natural.Goals as goal

pub returns-in-Ok : goal.returns-in-Ok
returns-in-Ok c =
    let s = c.args.digits.now in
    let none : (get_or s 0 0 == 43) ≡ false = ne_eqb (get_or s 0 0) 43 c.if-digits-eq43.false in
    let same : without_leading_plus s ≡ s = ap (λ b. drop (cond b 1 0) s) none in
    let told = c.in-Ok.ensures in
    digits_read s (subst (IsNumeral 10) same told.0.0) (subst (λ ds. digits_value 10 ds < 2 ^ 64) same told.0.1) ∙ ap (λ n. Some (unsigned n)) (sym (told.1 ∙ ap (digits_value 10) same))
