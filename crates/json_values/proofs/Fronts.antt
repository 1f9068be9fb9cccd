-- The text before the first 00, where each of its bytes stands for itself.
use Rattle.std.proofs.Common.{◌≡◌, ℕ, ◌<◌, ◌≤◌, ◌==◌, true, not, List, length, take, get_or, sym, ap, arith}
use Rattle.std.proofs.lemmas.Bool.Decides.{nat_tests}
use Rattle.std.proofs.lemmas.List.Sums.{prefix_len_is, prefix_len_passes, prefix_len-le-length}
use Rattle.std.specs.List.{prefix_len}
use Rattle.field_values.specs.Reports.{before_zero}
use Rattle.json_values.specs.Plain.{is_plain_byte}

no_zero : (b : ℕ) → is_plain_byte b ≡ true → not (b == 0) ≡ true
no_zero b h = grind (arith, nat_tests)

-- a run that a 00 ends, or the last byte, is the text
pub run_is_front : (bytes : List ℕ) (run : ℕ) → run ≡ prefix_len is_plain_byte bytes → (run < length bytes → get_or bytes run 0 ≡ 0) → take run bytes ≡ before_zero bytes
run_is_front bytes run is ends =
    let most : run ≤ length bytes = omega (arith, is, prefix_len-le-length is_plain_byte bytes) in
    let same = prefix_len_is (λ b. not (b == 0)) bytes run 0 most (λ k under. no_zero _ (prefix_len_passes is_plain_byte bytes k 0 (omega (arith, is, under)))) (λ more. ap (λ b. not (b == 0)) (ends more)) in
    ap (λ n. take n bytes) (sym same)
