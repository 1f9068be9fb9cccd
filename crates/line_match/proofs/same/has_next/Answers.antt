use Rattle.std.proofs.Common.{◌≡◌, ◌+◌, ◌-◌, length, take, drop, sym, ap, ◌∙◌, arith}
use Rattle.std.proofs.lemmas.Slice.Eq.{bytes_eq-Decides}
use Rattle.line_match.proofs.Grown.{stands}
use Rattle.line_match.proofs.same.has_next.Goals as goal

pub returns : goal.returns
returns c =
    let line = c.args.line.now in
    let bytes = c.args.bytes.now in
    let at = c.args.at in
    let width : length bytes ≡ (at + length bytes) - at = omega arith in
    λ yes. (omega arith, stands line bytes at (ap (λ n. take n (drop at line)) width ∙ (bytes_eq-Decides (take ((at + length bytes) - at) (drop at line)) bytes).0 (sym c.eq.ensures ∙ yes)))
