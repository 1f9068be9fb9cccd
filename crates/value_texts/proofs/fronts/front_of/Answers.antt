use Rattle.std.proofs.Common.{◌≡◌, ◌≤◌, take, take_all, arith, sym, ap, ◌∙◌}
use Rattle.std.specs.List.{prefix_len}
use Rattle.std.proofs.lemmas.List.{length-take-le}
use Rattle.std.proofs.lemmas.List.Sums.{prefix_len-le-length}
use Rattle.std.proofs.lemmas.Bool.Decides.{nat_tests}
use Rattle.flat_rows.specs.Runs.{is_set, lies_between}
use Rattle.value_texts.proofs.PlainFronts.{plain_front}
use Rattle.value_texts.proofs.fronts.front_of.Goals as goal

pub slice_bounds-result-end : goal.slice_bounds-result-end
slice_bounds-result-end c =
    let bytes = c.args.bytes.now in
    let whole : take 8 bytes ≡ bytes = take_all 8 bytes (omega arith) in
    let run = c.set_run-run.ensures ∙ ap (prefix_len is_set) whole in
    sym (length-take-le c.set_run-run.result bytes (omega (arith, run, prefix_len-le-length is_set bytes)))

pub returns-clause-text : goal.returns-clause-text
returns-clause-text c =
    let bytes = c.args.bytes.now in
    let whole : take 8 bytes ≡ bytes = take_all 8 bytes (omega arith) in
    ap (λ n. take n bytes) (c.set_run-run.ensures ∙ ap (prefix_len is_set) whole)

pub returns-clause-plain : goal.returns-clause-plain
returns-clause-plain c = λ plain.
    let bytes = c.args.bytes.now in
    let whole : take 8 bytes ≡ bytes = take_all 8 bytes (omega arith) in
    let run = c.plain_run.ensures ∙ ap (prefix_len (lies_between 2 255)) whole in
    let low : c.set_run-run.result ≤ c.plain_run.result = grind (arith, nat_tests) in
    plain_front c.set_run-run.result bytes (omega (arith, low, run))
