use Rattle.std.proofs.Common.{◌==◌, ap, ap₂, ◌∙◌, arith}
use Rattle.std.specs.List.{prefix_len}
use Rattle.std.proofs.lemmas.List.{take_all}
use Rattle.flat_rows.specs.Runs.{lies_between, is_set}
use Rattle.flat_rows.proofs.runs.is_lane_text.Goals as goal

pub returns : goal.returns
returns c =
    let bytes = c.args.bytes.now in
    let all = take_all 8 bytes (omega (arith, c.requires)) in
    ap₂ (λ m n. m == n) (c.lane_run.ensures ∙ ap (prefix_len (lies_between c.args.low c.args.high)) all) (c.set_run.ensures ∙ ap (prefix_len is_set) all)
