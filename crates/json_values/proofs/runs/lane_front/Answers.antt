use Rattle.std.proofs.Common.{◌≡◌, true, drop, take, take_all, arith, sym, ap, subst, ◌∙◌}
use Rattle.std.specs.List.{prefix_len, list_all}
use Rattle.json_values.specs.Plain.{is_plain_byte}
use Rattle.json_values.proofs.Lanes.{run_passes}
use Rattle.json_values.proofs.runs.lane_front.Goals as goal

pub returns-clause-plain : goal.returns-clause-plain
returns-clause-plain c =
    let bytes = c.args.bytes.now in
    let whole : take 8 (drop 0 bytes) ≡ bytes = take_all 8 bytes (omega (arith, c.requires)) in
    let run = c.lane_run-run.ensures ∙ ap (prefix_len is_plain_byte) whole in
    subst (λ n. list_all is_plain_byte (take n bytes) ≡ true) (sym run) (run_passes is_plain_byte bytes)
