use Rattle.std.proofs.Common.{◌≡◌, ◌+◌, ◌-◌, ◌≤◌, length, length-drop, take, drop, take_all, arith, ap}
use Rattle.std.specs.List.{prefix_len}
use Rattle.json_values.specs.Plain.{is_plain_byte}
use Rattle.json_values.proofs.Lanes.{run_behind, front_passes}
use Rattle.json_values.proofs.runs.last_run.Goals as goal

pub returns : goal.returns
returns c =
    let bytes = c.args.bytes.now in
    let last = length bytes - 8 in
    let passed : last ≤ prefix_len is_plain_byte (take last bytes) = omega (arith, front_passes is_plain_byte bytes last c.requires.looked) in
    let same : 0 + last ≡ last = omega arith in
    let after = run_behind is_plain_byte bytes 0 last (omega arith) passed in
    omega (arith, after, ap (λ k. prefix_len is_plain_byte (drop k bytes)) same, c.lane_run.ensures, ap (prefix_len is_plain_byte) (take_all 8 (drop last bytes) (omega (arith, length-drop last bytes))))
