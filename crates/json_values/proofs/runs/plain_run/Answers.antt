use Rattle.std.proofs.Common.{◌≡◌, ◌+◌, ◌≤◌, ◌<◌, ◌^◌, length, length-drop, length-take-le, take, drop, arith, rules}
use Rattle.std.specs.List.{prefix_len}
use Rattle.std.proofs.lemmas.List.{take_rest}
use Rattle.std.proofs.lemmas.List.Sums.{prefix_len-le-length}
use Rattle.json_values.specs.Plain.{is_plain_byte}
use Rattle.json_values.proofs.Lanes.{run_behind}
use Rattle.json_values.proofs.runs.plain_run.Goals as goal

pub loop-at-preserved : goal.loop-at-preserved
loop-at-preserved c =
    let bytes = c.args.bytes.now in
    let at = c.loop-at.at in
    let run = c.lane_run-run.result in
    let room : at + 8 ≤ length bytes = omega (arith, c.loop-at.invariant.within, c.loop-at-test.true) in
    let most = prefix_len-le-length is_plain_byte (take 8 (drop at bytes)) in
    let long = length-take-le 8 (drop at bytes) (omega (arith, length-drop at bytes)) in
    let whole : run ≡ 8 = omega (arith, c.if-run-lt-LANES.false, c.lane_run-run.ensures, most, long) in
    let next = run_behind is_plain_byte bytes at 8 room (omega (arith, whole, c.lane_run-run.ensures)) in
    let on : prefix_len is_plain_byte bytes ≡ at + 8 + prefix_len is_plain_byte (drop (at + 8) bytes) = omega (arith, c.loop-at.invariant.run, next) in
    record { within = omega (arith, whole, room); run = rw whole on }

pub overflow_add-result : goal.overflow_add-result
overflow_add-result c =
    let bytes = c.args.bytes.now in
    let most = prefix_len-le-length is_plain_byte bytes in
    let fits : length bytes < 2 ^ 63 = search rules in
    let run = rw (take_rest bytes c.loop-at.at) at c.short_run.ensures in
    record { fits = omega (arith, c.loop-at.invariant.run, run, most, fits) }

pub last_run-requires-clause-looked : goal.last_run-requires-clause-looked
last_run-requires-clause-looked c = omega (arith, c.loop-at.invariant.run, c.loop-at-test.false)
