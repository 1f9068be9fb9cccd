use Rattle.std.proofs.Common.{◌≡◌, ◌+◌, ◌≤◌, ◌<◌, ◌^◌, length, length-drop, length-take-le, take, drop, arith, rules}
use Rattle.std.specs.List.{prefix_len}
use Rattle.std.proofs.lemmas.List.{take_rest}
use Rattle.std.proofs.lemmas.List.Sums.{prefix_len-le-length}
use Rattle.flat_rows.specs.Runs.{lies_between}
use Rattle.flat_rows.proofs.LaneRuns.{run_behind}
use Rattle.flat_rows.proofs.runs.run_between.Goals as goal

pub loop-at-preserved : goal.loop-at-preserved
loop-at-preserved c =
    let q = lies_between c.args.low c.args.high in
    let bytes = c.args.bytes.now in
    let at = c.loop-at.at in
    let run = c.lane_run-run.result in
    let room : at + 8 ≤ length bytes = omega (arith, c.loop-at.invariant.within, c.loop-at-test.true) in
    let most = prefix_len-le-length q (take 8 (drop at bytes)) in
    let long = length-take-le 8 (drop at bytes) (omega (arith, length-drop at bytes)) in
    let whole : run ≡ 8 = omega (arith, c.if-run-lt-LANES.false, c.lane_run-run.ensures, most, long) in
    let next = run_behind q bytes at 8 room (omega (arith, whole, c.lane_run-run.ensures)) in
    let on : prefix_len q bytes ≡ at + 8 + prefix_len q (drop (at + 8) bytes) = omega (arith, c.loop-at.invariant.run, next) in
    record { within = omega (arith, whole, room); run = rw whole on }

pub overflow_add-result : goal.overflow_add-result
overflow_add-result c =
    let q = lies_between c.args.low c.args.high in
    let bytes = c.args.bytes.now in
    let most = prefix_len-le-length q bytes in
    let fits : length bytes < 2 ^ 63 = search rules in
    let run = rw (take_rest bytes c.loop-at.at) at c.short_run.ensures in
    record { fits = omega (arith, c.loop-at.invariant.run, run, most, fits) }
