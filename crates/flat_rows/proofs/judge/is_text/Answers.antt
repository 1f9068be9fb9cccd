use Rattle.std.proofs.Common.{◌≡◌, pos, sym, ◌∙◌, rules}
use mir.Syntax.{w64}
use Rattle.std.proofs.lemmas.Int.{to_z-of_z}
use Rattle.flat_rows.proofs.LaneRuns.{runs_meet, text_ends, text_whole}
use Rattle.flat_rows.proofs.judge.is_text.Goals as goal

pub returns-then-low-gt0 : goal.returns-then-low-gt0
returns-then-low-gt0 c =
    let q = c.args.quick.now in
    let low : q.low ≡ pos c.as_byte-low.result = sym (c.as_byte-low.ensures ∙ to_z-of_z w64 q.low (search rules)) in
    let high : q.high ≡ pos c.as_byte-high.result = sym (c.as_byte-high.ensures ∙ to_z-of_z w64 q.high (search rules)) in
    c.is_lane_text.ensures ∙ runs_meet q c.as_byte-low.result c.as_byte-high.result c.args.bytes.now low high c.if-low-gt0.true

pub returns-then-run-bytes : goal.returns-then-run-bytes
returns-then-run-bytes c =
    let q = c.args.quick.now in
    let low : q.low ≡ pos c.as_byte-low.result = sym (c.as_byte-low.ensures ∙ to_z-of_z w64 q.low (search rules)) in
    let high : q.high ≡ pos c.as_byte-high.result = sym (c.as_byte-high.ensures ∙ to_z-of_z w64 q.high (search rules)) in
    text_ends q c.as_byte-low.result c.as_byte-high.result c.args.bytes.now c.run_between-run.result low high c.run_between-run.ensures c.if-run-bytes.true

pub returns : goal.returns
returns c =
    let q = c.args.quick.now in
    let low : q.low ≡ pos c.as_byte-low.result = sym (c.as_byte-low.ensures ∙ to_z-of_z w64 q.low (search rules)) in
    let high : q.high ≡ pos c.as_byte-high.result = sym (c.as_byte-high.ensures ∙ to_z-of_z w64 q.high (search rules)) in
    text_whole q c.as_byte-low.result c.as_byte-high.result c.args.bytes.now c.run_between-run.result low high c.run_between-run.ensures c.if-run-bytes.false
