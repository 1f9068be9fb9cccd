use Rattle.std.proofs.Common.{◌≡◌, ◌+◌, drop, ap, ◌∙◌, arith}
use Rattle.regrade_laws.specs.Counts.{one_if, drops_field}
use Rattle.version_project.proofs.Items.{drop_at}
use Rattle.regrade.proofs.DropWalk.{sum_step, sum_over}
use Rattle.regrade.proofs.dropping.dropped_fields.Goals as goal

pub overflow_add-dropped : goal.overflow_add-dropped
overflow_add-dropped c =
    let i = c.loop-i.i in
    let here = drop_at c.args.fields.now i c.at.result.now c.at.ensures in
    let step = sum_step (λ p v. one_if (drops_field c.args.version p v)) (drop i c.args.fields.now) (drop (i + 1) c.args.fields.now) c.at.result.now c.args.values.now i c.at-in-loop-i.result.now here c.at-in-loop-i.ensures in
    let one : c.one_if-dropped.result ≡ one_if (drops_field c.args.version c.at.result.now c.at-in-loop-i.result.now) = c.one_if-dropped.ensures ∙ ap (λ t. one_if t) c.drops_field.ensures in
    omega (arith, step, one, c.loop-i.invariant, c.requires)

pub loop-i-preserved : goal.loop-i-preserved
loop-i-preserved c =
    let i = c.loop-i.i in
    let here = drop_at c.args.fields.now i c.at.result.now c.at.ensures in
    let step = sum_step (λ p v. one_if (drops_field c.args.version p v)) (drop i c.args.fields.now) (drop (i + 1) c.args.fields.now) c.at.result.now c.args.values.now i c.at-in-loop-i.result.now here c.at-in-loop-i.ensures in
    let one : c.one_if-dropped.result ≡ one_if (drops_field c.args.version c.at.result.now c.at-in-loop-i.result.now) = c.one_if-dropped.ensures ∙ ap (λ t. one_if t) c.drops_field.ensures in
    omega (arith, step, one, c.loop-i.invariant)

pub returns-then-i-len : goal.returns-then-i-len
returns-then-i-len c =
    let none = sum_over (λ p v. one_if (drops_field c.args.version p v)) (drop c.loop-i.i c.args.fields.now) c.args.values.now c.loop-i.i (omega (arith, c.if-i-len.true, c.len.ensures)) in
    omega (arith, none, c.loop-i.invariant)
