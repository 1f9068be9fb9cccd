use Rattle.std.proofs.Common.{◌≡◌, arith, ap, ◌+◌, ◌-◌, ◌++◌, ◌∙◌, take}
use Rattle.json_elements.specs.Reading.{pointer}
use Rattle.json_elements.proofs.Pointers.{one_step}
use Rattle.json_elements.proofs.refusal.path_of.Goals as goal

pub loop-left-preserved : goal.loop-left-preserved
loop-left-preserved c =
    let back : c.loop-left.left - 1 + 1 ≡ c.loop-left.left = omega arith in
    let so_far = ap (λ n. c.loop-left.text ++ pointer (take n c.args.steps.now)) back ∙ c.loop-left.invariant.1 in
    (omega arith, one_step c.args.steps.now (c.loop-left.left - 1) _ c.loop-left.text c.push_step.new.text (omega arith) c.in_ok-push_step.ensures so_far)
