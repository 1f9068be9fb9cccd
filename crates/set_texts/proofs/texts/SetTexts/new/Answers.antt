use Rattle.std.proofs.Common.{◌+◌, ◌-◌, ◌≡◌, ◌≤◌, length, take, drop, length-drop, arith, ap, subst}
use Rattle.std.specs.Prelude.{IfSome}
use Rattle.std.proofs.lemmas.List.{take_rest}
use Rattle.set_texts.specs.Runs.{IsRun}
use Rattle.set_texts.proofs.RunTexts.{more_runs, no_more}
use Rattle.set_texts.proofs.texts.SetTexts.new.Goals as goal

pub loop-at-preserved : goal.loop-at-preserved
loop-at-preserved c =
    let codes = c.args.codes.now in
    let left = drop c.loop-at.at codes in
    let run = c.in-Some.run' in
    let slice : take (length codes - c.loop-at.at) left ≡ left = take_rest codes c.loop-at.at in
    let own = subst (λ l. IsRun run (take run.many l)) slice (subst (λ o. IfSome o (λ run. IsRun run (take run.many (take (length codes - c.loop-at.at) left)))) c.in-Some.is c.in_ok-run.ensures.run) in
    let few : run.many ≤ length left =
    subst (λ l. run.many ≤ length l) slice (subst (λ o. IfSome o (λ run. run.many ≤ length (take (length codes - c.loop-at.at) left))) c.in-Some.is c.in_ok-run.ensures.within) in
    record {
      within = omega (arith, few, length-drop c.loop-at.at codes, c.many-at.ensures, c.loop-at.invariant.within);
      runs = more_runs codes c.loop-at.runs c.push.new.self run c.loop-at.at (c.loop-at.at + c.many-at.result) (c.in_ok-push-in-Some.ensures.ok) (ap (λ k. c.loop-at.at + k) c.many-at.ensures) own
          c.loop-at.invariant.runs;
    }

pub returns : goal.returns
returns c = no_more c.args.codes.now c.loop-at.runs c.loop-at.at c.loop-at-test.false c.loop-at.invariant.runs
