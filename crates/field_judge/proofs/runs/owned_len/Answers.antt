use Rattle.std.proofs.Common.{refl, sym, arith, ◌∙◌}
use Rattle.field_judge.proofs.RunLemmas.{run_ended, run_on, run_whole}
use Rattle.field_judge.proofs.SliceLemmas.{got}
use Rattle.field_judge.proofs.runs.owned_len.Goals as goal

pub loop-i-init : goal.loop-i-init
loop-i-init c = (refl, refl)

pub loop-i-preserved : goal.loop-i-preserved
loop-i-preserved c =
    let x = got c.args.fields.now c.loop-i.i (omega (arith, c.loop-i-test.true)) in
    run_on c.args.owned.now c.args.fields.now c.loop-i.i x.0 x.1 (sym (c.is_owned.ensures x.0 x.1) ∙ c.if-not-is_owned.false) c.loop-i.invariant

pub returns-then-not-is_owned-clause-run : goal.returns-then-not-is_owned-clause-run
returns-then-not-is_owned-clause-run c =
    let x = got c.args.fields.now c.loop-i.i (omega (arith, c.loop-i-test.true)) in
    (run_ended c.args.owned.now c.args.fields.now c.loop-i.i x.0 x.1 (sym (c.is_owned.ensures x.0 x.1) ∙ c.if-not-is_owned.true) c.loop-i.invariant).0

pub returns-then-not-is_owned-clause-rest : goal.returns-then-not-is_owned-clause-rest
returns-then-not-is_owned-clause-rest c =
    let x = got c.args.fields.now c.loop-i.i (omega (arith, c.loop-i-test.true)) in
    (run_ended c.args.owned.now c.args.fields.now c.loop-i.i x.0 x.1 (sym (c.is_owned.ensures x.0 x.1) ∙ c.if-not-is_owned.true) c.loop-i.invariant).1

pub returns-clause-run : goal.returns-clause-run
returns-clause-run c = (run_whole c.args.owned.now c.args.fields.now c.loop-i.i (omega (arith, c.loop-i-test.false)) c.loop-i.invariant).0

pub returns-clause-rest : goal.returns-clause-rest
returns-clause-rest c = (run_whole c.args.owned.now c.args.fields.now c.loop-i.i (omega (arith, c.loop-i-test.false)) c.loop-i.invariant).1
