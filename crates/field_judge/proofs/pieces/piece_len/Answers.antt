use Rattle.std.proofs.Common.{refl, sym, arith, ◌∙◌}
use Rattle.field_judge.proofs.Cutting.{front_ended, front_on, front_whole}
use Rattle.field_judge.proofs.SliceLemmas.{got}
use Rattle.field_judge.proofs.pieces.piece_len.Goals as goal

pub loop-i-init : goal.loop-i-init
loop-i-init c = (refl, refl)

pub loop-i-preserved : goal.loop-i-preserved
loop-i-preserved c =
    let x = got c.args.run.now c.loop-i.i (omega (arith, c.loop-i-test.true)) in
    front_on c.args.delimiter c.args.run.now c.loop-i.i x.0 x.1 (sym (c.is_delimiter.ensures x.0 x.1) ∙ c.if-is_delimiter.false) c.loop-i.invariant

pub returns-then-is_delimiter-clause-front : goal.returns-then-is_delimiter-clause-front
returns-then-is_delimiter-clause-front c =
    let x = got c.args.run.now c.loop-i.i (omega (arith, c.loop-i-test.true)) in
    (front_ended c.args.delimiter c.args.run.now c.loop-i.i x.0 x.1 (sym (c.is_delimiter.ensures x.0 x.1) ∙ c.if-is_delimiter.true) c.loop-i.invariant).0

pub returns-then-is_delimiter-clause-pieces : goal.returns-then-is_delimiter-clause-pieces
returns-then-is_delimiter-clause-pieces c =
    let x = got c.args.run.now c.loop-i.i (omega (arith, c.loop-i-test.true)) in
    (front_ended c.args.delimiter c.args.run.now c.loop-i.i x.0 x.1 (sym (c.is_delimiter.ensures x.0 x.1) ∙ c.if-is_delimiter.true) c.loop-i.invariant).1

pub returns-then-is_delimiter-clause-next : goal.returns-then-is_delimiter-clause-next
returns-then-is_delimiter-clause-next c =
    let x = got c.args.run.now c.loop-i.i (omega (arith, c.loop-i-test.true)) in
    (front_ended c.args.delimiter c.args.run.now c.loop-i.i x.0 x.1 (sym (c.is_delimiter.ensures x.0 x.1) ∙ c.if-is_delimiter.true) c.loop-i.invariant).2

pub returns-clause-front : goal.returns-clause-front
returns-clause-front c = (front_whole c.args.delimiter c.args.run.now c.loop-i.i (omega (arith, c.loop-i-test.false)) c.loop-i.invariant).0

pub returns-clause-pieces : goal.returns-clause-pieces
returns-clause-pieces c = (front_whole c.args.delimiter c.args.run.now c.loop-i.i (omega (arith, c.loop-i-test.false)) c.loop-i.invariant).1

pub returns-clause-next : goal.returns-clause-next
returns-clause-next c = (front_whole c.args.delimiter c.args.run.now c.loop-i.i (omega (arith, c.loop-i-test.false)) c.loop-i.invariant).2
