use Rattle.std.proofs.Common.{length, arith, rules, Fits, w64}
use Rattle.flyweight_view.proofs.Nexts.{end_flat, flat_is}
use Rattle.flyweight_view.proofs.ends.flat_end.Goals as goal

pub overflow_add-result : goal.overflow_add-result
overflow_add-result c =
    let l = c.args.layer.now in
    let e = end_flat l c.args.dim c.requires.lie (flat_is l.mode l.level.now c.requires.flat) in
    let long : Fits w64 (length l.body.now) = search rules in
    omega (arith, e.1, long)

pub returns-clause-rest : goal.returns-clause-rest
returns-clause-rest c =
    let l = c.args.layer.now in
    (end_flat l c.args.dim c.requires.lie (flat_is l.mode l.level.now c.requires.flat)).0

pub returns-clause-within : goal.returns-clause-within
returns-clause-within c =
    let l = c.args.layer.now in
    (end_flat l c.args.dim c.requires.lie (flat_is l.mode l.level.now c.requires.flat)).1
