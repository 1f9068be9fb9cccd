use Rattle.std.proofs.Common.{◌+◌, length, arith, rules, Fits, w64}
use Rattle.flyweight_view.proofs.Nexts.{first_flat, flat_is, others_lie, others_seen}
use Rattle.flyweight_view.proofs.ends.flat_behind.Goals as goal

pub overflow_add-result : goal.overflow_add-result
overflow_add-result c =
    let l = c.args.layer.now in
    let e = first_flat l c.args.left c.requires.lie c.requires.some (flat_is l.mode l.level.now c.requires.flat) in
    let long : Fits w64 (length l.body.now) = search rules in
    omega (arith, e.1, long)

pub returns-clause-lie : goal.returns-clause-lie
returns-clause-lie c =
    let l = c.args.layer.now in
    let e = first_flat l c.args.left c.requires.lie c.requires.some (flat_is l.mode l.level.now c.requires.flat) in
    others_lie l c.args.left c.requires.lie c.requires.some (c.args.left.after + c.args.left.block) e.0 e.1

pub returns-clause-seen : goal.returns-clause-seen
returns-clause-seen c =
    let l = c.args.layer.now in
    let e = first_flat l c.args.left c.requires.lie c.requires.some (flat_is l.mode l.level.now c.requires.flat) in
    others_seen l c.args.left c.requires.lie c.requires.some (c.args.left.after + c.args.left.block) e.0
