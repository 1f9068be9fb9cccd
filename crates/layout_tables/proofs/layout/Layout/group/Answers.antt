use Rattle.std.proofs.Common.{◌≡◌, subst, arith}
use Rattle.layout_tables.proofs.GroupWalk.{GroupsFrom, groups_begin, groups_go, group_within, group_some, group_is, group_level, group_dim}
use Rattle.layout_tables.proofs.layout.Layout.group.Goals as goal

pub loop-init : goal.loop-init
loop-init c = groups_begin c.args.self.now c.args.level c.requires.level

pub row-requires : goal.row-requires
row-requires c = group_within c.args.self.now c.args.level c.loop.counter c.loop.child c.loop.invariant (omega arith)

pub loop-preserved : goal.loop-preserved
loop-preserved c = groups_go c.args.self.now c.args.level c.loop.counter c.loop.child c.row.result.now c.loop.invariant (omega arith) c.row.ensures

pub returns-clause-within : goal.returns-clause-within
returns-clause-within c =
    let done : c.loop.counter ≡ c.args.i = omega arith in
    group_within c.args.self.now c.args.level c.args.i c.loop.child (subst (λ k. GroupsFrom c.args.self.now c.args.level k c.loop.child) done c.loop.invariant) c.requires.group

pub returns-clause-some : goal.returns-clause-some
returns-clause-some c =
    let done : c.loop.counter ≡ c.args.i = omega arith in
    group_some c.args.self.now c.args.level c.args.i c.loop.child (subst (λ k. GroupsFrom c.args.self.now c.args.level k c.loop.child) done c.loop.invariant) c.requires.group

pub returns-clause-level : goal.returns-clause-level
returns-clause-level c =
    let done : c.loop.counter ≡ c.args.i = omega arith in
    group_level c.args.self.now c.args.level c.args.i c.loop.child (subst (λ k. GroupsFrom c.args.self.now c.args.level k c.loop.child) done c.loop.invariant) c.requires.group

pub returns-clause-dim : goal.returns-clause-dim
returns-clause-dim c =
    let done : c.loop.counter ≡ c.args.i = omega arith in
    group_dim c.args.self.now c.args.level c.args.i c.loop.child (subst (λ k. GroupsFrom c.args.self.now c.args.level k c.loop.child) done c.loop.invariant) c.requires.group

pub returns-clause-number : goal.returns-clause-number
returns-clause-number c =
    let done : c.loop.counter ≡ c.args.i = omega arith in
    group_is c.args.self.now c.args.level c.args.i c.loop.child (subst (λ k. GroupsFrom c.args.self.now c.args.level k c.loop.child) done c.loop.invariant)
