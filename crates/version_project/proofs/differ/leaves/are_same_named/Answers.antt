use Rattle.std.proofs.Common.{sym, ◌∙◌, arith}
use Rattle.version_laws.specs.Same.{same_named}
use Rattle.version_project.proofs.Alike.{unlike_long, alike_goes, alike_stops, alike_ends, names_alike}
use Rattle.version_project.proofs.differ.leaves.are_same_named.Goals as goal

pub returns-then-len : goal.returns-then-len
returns-then-len c =
    unlike_long same_named c.args.old.now c.args.new.now (λ same. c.if-len.true (c.len.ensures ∙ same ∙ sym c.len-2.ensures)) ∙ sym (names_alike c.args.old.now c.args.new.now)

pub returns-then-not-is_same_named : goal.returns-then-not-is_same_named
returns-then-not-is_same_named c =
    alike_stops same_named c.args.old.now c.args.new.now c.loop-i.i _ _ _ c.at.ensures c.at-in-loop-i.ensures c.is_same_named.ensures c.if-not-is_same_named.true c.loop-i.invariant
    ∙ sym (names_alike c.args.old.now c.args.new.now)

pub loop-i-preserved : goal.loop-i-preserved
loop-i-preserved c =
    alike_goes same_named c.args.old.now c.args.new.now c.loop-i.i _ _ _ c.at.ensures c.at-in-loop-i.ensures c.is_same_named.ensures c.if-not-is_same_named.false c.loop-i.invariant

pub returns : goal.returns
returns c =
    alike_ends same_named c.args.old.now c.args.new.now c.loop-i.i (omega arith) (omega arith) c.loop-i.invariant
    ∙ sym (names_alike c.args.old.now c.args.new.now)
