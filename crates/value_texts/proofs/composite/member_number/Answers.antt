use Rattle.std.proofs.Common.{subst, sym, ap, ◌≡◌, ◌≤◌, None, length, arith}
use Rattle.std.specs.Prelude.{Some}
use Rattle.std.proofs.lemmas.Bool.Decides.{nat_tests}
use Rattle.sbe_types.specs.declared.message.Block.{out-Block}
use Rattle.value_texts.specs.FieldViews.{members_seen, nth_number, HasMembers}
use Rattle.value_texts.proofs.Members.{far_number}
use Rattle.value_texts.proofs.composite.member_number.Goals as goal

pub returns-then-i-count : goal.returns-then-i-count
returns-then-i-count c =
    let has : HasMembers (Some c.in-Some.block) = subst HasMembers c.in-Some.is c.requires in
    let count = ap (λ p. p.0) c.counts-count.ensures in
    let far : length (out-Block c.in-Some.block.block).fields ≤ c.args.i = grind (arith, nat_tests, has, count, c.if-i-count.true) in
    subst (λ m. nth_number c.args.i (members_seen m) ≡ None) (sym c.in-Some.is) (far_number c.args.i (out-Block c.in-Some.block.block).fields far)
