use Rattle.std.proofs.Common.{length, ap, sym, ◌∙◌, arith}
use Rattle.kind_bytes.proofs.Composites.{comp_same, member_ready, member_refused, member_passed, members_few, none_behind}
use Rattle.kind_bytes.proofs.judge.+kind.Goals as goal

pub fits_members-fits_kind-requires : goal.fits_members-fits_kind-requires
fits_members-fits_kind-requires t c =
    let ready = member_ready c.args.members.now c.loop-i.i c.at.result.now c.requires.ready c.at.ensures in
    (omega (arith, ready.1, c.decreases), ready.0)

pub fits_members-under-requires : goal.fits_members-under-requires
fits_members-under-requires t c =
    let ready = member_ready c.args.members.now c.loop-i.i c.at.result.now c.requires.ready c.at.ensures in
    omega (arith, ready.1, c.requires.ready.within.height, c.if-not-fits_kind.ensures.low)

pub fits_members-returns-then-not-fits_kind-clause-told : goal.fits_members-returns-then-not-fits_kind-clause-told
fits_members-returns-then-not-fits_kind-clause-told t c =
    let members = c.args.members.now in
    let values = c.args.values.now in
    member_refused c.loop-i.i members values c.at.result.now c.at-in-loop-i.result.now c.at.ensures c.at-in-loop-i.ensures c.fits_kind.new.out c.under.new.self c.if-not-fits_kind.ensures.told c.under.ensures
    ∙ c.loop-i.invariant ∙ sym (comp_same members values (omega (arith, c.if-len.false, c.len.ensures, c.len-2.ensures)))

pub fits_members-returns-then-not-fits_kind-clause-low : goal.fits_members-returns-then-not-fits_kind-clause-low
fits_members-returns-then-not-fits_kind-clause-low t c = λ no.
    let ready = member_ready c.args.members.now c.loop-i.i c.at.result.now c.requires.ready c.at.ensures in
    omega (arith, ready.1, c.if-not-fits_kind.ensures.low, ap (λ u. length u.path) c.under.ensures)

pub fits_members-loop-i-preserved : goal.fits_members-loop-i-preserved
fits_members-loop-i-preserved t c =
    member_passed c.loop-i.i c.args.members.now c.args.values.now c.at.result.now c.at-in-loop-i.result.now c.at.ensures c.at-in-loop-i.ensures c.if-not-fits_kind.ensures.told ∙ c.loop-i.invariant

pub fits_members-returns-clause-told : goal.fits_members-returns-clause-told
fits_members-returns-clause-told t c =
    let members = c.args.members.now in
    let values = c.args.values.now in
    none_behind c.loop-i.i members values (omega (arith, c.loop-i-test.false, c.len-i-end.ensures))
    ∙ c.loop-i.invariant ∙ sym (comp_same members values (omega (arith, c.if-len.false, c.len.ensures, c.len-2.ensures)))

pub fits_members-overflow_cast-i : goal.fits_members-overflow_cast-i
fits_members-overflow_cast-i t c =
    let few = members_few c.args.members.now c.requires.ready in
    omega (arith, few, c.loop-i-test.true, c.len-i-end.ensures)
