use Rattle.std.proofs.Common.{◌≡◌, ◌∷◌, ◌+◌, [], refl, sym, ap, ◌∙◌, subst, arith, length, drop, get_or}
use Rattle.std.proofs.lemmas.List.{drop_all}
use Rattle.sbe_types.specs.declared.kind.Kind.{Comp}
use Rattle.sbe_types.specs.Places.{width, begin_of, end_past}
use Rattle.flat_rows.specs.Scalars.{kind_scalars}
use Rattle.flat_rows.proofs.Growing.{GoesOn, goes_first, goes_next, goes_over, regrown}
use Rattle.flat_rows.proofs.Listed.{listed_scalars, composite_scalars}
use Rattle.flat_rows.proofs.MembersFit.{AreFit, members_fit, fit_first}
use Rattle.flat_rows.proofs.RowsJudged.{there}
use Rattle.flat_rows.proofs.make.+make.Goals as goal

pub add_members-loop-member-init : goal.add_members-loop-member-init
add_members-loop-member-init t c = record {
  fit = members_fit c.args.members.now _ c.requires.order refl;
  goes = goes_first _;
}

pub add_members-loop-member-preserved : goal.add_members-loop-member-preserved
add_members-loop-member-preserved t c =
    let all = c.args.members.now in
    let i = c.loop-member.member-index in
    let at = c.args.at in
    let w = width (Comp all) in
    let m = c.member-item.result in
    let end = c.loop-member.end in
    let so_far = c.loop-member.invariant in
    let next : drop i all ≡ m ∷ drop (i + 1) all = there all i m (omega (arith, ap length c.as_slice-member-items.ensures)) (c.member-item.is ∙ ap (λ xs. get_or xs i m) c.as_slice-member-items.ensures) in
    let fit = fit_first w end m (drop (i + 1) all) (drop i all) next so_far.fit in
    let value = regrown (ap (λ p. kind_scalars m.kind (at + p)) c.begin_of.ensures) c.in_ok-add_kind.ensures in
    let on = goes_next (kind_scalars m.kind (at + begin_of end m.offset)) (listed_scalars at (end_past end m.offset m.kind) (drop (i + 1) all)) _ _
    (ap (listed_scalars at end) next) so_far.goes value in
    record {
      fit = subst (λ e. AreFit w e (drop (i + 1) all)) (sym c.end_after-past.ensures) fit.1;
      goes = subst (λ e. GoesOn c.args.table.now c.add_kind.new.table (listed_scalars at e (drop (i + 1) all)) (listed_scalars at 0 all)) (sym c.end_after-past.ensures) on;
    }

pub add_members-returns : goal.add_members-returns
add_members-returns t c =
    let all = c.args.members.now in
    let i = c.loop-member.member-index in
    let done : drop i all ≡ [] = drop_all i all (omega (arith, ap length c.as_slice-member-items.ensures)) in
    regrown (sym (composite_scalars all c.args.at)) (goes_over _ _ (ap (listed_scalars c.args.at c.loop-member.end) done) c.loop-member.invariant.goes)
