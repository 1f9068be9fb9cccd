use Rattle.std.proofs.Common.{◌≡◌, ◌+◌, ◌≤◌, length, ◌∷◌, List, drop, true, false, refl, sym, ap, ◌∙◌, arith}
use Rattle.std.specs.Prelude.{codes}
use Rattle.std.specs.Str.{bytes_eq}
use Rattle.std.proofs.lemmas.List.{drop_more}
use Rattle.sbe_types.specs.declared.kind.Member.{Member}
use Rattle.sbe_types.specs.Places.{end_past}
use Rattle.sbe_wire.specs.Named.{spot_named}
use Rattle.plan_rows.proofs.Counted.{none_left, spot_later}
use Rattle.back_levels.proofs.Grouped.{leaf_here, leaf_of_spot}
use Rattle.back_levels.proofs.groups.count_of.Goals as goal

pub loop-member-init : goal.loop-member-init
loop-member-init c = λ e. (e, refl)

pub returns-then-eq : goal.returns-then-eq
returns-then-eq c = λ e.
    let q = c.loop-member.invariant e in
    let i = c.loop-member.member-index in
    let own : Member = c.member-item.result in
    let more : List Member = drop (i + 1) c.args.dim.now in
    let same : bytes_eq own.name (codes "numInGroup") ≡ true = sym (c.eq.ensures ∙ (λ j. bytes_eq (c.as_slice.ensures j) (c.as_bytes.ensures.value j))) ∙ c.if-eq.true in
    let rest : drop i c.args.dim.now ≡ own ∷ more = drop_more c.args.dim.now i own (omega arith) ∙ ap (λ x. x ∷ more) (sym c.member-item.is) in
    c.leaf_of.ensures ∙ sym (leaf_here q.0 (codes "numInGroup") own more same) ∙ ap (λ ms. leaf_of_spot (spot_named q.0 (codes "numInGroup") ms)) (sym rest) ∙ q.1

pub loop-member-preserved : goal.loop-member-preserved
loop-member-preserved c = λ e.
    let q = c.loop-member.invariant e in
    let i = c.loop-member.member-index in
    let own : Member = c.member-item.result in
    let more : List Member = drop (i + 1) c.args.dim.now in
    let other : bytes_eq own.name (codes "numInGroup") ≡ false = sym (c.eq.ensures ∙ (λ j. bytes_eq (c.as_slice.ensures j) (c.as_bytes.ensures.value j))) ∙ c.if-eq.false in
    let rest : drop i c.args.dim.now ≡ own ∷ more = drop_more c.args.dim.now i own (omega arith) ∙ ap (λ x. x ∷ more) (sym c.member-item.is) in (
      end_past q.0 own.offset own.kind,
      sym (ap leaf_of_spot (spot_later q.0 (codes "numInGroup") own more other)) ∙ ap (λ ms. leaf_of_spot (spot_named q.0 (codes "numInGroup") ms)) (sym rest) ∙ q.1,
    )

pub returns : goal.returns
returns c = λ e.
    let q = c.loop-member.invariant e in
    let past : length c.args.dim.now ≤ c.loop-member.member-index = omega (arith, c.loop-member-test.false) in
    ap (λ ms. leaf_of_spot (spot_named q.0 (codes "numInGroup") ms)) (sym (none_left c.loop-member.member-index c.args.dim.now past)) ∙ q.1
