use Rattle.std.proofs.Common.{◌≡◌, ℕ, ◌<◌, List, length, get_or, sym, ap, subst, ◌∙◌, arith}
use Rattle.sbe_types.specs.declared.kind.Kind.{Kind}
use Rattle.sbe_types.specs.declared.kind.Member.{Member}
use Rattle.sbe_types.specs.Places.{width}
use Rattle.schema_rules.specs.declared.facts.Fact.{Fact}
use Rattle.schema_rules.specs.Facts.{counted}
use Rattle.schema_facts.proofs.KindLists.{width_comp}
use Rattle.type_kinds.proofs.WidthLemmas.{end_more, end_all}
use Rattle.type_kinds.proofs.widths.+widths.Goals as goal

pub end_of-loop-member-preserved : goal.end_of-loop-member-preserved
end_of-loop-member-preserved t c =
    let at = c.loop-member.invariant in
    let same = c.as_slice-member-items.ensures in
    let m = c.member-item.result in
    end_more c.args.members.now c.loop-member.member-index m c.loop-member.end at.0 c.past-end.result c.fact_of.result
    (subst (λ (ms : List Member). c.loop-member.member-index < length ms) same c.loop-member-test.true)
    (c.member-item.is ∙ ap (λ (ms : List Member). get_or ms c.loop-member.member-index m) same)
    at.1 at.2 c.fact_of.ensures.fixed c.fact_of.ensures.wide c.past-end.ensures

pub end_of-returns : goal.end_of-returns
end_of-returns t c =
    let at = c.loop-member.invariant in
    end_all c.args.members.now c.loop-member.member-index c.loop-member.end at.0
    (omega (arith, ap length c.as_slice-member-items.ensures)) at.1 at.2

pub fact_of-returns-in-Comp-clause-wide : goal.fact_of-returns-in-Comp-clause-wide
fact_of-returns-in-Comp-clause-wide t c =
    ap (λ (f : Fact). counted f.width) c.of_width-in-Comp.ensures ∙ c.end_of.ensures ∙ ap counted (sym (width_comp c.in-Comp.members))
    ∙ ap (λ (k : Kind). counted (width k)) (sym c.in-Comp.is)
