-- The end of members, counted a member at a time.
use Rattle.std.proofs.Common.{◌≡◌, ℕ, true, Option, refl, ◌+◌, ◌<◌, ◌≤◌, List, [], ◌∷◌, length, drop, get_or, sym, ap, ◌∙◌}
use Rattle.std.proofs.lemmas.List.{at_drop_more, at_drop_all}
use Rattle.sbe_types.specs.declared.kind.Member.{Member}
use Rattle.sbe_types.specs.Places.{width, is_const, end_past, members_end}
use Rattle.schema_rules.specs.declared.facts.Fact.{Fact}
use Rattle.schema_rules.specs.Facts.{counted, past}
use Rattle.schema_facts.specs.InOrder.{leaves, height}
use Rattle.schema_facts.proofs.FactKinds.{past_tells}
use Rattle.sbe_types.specs.declared.kind.Kind.{Kind}

-- the end of the parts with one more, whose fact tells its width and whether it is constant
pub past_wide : (r e : ℕ) (offset : Option ℕ) (fact : Fact) (kind : Kind) → counted r ≡ counted e → fact.is_fixed ≡ is_const kind →
    counted fact.width ≡ counted (width kind) → counted (past r offset fact) ≡ counted (end_past e offset kind)
past_wide r e offset fact kind h fixed wide =
    past_tells r e offset (record { is_fixed = fact.is_fixed; width = fact.width; leaves = leaves kind; height = height kind; holds_empty = true }) kind h
    (record { fixed = fixed; wide = wide; leaves = refl; high = refl; full = λ h. cc })

pub end_more : (ms : List Member) (i : ℕ) (m : Member) (r e next : ℕ) (fact : Fact) → i < length ms → m ≡ get_or ms i m →
    counted r ≡ counted e → members_end e (drop i ms) ≡ members_end 0 ms → fact.is_fixed ≡ is_const m.kind → counted fact.width ≡ counted (width m.kind) →
    next ≡ past r m.offset fact → (x : ℕ) × (counted next ≡ counted x) × (members_end x (drop (i + 1) ms) ≡ members_end 0 ms)
end_more ms i m r e next fact within m_is h all fixed wide next_is = (
  end_past e m.offset m.kind,
  ap counted next_is ∙ past_wide r e m.offset fact m.kind h fixed wide,
  ap (λ (x : Member). members_end e (x ∷ drop (i + 1) ms)) m_is ∙ sym (at_drop_more (members_end e) ms i m within) ∙ all,
)

pub end_all : (ms : List Member) (i r e : ℕ) → length ms ≤ i → counted r ≡ counted e → members_end e (drop i ms) ≡ members_end 0 ms →
    counted r ≡ counted (members_end 0 ms)
end_all ms i r e past h all = h ∙ ap counted (sym (at_drop_all (members_end e) ms i past) ∙ all)
