-- The numbers of entries of good values can be spelled.
use Rattle.std.proofs.Common.{◌≡◌, ℕ, ◌<◌, ◌^◌, true, List, [], ◌∷◌, length, Option, Some, None, refl, sym, ap, ◌∙◌, subst}
use Rattle.std.specs.Prelude.{pos}
use Rattle.sbe_types.specs.declared.kind.Leaf.{Leaf as LeafOf}
use Rattle.sbe_types.specs.declared.message.Value.{Value}
use Rattle.sbe_types.specs.declared.schema.Group.{Group}
use Rattle.sbe_types.specs.declared.schema.Level.{Level}
use Rattle.sbe_types.specs.Shown.{admits}
use Rattle.reference_graph.specs.Expansion.{Structure, ended, plain, counted, structure_tags}
use Rattle.bridge_rules.specs.Members.{and_then}
use Rattle.bridge_rules.proofs.OptionLemmas.{some_is, none_some}
use Rattle.bridge_terms.specs.Plans.{Plan, Repeat, Tree, Each, done, single, group, AreGood}
use Rattle.bridge_terms.specs.PlanFacts.{AreCounted}
use Rattle.bridge_plan.specs.Mappings.{Mapping, delimiter_of}
use Rattle.bridge_plan.specs.Covers.{level_in, count_leaf, repeat_of, plan_of}
use Rattle.bridge_plan.specs.StructureFacts.{EachGroup, HasCount}
use Rattle.bridge_plan.proofs.PlanParts.{Steps, plan_by}

-- the count of a group's repeat is that of its dimension
pub repeat_count : (tag place : ℕ) (inner : Structure) (x : Group) (g : Repeat) → repeat_of tag place inner x ≡ Some g → count_leaf x ≡ Some g.count
repeat_count tag place inner x g h = by_delimiter (delimiter_of inner) (count_leaf x) refl h
  where
    by_delimiter : (d : Option ℕ) (c : Option LeafOf) → count_leaf x ≡ c →
        and_then d (λ delimiter. and_then c (λ count. Some (record { tag = tag; level = level_in x; place = place; delimiter = delimiter; count = count; owned = structure_tags inner }))) ≡ Some g → count_leaf x ≡ Some g.count
    by_delimiter None c is k = none_some k
    by_delimiter (Some d) None is k = none_some k
    by_delimiter (Some d) (Some c) is k = is ∙ ap (λ (r : Repeat). Some r.count) (some_is k)

abbrev IsShortPlan : Structure → Level → Plan → Type 0
IsShortPlan s level p = (t : Tree Value p) → AreGood p t → AreCounted p t

each_short : {X : Type 0} (P Q : X → Type 0) → ((x : X) → P x → Q x) → (xs : List X) → Each P xs → Each Q xs
each_short P Q turn [] all = tt
each_short P Q turn (x ∷ xs) all = (turn x all.0, each_short P Q turn xs all.1)

short_steps : (m : Mapping) → Steps m HasCount IsShortPlan
short_steps m = record {
  at_end = λ level t good. tt;
  no_slot = λ tag rest level p none more. more;
  a_slot = λ tag rest level p slot is more t good. more t.1 good.1;
  no_group = λ tag inner rest level p none more. more;
  a_group = λ tag inner rest level p found g is some own deeper more t good.
      let same : g.count ≡ own.leaf = some_is (sym (repeat_count tag found.0 inner found.1 g some) ∙ own.counts) in
      let inside = plan_of m inner (level_in found.1) in (
        own.short (length t.0) (ap (λ leaf. admits leaf (pos (length t.0))) (sym same) ∙ good.0),
        good.0,
        each_short (λ e. AreGood inside e) (λ e. AreCounted inside e) (λ e h. deeper e h) t.0 good.1,
        more t.1 good.2,
      );
}

pub counts_short : (m : Mapping) (s : Structure) (level : Level) → EachGroup HasCount s level → (t : Tree Value (plan_of m s level)) → AreGood (plan_of m s level) t → AreCounted (plan_of m s level) t
counts_short m s level counts t good = plan_by m HasCount IsShortPlan (short_steps m) s level counts t good
