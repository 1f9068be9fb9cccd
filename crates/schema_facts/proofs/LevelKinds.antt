-- The kinds of the fields of a level that passed the rules.
use Rattle.std.proofs.Common.{◌≡◌, ℕ, Bool, true, false, List, [], ◌∷◌, Option, Some, None, refl, sym, subst}
use Rattle.std.specs.Prelude.{Ok, if◌then◌else◌}
use Rattle.std.specs.List.{AllByRecursion}
use Rattle.sbe_types.specs.declared.kind.Member.{Member}
use Rattle.sbe_types.specs.declared.kind.Kind.{Comp}
use Rattle.sbe_types.specs.declared.schema.DataField.{DataField}
use Rattle.sbe_types.specs.declared.schema.Field.{Field}
use Rattle.sbe_types.specs.declared.schema.Level.{out-roll-Level}
use Rattle.sbe_types.specs.declared.tree.PartItem.{PartItem}
use Rattle.sbe_types.specs.declared.tree.PartItem as part
use Rattle.schema_rules.specs.declared.codes.CCode.{CCode}
use Rattle.schema_rules.specs.declared.levels.LevelScope.{LevelScope}
use Rattle.schema_rules.specs.Judging.{CheckResult, Rules, first_of, refuse}
use Rattle.schema_rules.specs.PartRules.{PartsBefore, no_part, with_part, field_rules}
use Rattle.schema_rules.specs.Resolved.{list_fields, list_data}
use Rattle.schema_facts.specs.CheckedLevels.{HasDimensionKind, HasKinds, IsExact}
use Rattle.schema_rules.specs.Counters.{is_dimension}
use Rattle.schema_facts.specs.Levels.{node}
use Rattle.schema_facts.specs.InOrder.{AreAccepted, IsLeafInOrder, IsKindInOrder, IsCompositeInOrder}
use Rattle.schema_facts.proofs.KindCounters.{length_is}
use Rattle.schema_facts.proofs.KindOrder.{field_in_order, members_in_order}
use Rattle.schema_facts.proofs.LevelSteps.{Kept, EachKept, PartKept, not_false}
use Rattle.schema_facts.proofs.LevelWalk.{Base, Head, Passed, DimKept, within_of, scope_of, level_of}

one_passed : (b : Bool) (code : CCode) (rest : CheckResult (Unit {0})) → b ≡ false → rest ≡ Ok tt → (if b then refuse code else rest) ≡ Ok tt
one_passed true code rest h k = cc
one_passed false code rest h k = k

rules_passed : (rs : Rules) → Kept rs → first_of rs ≡ Ok tt
rules_passed [] h = refl
rules_passed (r ∷ rs) h = one_passed r.1 r.0 (first_of rs) h.0 (rules_passed rs h.1)

module _ (base : Base) (level : LevelScope) (accepted : AreAccepted base.types) where
  kinds_of : (before : PartsBefore) (ps : List PartItem) → EachKept (scope_of base level) before ps → AllByRecursion (λ (f : Field). IsKindInOrder f.kind) (list_fields (within_of base level) ps)
  kinds_of before [] h = tt
  kinds_of before (part.Field f ∷ ps) h =
      let kept : PartKept (scope_of base level) before (part.Field f) = h.0 in (
        field_in_order base.types accepted before.all.reached f (rules_passed (field_rules base.types before.all.reached f) kept.own.0),
        kinds_of (with_part (scope_of base level) before (part.Field f)) ps h.1,
      )
  kinds_of before (part.Group' name id dimension since stated n row ∷ ps) h = kinds_of (with_part (scope_of base level) before (part.Group' name id dimension since stated n row)) ps h.1
  kinds_of before (part.Data d ∷ ps) h = kinds_of (with_part (scope_of base level) before (part.Data d)) ps h.1

  lengths_of : (before : PartsBefore) (ps : List PartItem) → EachKept (scope_of base level) before ps → AllByRecursion (λ (d : DataField). IsLeafInOrder d.length) (list_data (within_of base level) ps)
  lengths_of before [] h = tt
  lengths_of before (part.Field f ∷ ps) h = lengths_of (with_part (scope_of base level) before (part.Field f)) ps h.1
  lengths_of before (part.Group' name id dimension since stated n row ∷ ps) h = lengths_of (with_part (scope_of base level) before (part.Group' name id dimension since stated n row)) ps h.1
  lengths_of before (part.Data d ∷ ps) h =
      let kept : PartKept (scope_of base level) before (part.Data d) = h.0 in
      let length = length_is base.types accepted d.type_name (not_false _ kept.own.1.1.0) in
      (length.leaf, lengths_of (with_part (scope_of base level) before (part.Data d)) ps h.1)

  dim_of : (dim : Option (List Member)) (all : _) → DimKept base dim all → HasDimensionKind dim
  dim_of None all h = tt
  dim_of (Some dim) all h = subst (λ ms. IsCompositeInOrder (Comp ms)) (sym h.is) (members_in_order base.types accepted h.name)

  -- the kinds of such a level are in order
  pub kinds_kept : (t : ℕ) (dim : Option (List Member)) (head : Head) (ps : List PartItem) → Passed base level dim head ps → HasKinds (node t dim (level_of (within_of base level) head ps))
  kinds_kept t dim head ps passed =
      record {
        fields = subst (λ r. AllByRecursion (λ (f : Field). IsKindInOrder f.kind) r.fields) (sym (out-roll-Level _)) (kinds_of no_part ps passed.each);
        dim = dim_of dim _ passed.told;
        lengths = subst (λ r. AllByRecursion (λ (d : DataField). IsLeafInOrder d.length) r.parts) (sym (out-roll-Level _)) (lengths_of no_part ps passed.each);
      }

-- the dimension of such a level is its two numbers
pub dim_exact : (base : Base) (dim : Option (List Member)) (all : _) → DimKept base dim all → IsExact dim
dim_exact base None all h = tt
dim_exact base (Some dim) all h = subst (λ ms. is_dimension ms ≡ true) (sym h.is) (not_false _ h.rules.1.1.0)
