-- What is found of a field or data, by its rule.
use Rattle.std.proofs.Common.{◌≡◌, ℕ, List, Option, Some, None, Result, Ok, Err, sym, ap, ◌∙◌, subst}
use Rattle.std.specs.Prelude.{IfOk, IfSome, option_map}
use Rattle.sbe_types.specs.declared.kind.Kind.{Kind}
use Rattle.sbe_types.specs.declared.schema.DataField.{DataField}
use Rattle.bridge_rules.specs.Datatypes.{Datatype}
use Rattle.bridge_rules.specs.Rules.{Rule}
use Rattle.bridge_rules.specs.Members.{and_then}
use Rattle.bridge_rules.specs.Table.{rule_of, data_rule}
use Rattle.bridge_table.specs.declared.rule.FieldRule.{FieldRule}
use Rattle.bridge_plan.specs.Mappings.{Mapping, datatype_of}
use Rattle.plan_rows.specs.declared.found.Found.{Found as FoundRow}
use Rattle.plan_rows.specs.Found.{data_slot_by, data_slot_with, field_slot_by, field_slot_with, IsFound}

-- what follows of an answer that is there
pub if_ok : {A E : Type 0} (r : Result A E) (P Q : A → Type 0) → ((a : A) → P a → Q a) → IfOk r P → IfOk r Q
if_ok (Ok a) P Q turn h = turn a h
if_ok (Err e) P Q turn h = tt

-- the same, where the answer comes first
pub turned_ok : {A E : Type 0} {P Q : A → Type 0} (r : Result A E) → IfOk r P → ((a : A) → P a → Q a) → IfOk r Q
turned_ok (Ok a) h turn = turn a h
turned_ok (Err e) h turn = tt

pub turned_some : {A : Type 0} {P Q : A → Type 0} (o : Option A) → IfSome o P → ((a : A) → P a → Q a) → IfSome o Q
turned_some None h turn = tt
turned_some (Some a) h turn = turn a h

-- what holds of an answer that is there
pub some_of : {A : Type 0} (P : A → Type 0) (o : Option A) (x : A) → IfSome o P → o ≡ Some x → P x
some_of P o x h is = subst (λ o. IfSome o P) is h

-- what holds of the list that an answer has
pub made_rows : {V X : Type 0} (made : Option V) (items : V → List X) (Q : List X → Type 0) (o : Option (List X)) → option_map items made ≡ o → ((rows : List X) → o ≡ Some rows → Q rows) →
    IfSome made (λ v. Q (items v))
made_rows None items Q o told turn = tt
made_rows (Some v) items Q o told turn = turn (items v) (sym told)

-- the rule that the table has for what a datatype is seen as
pub ruled : (by : Datatype → Option Rule) (with : FieldRule → Rule) (seen meant : Datatype) (o : Option FieldRule) (rule : FieldRule) → seen ≡ meant → option_map with o ≡ by seen → o ≡ Some rule →
    by meant ≡ Some (with rule)
ruled by with seen meant o rule same told some = ap by (sym same) ∙ sym told ∙ ap (option_map with) some

module _ {R : Type 0} (follows : R → Rule → Type 0) (m : Mapping) (tag number : ℕ) (rule : Rule) (f : FoundRow R) where
  pub found_field : (kind : Kind) → rule_of kind (datatype_of m tag) ≡ Some rule → IsFound follows m.lists (Some (field_slot_with tag number rule)) f →
      IsFound follows m.lists (field_slot_by m tag number kind) f
  found_field kind same is = subst (λ o. IsFound follows m.lists (and_then o (λ r. Some (field_slot_with tag number r))) f) (sym same) is

  pub found_data : (d : DataField) → data_rule d (datatype_of m tag) ≡ Some rule → IsFound follows m.lists (Some (data_slot_with tag number rule)) f →
      IsFound follows m.lists (data_slot_by m tag number d) f
  found_data d same is = subst (λ o. IsFound follows m.lists (and_then o (λ r. Some (data_slot_with tag number r))) f) (sym same) is
