-- The end of each value that is written by rows of a plan is found.
use Rattle.std.proofs.Common.{◌≡◌, ℕ, ◌<◌, ◌^◌, false, List, [], ◌∷◌, ◌++◌, Option, Some, None, refl, sym, ap, subst}
use Rattle.std.specs.List.{AllByRecursion}
use Rattle.sbe_types.specs.declared.kind.ConstValue.{ConstValue}
use Rattle.sbe_types.specs.declared.kind.ConstValue.TheVariants as const
use Rattle.sbe_types.specs.declared.kind.Kind.{Kind, Leaf, Enum, Set, Const, Comp', items-the_row-Member}
use Rattle.sbe_types.specs.declared.message.Value as value
use Rattle.sbe_types.specs.declared.schema.DataField.{DataField}
use Rattle.sbe_types.specs.declared.schema.Field.{Field}
use Rattle.sbe_types.specs.declared.schema.Group.{Group, out-Group}
use Rattle.sbe_types.specs.declared.schema.Level.{out-Level}
use Rattle.bridge_rules.specs.Datatypes.{Datatype, whole_number, decimal_number, character, text, boolean, timestamp, time_of_day, calendar_day, month_of_year, raw, code_set, character_set, unbridged}
use Rattle.bridge_rules.specs.Rules.{Rule, constant}
use Rattle.bridge_rules.specs.Table.{const_rule, enum_rule, every_number, rule_of}
use Rattle.bridge_rules.specs.Values.{has_any_byte}
use Rattle.bridge_rules.proofs.OptionLemmas.{and_then_is, none_some, some_is, some_none}
use Rattle.bridge_rules.proofs.TableCases.{composite_cases, enum_cases, leaf_cases, set_cases}
use Rattle.bridge_terms.specs.MessageFields.{length_in}
use Rattle.bridge_terms.specs.Parts.{TagLists}
use Rattle.bridge_terms.specs.Plans.{Place, Plan, Slot, done, group, in_fields, single}
use Rattle.message_walk.specs.declared.plan.Part.{Part}
use Rattle.message_walk.specs.declared.plan.Part.TheVariants as part
use Rattle.message_walk.specs.declared.plan.PlanRow.{PlanRow}
use Rattle.message_walk.specs.Rows.{AreRows, Fits, IsForField, IsSlotAt, IsThere}
use Rattle.same_texts.specs.Same.{EndsBy, IsClear}
use Rattle.exact_plans.specs.Rows.{AreSmall, IsSmall, IsSmallPart}

-- ---- rules without any byte

-- the texts of the rule contain no SOH
abbrev IsPlain : Rule → Type 0
IsPlain rule = has_any_byte rule ≡ false

const_plain : (c : ConstValue) (d : Datatype) (rule : Rule) → const_rule c d ≡ Some rule → IsPlain rule
const_plain (const.Num n) whole_number rule h = subst IsPlain (some_is h) refl
const_plain (const.Num n) decimal_number rule h = subst IsPlain (some_is h) refl
const_plain (const.Num n) calendar_day rule h = subst IsPlain (some_is h) refl
const_plain (const.Num n) character rule h = none_some h
const_plain (const.Num n) text rule h = none_some h
const_plain (const.Num n) boolean rule h = none_some h
const_plain (const.Num n) timestamp rule h = none_some h
const_plain (const.Num n) time_of_day rule h = none_some h
const_plain (const.Num n) month_of_year rule h = none_some h
const_plain (const.Num n) raw rule h = none_some h
const_plain (const.Num n) (code_set cs) rule h = none_some h
const_plain (const.Num n) (character_set cs) rule h = none_some h
const_plain (const.Num n) unbridged rule h = none_some h
const_plain (const.Text t) text rule h = subst IsPlain (some_is h) refl
const_plain (const.Text []) character rule h = none_some h
const_plain (const.Text (b ∷ [])) character rule h = subst IsPlain (some_is h) refl
const_plain (const.Text (b ∷ c ∷ bs)) character rule h = none_some h
const_plain (const.Text t) whole_number rule h = none_some h
const_plain (const.Text t) decimal_number rule h = none_some h
const_plain (const.Text t) boolean rule h = none_some h
const_plain (const.Text t) timestamp rule h = none_some h
const_plain (const.Text t) time_of_day rule h = none_some h
const_plain (const.Text t) calendar_day rule h = none_some h
const_plain (const.Text t) month_of_year rule h = none_some h
const_plain (const.Text t) raw rule h = none_some h
const_plain (const.Text t) (code_set cs) rule h = none_some h
const_plain (const.Text t) (character_set cs) rule h = none_some h
const_plain (const.Text t) unbridged rule h = none_some h
const_plain (const.Code prim name) d rule h =
    let is = and_then_is (enum_rule (every_number prim) (name ∷ []) d) (λ rule. Some (constant rule (value.Enum name.number))) rule h in
    subst IsPlain (some_is is.2) (enum_cases IsPlain (every_number prim) (name ∷ []) (record { code = λ list. refl; number = λ list. refl; truth = refl }) d is.0 is.1)

kind_plain : (k : Kind) (d : Datatype) (rule : Rule) → rule_of k d ≡ Some rule → IsPlain rule
kind_plain (Leaf l) d rule h = leaf_cases IsPlain l (record { whole = λ is. refl; decimal = λ is. refl; day = λ is. refl; char = λ is. refl; array = λ is. refl }) d rule h
kind_plain (Enum l names) d rule h = enum_cases IsPlain l names (record { code = λ list. refl; number = λ list. refl; truth = refl }) d rule h
kind_plain (Set p names) d rule h = set_cases IsPlain names (λ list. refl) d rule h
kind_plain (Const c) d rule h = const_plain c d rule h
kind_plain (Comp' n members) d rule h =
    composite_cases (λ ks rule. IsPlain rule)
    (record {
      fixed = λ m e is. refl;
      floating = λ m e is its. refl;
      counted = λ from time c u is its. refl;
      wired = λ from time unit is its. refl;
      month = λ y m d w is its on in_week. refl;
    })
    (items-the_row-Member _ members) d rule h

-- ---- rows

pub all_front : {X : Type 0} (P : X → Type 0) (xs ys : List X) → AllByRecursion P (xs ++ ys) → AllByRecursion P xs
all_front P [] ys all = tt
all_front P (x ∷ xs) ys all = (all.0, all_front P xs ys all.1)

pub all_back : {X : Type 0} (P : X → Type 0) (xs ys : List X) → AllByRecursion P (xs ++ ys) → AllByRecursion P ys
all_back P [] ys all = all
all_back P (x ∷ xs) ys all = all_back P xs ys all.1

module _ {R : Type 0} (spells : R → Rule → Type 0) (lists : TagLists) where
  field_ends : (s : Slot) (n : ℕ) (fields : List Field) (parts : List DataField) → s.place ≡ in_fields n → IsThere s.rule s.place fields parts → IsPlain s.rule
  field_ends s n fields parts at there =
      let its : IsForField s.rule n fields = subst (λ (p : Place). IsThere s.rule p fields parts) at there in
      kind_plain its.field.kind its.by_table.datatype s.rule its.by_table.is

  slot_ends : (s : Slot) (o : Option ℕ) (n : ℕ) (its : Part R) (fields : List Field) (parts : List DataField) → IsSlotAt spells o s n its → IsSmallPart its
      → IsThere s.rule s.place fields parts → EndsBy o s.rule
  slot_ends s None n (part.Field by) fields parts at small there = field_ends s n fields parts at.0 there
  slot_ends s (Some tag) n (part.Field by) fields parts at small there = some_none at.1
  slot_ends s None n (part.Data (Some own)) fields parts at small there = none_some at.1
  slot_ends s (Some tag) n (part.Data (Some own)) fields parts at small there = subst (λ (k : ℕ). k < 2 ^ 64) (sym (some_is at.1)) small
  slot_ends s None n (part.Data None) fields parts at small there = ap has_any_byte at.2.is
  slot_ends s (Some tag) n (part.Data None) fields parts at small there = some_none at.1
  slot_ends s o n (part.Group size) fields parts at small there = absurd at

  pub clear_rows : (p : Plan) (rows : List (PlanRow R)) (fields : List Field) (groups : List Group) (parts : List DataField) → AreRows spells lists p rows → Fits p fields groups parts → AreSmall rows
      → IsClear lists p
  clear_rows done rows fields groups parts are fits few = tt
  clear_rows (single s rest) rows fields groups parts are fits few =
      let own : AreSmall (are.0 ∷ are.1) = subst (λ (rs : List (PlanRow R)). AreSmall rs) are.2 few in (
        subst (λ (n : ℕ). n < 2 ^ 64) are.3 own.0.tag,
        slot_ends s (length_in s.tag lists.lengths) are.0.number are.0.part fields parts are.4 own.0.length fits.0,
        clear_rows rest are.1 fields groups parts are.5 fits.1 own.1,
      )
  clear_rows (group g inner rest) rows fields groups parts are fits few =
      let own : AreSmall (are.0 ∷ (are.1 ++ are.2)) = subst (λ (rs : List (PlanRow R)). AreSmall rs) are.3 few in
      let level = out-Level (out-Group fits.0.0).level in (
        subst (λ (n : ℕ). n < 2 ^ 64) are.4 own.0.tag,
        are.6,
        clear_rows inner are.1 level.fields level.groups level.parts are.8 fits.0.2 (all_front (λ (r : PlanRow R). IsSmall r) are.1 are.2 own.1),
        clear_rows rest are.2 fields groups parts are.9 fits.1 (all_back (λ (r : PlanRow R). IsSmall r) are.1 are.2 own.1),
      )
