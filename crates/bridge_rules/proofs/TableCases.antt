-- The rules that the table has for a kind: what holds of each of them holds of the rule of the kind and any datatype.
use Rattle.std.proofs.Common.{◌≡◌, inl, inr, ℕ, Bool, true, false, List, [], ◌∷◌, codes, Option, Some, None, refl, sym, ◌∙◌, subst, ℤ, pos}
use Rattle.std.specs.Prelude.{⊤, ◌&&◌, ◌||◌, not, int_le}
use Rattle.std.specs.List.{list_all}
use Rattle.sbe_types.specs.declared.kind.Leaf.{Leaf as LeafOf}
use Rattle.sbe_types.specs.declared.kind.Named.{Named}
use Rattle.sbe_types.specs.declared.kind.ConstValue.{ConstValue}
use Rattle.sbe_types.specs.declared.kind.ConstValue.TheVariants as const
use Rattle.sbe_types.specs.declared.kind.Member.{Member}
use Rattle.sbe_types.specs.declared.kind.Kind.{Kind, Leaf, Enum, Set, Const, Comp', Row_of-Member, end_of-Member, more_of-Member, items-the_row-Member}
use Rattle.sbe_types.specs.declared.kind.Primitive.TheVariants.{I64}
use Rattle.sbe_types.specs.declared.message.Value.{Value}
use Rattle.sbe_types.specs.declared.message.Value as value
use Rattle.sbe_types.specs.Numbers.{natural}
use Rattle.sbe_types.specs.Shown.{is_optional}
use Rattle.fix_values.specs.declared.rule.Code.{Code}
use Rattle.fix_values.specs.Codes.{is_apart, same_text, same_truth}
use Rattle.schema_facts.specs.InOrder.{IsKindFrom, AreKindsFrom}
use Rattle.date_answers.specs.Answers.{is_unit}
use Rattle.bridge_rules.specs.Rules.{Rule, integer, integer_decimal, fixed_decimal, floating_decimal, single_char, char_array, enum_code, enum_number, enum_boolean, choice_set, day_count, moment, month_year, any_text, constant, From, from_1970, from_midnight, always, on_wire, is_char}
use Rattle.bridge_rules.specs.Datatypes.{Datatype, whole_number, decimal_number, character, text, boolean, timestamp, time_of_day, calendar_day, month_of_year, raw, code_set, character_set, unbridged}
use Rattle.bridge_rules.specs.Table.{rule_if, is_char_leaf, is_integer, is_array, is_digit, leaf_rule, by_codes, enum_rule, set_rule, decimal_by, constant_unit, moment_by, month_by, kinds_of, composite_rule, const_number, codes_of, number_codes, choice_codes, every_number, every_byte, const_rule, are_named, is_optional_byte, is_single_byte}
use Rattle.bridge_rules.specs.Again.{CanRepeat}
use Rattle.bridge_rules.proofs.OptionLemmas.{some_is, none_some, and_then_is, and_first, and_second, if_some}
use Rattle.bridge_rules.proofs.BoolLemmas.{either, if_true, if_false}

-- a test that let a rule through
pub rule_by : (P : Rule → Type 0) (t : Bool) (r rule : Rule) → rule_if t r ≡ Some rule → (t ≡ true → P r) → P rule
rule_by P true r rule h f = subst P (some_is h) (f refl)
rule_by P false r rule h f = none_some h

-- what holds of the rules of a single integer, a single char and a char array
pub record OfLeaf (P : Rule → Type 0) (leaf : LeafOf) : Type 0 where
  pub whole : is_integer leaf ≡ true → P (integer leaf)
  pub decimal : is_integer leaf ≡ true → P (integer_decimal leaf)
  pub day : is_integer leaf ≡ true → P (day_count leaf)
  pub char : is_char_leaf leaf ≡ true → P (single_char leaf)
  pub array : is_array leaf.shape ≡ true → P (char_array leaf)

pub leaf_cases : (P : Rule → Type 0) (leaf : LeafOf) → OfLeaf P leaf → (d : Datatype) (rule : Rule) → leaf_rule leaf d ≡ Some rule → P rule
leaf_cases P leaf all whole_number rule h = rule_by P (is_integer leaf) (integer leaf) rule h all.whole
leaf_cases P leaf all decimal_number rule h = rule_by P (is_integer leaf) (integer_decimal leaf) rule h all.decimal
leaf_cases P leaf all calendar_day rule h = rule_by P (is_integer leaf) (day_count leaf) rule h all.day
leaf_cases P leaf all character rule h = rule_by P (is_char_leaf leaf) (single_char leaf) rule h all.char
leaf_cases P leaf all text rule h = elim (either (is_char_leaf leaf)) [
  | inl t ↦ subst P (some_is (sym (if_true (is_char_leaf leaf) (Some (single_char leaf)) (rule_if (is_array leaf.shape) (char_array leaf)) t) ∙ h)) (all.char t)
  | inr f ↦
      rule_by P (is_array leaf.shape) (char_array leaf) rule
      (sym (if_false (is_char_leaf leaf) (Some (single_char leaf)) (rule_if (is_array leaf.shape) (char_array leaf)) f) ∙ h) all.array
]
leaf_cases P leaf all boolean rule h = none_some h
leaf_cases P leaf all timestamp rule h = none_some h
leaf_cases P leaf all time_of_day rule h = none_some h
leaf_cases P leaf all month_of_year rule h = none_some h
leaf_cases P leaf all raw rule h = none_some h
leaf_cases P leaf all (code_set cs) rule h = none_some h
leaf_cases P leaf all (character_set cs) rule h = none_some h
leaf_cases P leaf all unbridged rule h = none_some h

-- what holds of the rules of an enum, whatever its codes are
pub record OfEnum (P : Rule → Type 0) (leaf : LeafOf) (names : List Named) : Type 0 where
  pub code : (list : List Code) → P (enum_code leaf names list)
  pub number : (list : List Code) → P (enum_number leaf names list)
  pub truth : P (enum_boolean leaf names)

pub enum_cases : (P : Rule → Type 0) (leaf : LeafOf) (names : List Named) → OfEnum P leaf names → (d : Datatype) (rule : Rule) → enum_rule leaf names d ≡ Some rule → P rule
enum_cases P leaf names all (code_set cs) rule h =
    rule_by P (is_apart same_text (codes_of leaf.prim cs names)) (enum_code leaf names (codes_of leaf.prim cs names)) rule h (λ is. all.code (codes_of leaf.prim cs names))
enum_cases P leaf names all character rule h =
    rule_by P (is_apart same_text (number_codes leaf.prim names)) (enum_code leaf names (number_codes leaf.prim names)) rule h (λ is. all.code (number_codes leaf.prim names))
enum_cases P leaf names all text rule h =
    rule_by P (is_apart same_text (number_codes leaf.prim names)) (enum_code leaf names (number_codes leaf.prim names)) rule h (λ is. all.code (number_codes leaf.prim names))
enum_cases P leaf names all whole_number rule h =
    let own = number_codes leaf.prim names in
    let test = if_some (not (is_char leaf.prim) || list_all is_digit names) (by_codes enum_number leaf names own) rule h in
    rule_by P (is_apart same_text own) (enum_number leaf names own) rule test.1 (λ is. all.number own)
enum_cases P leaf names all boolean rule h = rule_by P (is_apart same_truth names) (enum_boolean leaf names) rule h (λ is. all.truth)
enum_cases P leaf names all decimal_number rule h = none_some h
enum_cases P leaf names all timestamp rule h = none_some h
enum_cases P leaf names all time_of_day rule h = none_some h
enum_cases P leaf names all calendar_day rule h = none_some h
enum_cases P leaf names all month_of_year rule h = none_some h
enum_cases P leaf names all raw rule h = none_some h
enum_cases P leaf names all (character_set cs) rule h = none_some h
enum_cases P leaf names all unbridged rule h = none_some h

pub set_cases : (P : Rule → Type 0) (names : List Named) → ((list : List Code) → P (choice_set names list)) → (d : Datatype) (rule : Rule) → set_rule names d ≡ Some rule → P rule
set_cases P names all (character_set cs) rule h =
    let own = choice_codes cs names in
    rule_by P _ (choice_set names own) rule h (λ is. all own)
set_cases P names all whole_number rule h = none_some h
set_cases P names all decimal_number rule h = none_some h
set_cases P names all character rule h = none_some h
set_cases P names all text rule h = none_some h
set_cases P names all boolean rule h = none_some h
set_cases P names all timestamp rule h = none_some h
set_cases P names all time_of_day rule h = none_some h
set_cases P names all calendar_day rule h = none_some h
set_cases P names all month_of_year rule h = none_some h
set_cases P names all raw rule h = none_some h
set_cases P names all (code_set cs) rule h = none_some h
set_cases P names all unbridged rule h = none_some h

-- ---- composites

-- the kinds are in order
abbrev pub AreKinds : List Kind → Type 0
AreKinds [] = ⊤
AreKinds (k ∷ ks) = IsKindFrom 1 k × AreKinds ks

pub members_are : {n : _} (row : Row_of-Member n) → AreKindsFrom 1 row → AreKinds (kinds_of (items-the_row-Member n row))
members_are end_of-Member all = tt
members_are (more_of-Member name offset kind rest) all = (all.0, members_are rest all.1)

-- what holds of the rules of composites, by the kinds of their members
pub record OfComposite (P : List Kind → Rule → Type 0) : Type 0 where
  pub fixed : (m : LeafOf) (e : ℤ) → is_integer m ≡ true → P (Leaf m ∷ Const (const.Num e) ∷ []) (fixed_decimal m e)
  pub floating : (m e : LeafOf) → is_integer m ≡ true → is_integer e ≡ true → P (Leaf m ∷ Leaf e ∷ []) (floating_decimal m e)
  pub counted : (from : From) (time : LeafOf) (c : ConstValue) (u : ℕ) → is_integer time ≡ true → is_unit u ≡ true → P (Leaf time ∷ Const c ∷ []) (moment from time (always u))
  pub wired : (from : From) (time unit : LeafOf) → is_integer time ≡ true → is_single_byte unit ≡ true → P (Leaf time ∷ Leaf unit ∷ []) (moment from time (on_wire unit))
  pub month : (y m d w : LeafOf) → is_integer y ≡ true → is_integer m ≡ true → is_optional_byte d ≡ true → is_optional_byte w ≡ true →
      P (Leaf y ∷ Leaf m ∷ Leaf d ∷ Leaf w ∷ []) (month_year (record { year = y; month = m; day = d; week = w }))

decimal_cases : (P : List Kind → Rule → Type 0) → OfComposite P → (ks : List Kind) (rule : Rule) → decimal_by ks ≡ Some rule → P ks rule
decimal_cases P all [] rule h = none_some h
decimal_cases P all (Enum l2 ns ∷ ks) rule h = none_some h
decimal_cases P all (Set p ns ∷ ks) rule h = none_some h
decimal_cases P all (Comp' n row ∷ ks) rule h = none_some h
decimal_cases P all (Const c ∷ ks) rule h = none_some h
decimal_cases P all (Leaf m ∷ []) rule h = none_some h
decimal_cases P all (Leaf m ∷ Enum l2 ns ∷ ks) rule h = none_some h
decimal_cases P all (Leaf m ∷ Set p ns ∷ ks) rule h = none_some h
decimal_cases P all (Leaf m ∷ Comp' n row ∷ ks) rule h = none_some h
decimal_cases P all (Leaf m ∷ Const (const.Text t) ∷ ks) rule h = none_some h
decimal_cases P all (Leaf m ∷ Const (const.Code p name) ∷ ks) rule h = none_some h
decimal_cases P all (Leaf m ∷ Const (const.Num e) ∷ []) rule h =
    rule_by (P (Leaf m ∷ Const (const.Num e) ∷ [])) (is_integer m) (fixed_decimal m e) rule h (all.fixed m e)
decimal_cases P all (Leaf m ∷ Const (const.Num e) ∷ k ∷ ks) rule h = none_some h
decimal_cases P all (Leaf m ∷ Leaf e ∷ []) rule h =
    rule_by (P (Leaf m ∷ Leaf e ∷ [])) (is_integer m && is_integer e) (floating_decimal m e) rule h
    (λ is. all.floating m e (and_first (is_integer m) (is_integer e) is) (and_second (is_integer m) (is_integer e) is))
decimal_cases P all (Leaf m ∷ Leaf e ∷ k ∷ ks) rule h = none_some h

unit_cases : (P : Rule → Type 0) (from : From) (time : LeafOf) → ((u : ℕ) → is_integer time ≡ true → is_unit u ≡ true → P (moment from time (always u))) → (o : Option ℤ) (rule : Rule) →
    constant_unit from time o ≡ Some rule → P rule
unit_cases P from time all None rule h = none_some h
unit_cases P from time all (Some u) rule h =
    rule_by P (is_integer time && (int_le (pos 0) u && is_unit (natural u))) (moment from time (always (natural u))) rule h
    (λ is.
    all (natural u) (and_first (is_integer time) (int_le (pos 0) u && is_unit (natural u)) is)
    (and_second (int_le (pos 0) u) (is_unit (natural u)) (and_second (is_integer time) (int_le (pos 0) u && is_unit (natural u)) is)))

moment_cases : (P : List Kind → Rule → Type 0) → OfComposite P → (from : From) (ks : List Kind) (rule : Rule) → moment_by from ks ≡ Some rule → P ks rule
moment_cases P all from [] rule h = none_some h
moment_cases P all from (Enum l2 ns ∷ ks) rule h = none_some h
moment_cases P all from (Set p ns ∷ ks) rule h = none_some h
moment_cases P all from (Comp' n row ∷ ks) rule h = none_some h
moment_cases P all from (Const c ∷ ks) rule h = none_some h
moment_cases P all from (Leaf m ∷ []) rule h = none_some h
moment_cases P all from (Leaf m ∷ Enum l2 ns ∷ ks) rule h = none_some h
moment_cases P all from (Leaf m ∷ Set p ns ∷ ks) rule h = none_some h
moment_cases P all from (Leaf m ∷ Comp' n row ∷ ks) rule h = none_some h
moment_cases P all from (Leaf time ∷ Const c ∷ []) rule h = unit_cases (P (Leaf time ∷ Const c ∷ [])) from time (all.counted from time c) (const_number c) rule h
moment_cases P all from (Leaf time ∷ Const c ∷ k ∷ ks) rule h = none_some h
moment_cases P all from (Leaf time ∷ Leaf unit ∷ []) rule h =
    rule_by (P (Leaf time ∷ Leaf unit ∷ [])) (is_integer time && (is_single_byte unit && not (is_optional unit.presence))) (moment from time (on_wire unit)) rule h
    (λ is.
    let rest = and_second (is_integer time) (is_single_byte unit && not (is_optional unit.presence)) is in
    all.wired from time unit (and_first (is_integer time) (is_single_byte unit && not (is_optional unit.presence)) is) (and_first (is_single_byte unit) (not (is_optional unit.presence)) rest))
moment_cases P all from (Leaf time ∷ Leaf unit ∷ k ∷ ks) rule h = none_some h

month_cases : (P : List Kind → Rule → Type 0) → OfComposite P → (ks : List Kind) (rule : Rule) → month_by ks ≡ Some rule → P ks rule
month_cases P all [] rule h = none_some h
month_cases P all (Enum l2 ns ∷ ks) rule h = none_some h
month_cases P all (Set p ns ∷ ks) rule h = none_some h
month_cases P all (Comp' n row ∷ ks) rule h = none_some h
month_cases P all (Const c ∷ ks) rule h = none_some h
month_cases P all (Leaf y ∷ []) rule h = none_some h
month_cases P all (Leaf y ∷ Enum l2 ns ∷ ks) rule h = none_some h
month_cases P all (Leaf y ∷ Set p ns ∷ ks) rule h = none_some h
month_cases P all (Leaf y ∷ Comp' n row ∷ ks) rule h = none_some h
month_cases P all (Leaf y ∷ Const c ∷ ks) rule h = none_some h
month_cases P all (Leaf y ∷ Leaf m ∷ []) rule h = none_some h
month_cases P all (Leaf y ∷ Leaf m ∷ Enum l2 ns ∷ ks) rule h = none_some h
month_cases P all (Leaf y ∷ Leaf m ∷ Set p ns ∷ ks) rule h = none_some h
month_cases P all (Leaf y ∷ Leaf m ∷ Comp' n row ∷ ks) rule h = none_some h
month_cases P all (Leaf y ∷ Leaf m ∷ Const c ∷ ks) rule h = none_some h
month_cases P all (Leaf y ∷ Leaf m ∷ Leaf d ∷ []) rule h = none_some h
month_cases P all (Leaf y ∷ Leaf m ∷ Leaf d ∷ Enum l2 ns ∷ ks) rule h = none_some h
month_cases P all (Leaf y ∷ Leaf m ∷ Leaf d ∷ Set p ns ∷ ks) rule h = none_some h
month_cases P all (Leaf y ∷ Leaf m ∷ Leaf d ∷ Comp' n row ∷ ks) rule h = none_some h
month_cases P all (Leaf y ∷ Leaf m ∷ Leaf d ∷ Const c ∷ ks) rule h = none_some h
month_cases P all (Leaf y ∷ Leaf m ∷ Leaf d ∷ Leaf w ∷ []) rule h =
    rule_by (P (Leaf y ∷ Leaf m ∷ Leaf d ∷ Leaf w ∷ [])) (is_integer y && (is_integer m && (is_optional_byte d && is_optional_byte w)))
    (month_year (record { year = y; month = m; day = d; week = w })) rule h
    (λ is.
    let after_year = and_second (is_integer y) (is_integer m && (is_optional_byte d && is_optional_byte w)) is in
    let after_month = and_second (is_integer m) (is_optional_byte d && is_optional_byte w) after_year in
    all.month y m d w (and_first (is_integer y) (is_integer m && (is_optional_byte d && is_optional_byte w)) is) (and_first (is_integer m) (is_optional_byte d && is_optional_byte w) after_year)
    (and_first (is_optional_byte d) (is_optional_byte w) after_month) (and_second (is_optional_byte d) (is_optional_byte w) after_month))
month_cases P all (Leaf y ∷ Leaf m ∷ Leaf d ∷ Leaf w ∷ k ∷ ks) rule h = none_some h

pub composite_cases : (P : List Kind → Rule → Type 0) → OfComposite P → (ms : List Member) (d : Datatype) (rule : Rule) → composite_rule ms d ≡ Some rule → P (kinds_of ms) rule
composite_cases P all ms decimal_number rule h =
    decimal_cases P all (kinds_of ms) rule (if_some (are_named (codes "mantissa" ∷ codes "exponent" ∷ []) ms) (decimal_by (kinds_of ms)) rule h).1
composite_cases P all ms timestamp rule h =
    moment_cases P all from_1970 (kinds_of ms) rule (if_some (are_named (codes "time" ∷ codes "unit" ∷ []) ms) (moment_by from_1970 (kinds_of ms)) rule h).1
composite_cases P all ms time_of_day rule h =
    moment_cases P all from_midnight (kinds_of ms) rule (if_some (are_named (codes "time" ∷ codes "unit" ∷ []) ms) (moment_by from_midnight (kinds_of ms)) rule h).1
composite_cases P all ms month_of_year rule h =
    month_cases P all (kinds_of ms) rule (if_some (are_named (codes "year" ∷ codes "month" ∷ codes "day" ∷ codes "week" ∷ []) ms) (month_by (kinds_of ms)) rule h).1
composite_cases P all ms whole_number rule h = none_some h
composite_cases P all ms character rule h = none_some h
composite_cases P all ms text rule h = none_some h
composite_cases P all ms boolean rule h = none_some h
composite_cases P all ms calendar_day rule h = none_some h
composite_cases P all ms raw rule h = none_some h
composite_cases P all ms (code_set cs) rule h = none_some h
composite_cases P all ms (character_set cs) rule h = none_some h
composite_cases P all ms unbridged rule h = none_some h

-- ---- constants

pub const_cases : (P : Rule → Type 0) → ((inner : Rule) (own : Value) → CanRepeat inner → P (constant inner own)) → (c : ConstValue) (d : Datatype) (rule : Rule) → const_rule c d ≡ Some rule → P rule
const_cases P all (const.Num n) whole_number rule h = subst P (some_is h) (all (integer (every_number I64)) (value.Num n) tt)
const_cases P all (const.Num n) decimal_number rule h = subst P (some_is h) (all (integer_decimal (every_number I64)) (value.Num n) tt)
const_cases P all (const.Num n) character rule h = none_some h
const_cases P all (const.Num n) text rule h = none_some h
const_cases P all (const.Num n) boolean rule h = none_some h
const_cases P all (const.Num n) timestamp rule h = none_some h
const_cases P all (const.Num n) time_of_day rule h = none_some h
const_cases P all (const.Num n) calendar_day rule h = subst P (some_is h) (all (day_count (every_number I64)) (value.Num n) tt)
const_cases P all (const.Num n) month_of_year rule h = none_some h
const_cases P all (const.Num n) raw rule h = none_some h
const_cases P all (const.Num n) (code_set cs) rule h = none_some h
const_cases P all (const.Num n) (character_set cs) rule h = none_some h
const_cases P all (const.Num n) unbridged rule h = none_some h
const_cases P all (const.Text t) whole_number rule h = none_some h
const_cases P all (const.Text t) decimal_number rule h = none_some h
const_cases P all (const.Text []) character rule h = none_some h
const_cases P all (const.Text (b ∷ [])) character rule h = subst P (some_is h) (all (single_char (every_byte b)) (value.Num (pos b)) tt)
const_cases P all (const.Text (b ∷ c ∷ bs)) character rule h = none_some h
const_cases P all (const.Text t) text rule h = subst P (some_is h) (all any_text (value.Text t) tt)
const_cases P all (const.Text t) boolean rule h = none_some h
const_cases P all (const.Text t) timestamp rule h = none_some h
const_cases P all (const.Text t) time_of_day rule h = none_some h
const_cases P all (const.Text t) calendar_day rule h = none_some h
const_cases P all (const.Text t) month_of_year rule h = none_some h
const_cases P all (const.Text t) raw rule h = none_some h
const_cases P all (const.Text t) (code_set cs) rule h = none_some h
const_cases P all (const.Text t) (character_set cs) rule h = none_some h
const_cases P all (const.Text t) unbridged rule h = none_some h
const_cases P all (const.Code prim name) d rule h =
    let is = and_then_is (enum_rule (every_number prim) (name ∷ []) d) (λ rule. Some (constant rule (value.Enum name.number))) rule h in
    subst P (some_is is.2) (all is.0 (value.Enum name.number) (enum_cases CanRepeat (every_number prim) (name ∷ []) (record { code = λ list. tt; number = λ list. tt; truth = tt }) d is.0 is.1))
