-- The rule of a row of the table. A row has the codes of valid values and not their names, which neither a text nor the
-- wire needs.
use Rattle.std.specs.Prelude.{ℕ, List, [], ◌∷◌, pos}
use Rattle.sbe_types.specs.declared.kind.Named.{Named}
use Rattle.sbe_types.specs.declared.kind.Kind.{Kind, Leaf, Enum, Set, Const, Comp'}
use Rattle.sbe_types.specs.declared.kind.ConstValue.{ConstValue}
use Rattle.sbe_types.specs.declared.kind.ConstValue.TheVariants as const
use Rattle.sbe_types.specs.declared.kind.Primitive.TheVariants.{I64}
use Rattle.sbe_types.specs.declared.message.Value as value
use Rattle.bridge_rules.specs.Rules.{From, from_1970, from_midnight, UnitBy, always, on_wire, Rule, integer, integer_decimal, fixed_decimal, floating_decimal, single_char, char_array, enum_code, enum_number, enum_boolean, choice_set, raw_data, text_data, day_count, moment, month_year, any_text, constant}
use Rattle.bridge_rules.specs.Table.{every_number, every_byte}
use Rattle.bridge_table.specs.declared.rule.FieldRule.{FieldRule}
use Rattle.bridge_table.specs.declared.rule.FieldRule.TheVariants as row
use Rattle.bridge_table.specs.declared.rule.EnumRule.{EnumRule}
use Rattle.bridge_table.specs.declared.rule.EnumRule.TheVariants as listed
use Rattle.bridge_table.specs.declared.rule.ConstRule.{ConstRule}
use Rattle.bridge_table.specs.declared.rule.ConstRule.TheVariants as fixed
use Rattle.bridge_table.specs.declared.rule.Epoch.{Epoch}
use Rattle.bridge_table.specs.declared.rule.Epoch.TheVariants as epoch
use Rattle.bridge_table.specs.declared.rule.Unit.{Unit as UnitRow}
use Rattle.bridge_table.specs.declared.rule.Unit.TheVariants as unit

-- the valid values of a kind
abbrev pub names_in : Kind → List Named
names_in (Leaf l) = []
names_in (Enum l names) = names
names_in (Set p names) = names
names_in (Const (const.Num n)) = []
names_in (Const (const.Text t)) = []
names_in (Const (const.Code prim name)) = name ∷ []
names_in (Comp' n members) = []

-- where a time is counted from
abbrev pub epoch_of : Epoch → From
epoch_of epoch.Unix = from_1970
epoch_of epoch.Midnight = from_midnight

-- the unit of a moment
abbrev pub unit_of : UnitRow → UnitBy
unit_of (unit.Always u) = always u
unit_of (unit.OnWire leaf) = on_wire leaf

-- the rule of an enum with these valid values
abbrev pub enum_with : List Named → EnumRule → Rule
enum_with names (listed.Code leaf codes) = enum_code leaf names codes
enum_with names (listed.Number leaf codes) = enum_number leaf names codes
enum_with names (listed.Boolean leaf own) = enum_boolean leaf own

-- the rule of a constant
abbrev pub const_with : List Named → ConstRule → Rule
const_with names (fixed.Text t) = constant any_text (value.Text t)
const_with names (fixed.Character b) = constant (single_char (every_byte b)) (value.Num (pos b))
const_with names (fixed.Integer n) = constant (integer (every_number I64)) (value.Num n)
const_with names (fixed.Decimal n) = constant (integer_decimal (every_number I64)) (value.Num n)
const_with names (fixed.Day n) = constant (day_count (every_number I64)) (value.Num n)
const_with names (fixed.Enum rule n) = constant (enum_with names rule) (value.Enum n)

-- the rule of a row, with these valid values
abbrev pub rule_with : List Named → FieldRule → Rule
rule_with names (row.Integer leaf) = integer leaf
rule_with names (row.IntegerDecimal leaf) = integer_decimal leaf
rule_with names (row.FixedDecimal leaf exponent) = fixed_decimal leaf exponent
rule_with names (row.FloatingDecimal leaf exponent) = floating_decimal leaf exponent
rule_with names (row.SingleChar leaf) = single_char leaf
rule_with names (row.CharArray leaf) = char_array leaf
rule_with names (row.Enum rule) = enum_with names rule
rule_with names (row.ChoiceSet codes) = choice_set names codes
rule_with names (row.RawData leaf) = raw_data leaf
rule_with names (row.TextData leaf) = text_data leaf
rule_with names (row.DayCount leaf) = day_count leaf
rule_with names (row.Moment from leaf u) = moment (epoch_of from) leaf (unit_of u)
rule_with names (row.MonthYear leaves) = month_year (record { year = leaves.year; month = leaves.month; day = leaves.day; week = leaves.week })
rule_with names (row.Const rule) = const_with names rule
