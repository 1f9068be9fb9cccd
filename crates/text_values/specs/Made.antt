-- The rows made from rules. Own profile.
use Rattle.std.specs.Prelude.{Bool, true, pos}
use Rattle.sbe_types.specs.declared.kind.Leaf.{Leaf as LeafOf}
use Rattle.fix_values.specs.declared.rule.NumRule.{NumRule}
use Rattle.fix_values.specs.declared.rule.NumRule.TheVariants as spelling
use Rattle.fix_values.specs.Values.{can_read}
use Rattle.bridge_rules.specs.Table.{every_byte}
use Rattle.bridge_table.specs.declared.rule.FieldRule.{FieldRule}
use Rattle.bridge_table.specs.declared.rule.FieldRule.TheVariants as rule
use Rattle.bridge_table.specs.declared.rule.ConstRule.{ConstRule}
use Rattle.bridge_table.specs.declared.rule.ConstRule.TheVariants as constant
use Rattle.bridge_table.specs.declared.rule.EnumRule.{EnumRule}
use Rattle.bridge_table.specs.declared.rule.EnumRule.TheVariants as listed
use Rattle.text_values.specs.declared.row.ConstValue.{ConstValue}
use Rattle.text_values.specs.declared.row.ConstValue.TheVariants as fixed
use Rattle.text_values.specs.declared.row.TextValue.{TextValue}
use Rattle.text_values.specs.declared.row.TextValue.TheVariants as row
use Rattle.text_values.specs.Rows.{any_leaf}

-- how the numbers of an enum are spelled
abbrev pub enum_spelling : EnumRule → NumRule
enum_spelling (listed.Code leaf codes) = spelling.Code codes
enum_spelling (listed.Number leaf codes) = spelling.Code codes
enum_spelling (listed.Boolean leaf names) = spelling.Boolean names

-- the type of an enum
abbrev pub enum_leaf : EnumRule → LeafOf
enum_leaf (listed.Code leaf codes) = leaf
enum_leaf (listed.Number leaf codes) = leaf
enum_leaf (listed.Boolean leaf names) = leaf

-- the row of a constant
abbrev pub const_row : ConstRule → ConstValue
const_row (constant.Text t) = fixed.Text t
const_row (constant.Character b) = fixed.Number spelling.Char (every_byte b) (pos b)
const_row (constant.Integer n) = fixed.Number spelling.Int any_leaf n
const_row (constant.Decimal n) = fixed.Number spelling.Decimal any_leaf n
const_row (constant.Day n) = fixed.Day n
const_row (constant.Enum own n) = fixed.Listed (enum_spelling own) (enum_leaf own) n

-- the row of a rule
abbrev pub rule_row : FieldRule → TextValue
rule_row (rule.Integer leaf) = row.Number spelling.Int leaf
rule_row (rule.IntegerDecimal leaf) = row.Number spelling.Decimal leaf
rule_row (rule.FixedDecimal leaf exponent) = row.Decimal leaf exponent
rule_row (rule.FloatingDecimal mantissa exponent) = row.Floating mantissa exponent
rule_row (rule.SingleChar leaf) = row.Number spelling.Char leaf
rule_row (rule.CharArray leaf) = row.Passage leaf
rule_row (rule.Enum own) = row.Listed (enum_spelling own) (enum_leaf own)
rule_row (rule.ChoiceSet codes) = row.Choices (spelling.Codes codes)
rule_row (rule.RawData leaf) = row.Octets leaf
rule_row (rule.TextData leaf) = row.Words leaf
rule_row (rule.DayCount leaf) = row.Day leaf
rule_row (rule.Moment from leaf unit) = row.Moment from leaf unit
rule_row (rule.MonthYear leaves) = row.Month leaves
rule_row (rule.Const own) = row.Const (const_row own)

-- the codes of a constant's rule can be read
abbrev pub is_readable_const : ConstRule → Bool
is_readable_const (constant.Enum own n) = can_read (enum_spelling own)
is_readable_const (constant.Text t) = true
is_readable_const (constant.Character b) = true
is_readable_const (constant.Integer n) = true
is_readable_const (constant.Decimal n) = true
is_readable_const (constant.Day n) = true

-- the codes of a rule can be read
abbrev pub is_readable : FieldRule → Bool
is_readable (rule.Enum own) = can_read (enum_spelling own)
is_readable (rule.ChoiceSet codes) = can_read (spelling.Codes codes)
is_readable (rule.Const own) = is_readable_const own
is_readable (rule.Integer leaf) = true
is_readable (rule.IntegerDecimal leaf) = true
is_readable (rule.FixedDecimal leaf exponent) = true
is_readable (rule.FloatingDecimal mantissa exponent) = true
is_readable (rule.SingleChar leaf) = true
is_readable (rule.CharArray leaf) = true
is_readable (rule.RawData leaf) = true
is_readable (rule.TextData leaf) = true
is_readable (rule.DayCount leaf) = true
is_readable (rule.Moment from leaf unit) = true
is_readable (rule.MonthYear leaves) = true
