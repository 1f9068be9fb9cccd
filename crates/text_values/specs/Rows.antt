-- The value that a row reads of a text, and the rules whose texts it reads. Own profile.
use Rattle.std.specs.Prelude.{◌≡◌, ℕ, Bool, true, false, not, ◌||◌, if◌then◌else◌, List, [], ◌∷◌, Option, Some, None, Result, Ok, Err}
use Rattle.sbe_types.specs.declared.kind.Leaf.{Leaf as LeafOf}
use Rattle.sbe_types.specs.declared.kind.Primitive.TheVariants.{I64}
use Rattle.sbe_types.specs.declared.message.Value.{Value}
use Rattle.sbe_types.specs.declared.message.Value as value
use Rattle.sbe_types.specs.Numbers.{natural}
use Rattle.fix_values.specs.declared.rule.V.TheVariants as why
use Rattle.fix_values.specs.Codes.{has_soh}
use Rattle.fix_values.specs.Decimals.{decimal_of, leaf_number}
use Rattle.fix_values.specs.Values.{text_read, value_of}
use Rattle.date_answers.specs.Answers.{day_read, month_read}
use Rattle.bridge_rules.specs.Rules.{Rule, MonthLeaves}
use Rattle.bridge_rules.specs.Members.{decimal_value, month_value, two_members}
use Rattle.bridge_rules.specs.Table.{every_number}
use Rattle.bridge_rules.specs.Texts.{decimal_in_types, judged_text}
use Rattle.bridge_rules.specs.Values.{Misread, not_read, bytes_admitted, empty_if_admitted, floating_value, if_constant, if_optional, in_unit_of, instant_read, least_or_null, mantissa_of, missing_by, moment_value, month_admitted, null_month, unit_of_null, value_by, value_from}
use Rattle.bridge_table.specs.declared.rule.MonthLeaves.{MonthLeaves as LeavesRow}
use Rattle.bridge_table.specs.Rows.{epoch_of, unit_of}
use Rattle.text_values.specs.declared.row.ConstValue.{ConstValue}
use Rattle.text_values.specs.declared.row.ConstValue.TheVariants as fixed
use Rattle.text_values.specs.declared.row.TextValue.{TextValue}
use Rattle.text_values.specs.declared.row.TextValue.TheVariants as row

-- a text that a field may have: at least one byte, with SOH only if any byte is allowed
abbrev pub given : Bool → List ℕ → Bool
given any [] = false
given any (b ∷ bs) = any || not (has_soh (b ∷ bs))

-- the row's texts may have any bytes
abbrev pub is_data : TextValue → Bool
is_data (row.Octets leaf) = true
is_data (row.Number rule leaf) = false
is_data (row.Listed rule leaf) = false
is_data (row.Choices rule) = false
is_data (row.Decimal leaf exponent) = false
is_data (row.Floating mantissa exponent) = false
is_data (row.Passage leaf) = false
is_data (row.Words leaf) = false
is_data (row.Day leaf) = false
is_data (row.Moment from leaf unit) = false
is_data (row.Month leaves) = false
is_data (row.Const own) = false

-- a type that admits every number
abbrev pub any_leaf : LeafOf
any_leaf = every_number I64

-- the members of a month
abbrev pub leaves_of : LeavesRow → MonthLeaves
leaves_of leaves = record { year = leaves.year; month = leaves.month; day = leaves.day; week = leaves.week }

-- the value of a constant's text
abbrev pub const_value : ConstValue → List ℕ → Result Value Misread
const_value (fixed.Text own) t = if_constant (value.Text own) (Ok (value.Text t))
const_value (fixed.Number rule leaf own) t = if_constant (value.Num own) (value_from value.Num (value_of rule leaf t))
const_value (fixed.Day own) t = if_constant (value.Num own) (value_from value.Num (leaf_number any_leaf (day_read t)))
const_value (fixed.Listed rule leaf own) t = if_constant (value.Enum own) (value_from value.Enum (value_of rule leaf t))

-- the value of a text that a field may have
abbrev pub value_in_row : TextValue → List ℕ → Result Value Misread
value_in_row (row.Number rule leaf) t = value_from value.Num (value_of rule leaf t)
value_in_row (row.Listed rule leaf) t = value_from value.Enum (value_of rule leaf t)
value_in_row (row.Choices rule) t = value_from (λ n. value.Set (natural n)) (value_of rule any_leaf t)
value_in_row (row.Decimal leaf exponent) t = value_from (λ m. decimal_value (value.Num m)) (mantissa_of leaf exponent (decimal_of t))
value_in_row (row.Floating mantissa exponent) t = value_from floating_value (decimal_in_types mantissa exponent (decimal_of t))
value_in_row (row.Passage leaf) t = value_from value.Text (judged_text t (text_read leaf t))
value_in_row (row.Octets leaf) t = value_from value.Text (bytes_admitted leaf t)
value_in_row (row.Words leaf) t = value_from value.Text (bytes_admitted leaf t)
value_in_row (row.Day leaf) t = value_from value.Num (leaf_number leaf (day_read t))
value_in_row (row.Moment from leaf unit) t = value_from (moment_value (unit_of unit)) (in_unit_of leaf (unit_of unit) (instant_read (epoch_of from) t))
value_in_row (row.Month leaves) t = value_from month_value (month_admitted (leaves_of leaves) (month_read t))
value_in_row (row.Const own) t = const_value own t

-- the value of a field's text by its row, or why it can't be read
abbrev pub row_value : TextValue → List ℕ → Result Value Misread
row_value row t = if given (is_data row) t then value_in_row row t else Err (not_read why.Spelling)

-- the value of a row's part without a field, if there is one
abbrev pub row_missing : TextValue → Option Value
row_missing (row.Number rule leaf) = if_optional leaf value.Null
row_missing (row.Listed rule leaf) = if_optional leaf value.Null
row_missing (row.Choices rule) = Some (value.Set 0)
row_missing (row.Decimal leaf exponent) = if_optional leaf (decimal_value value.Null)
row_missing (row.Floating mantissa exponent) = if_optional mantissa (two_members value.Null (least_or_null exponent))
row_missing (row.Passage leaf) = if_optional leaf value.Null
row_missing (row.Octets leaf) = empty_if_admitted leaf
row_missing (row.Words leaf) = empty_if_admitted leaf
row_missing (row.Day leaf) = if_optional leaf value.Null
row_missing (row.Moment from leaf unit) = if_optional leaf (two_members value.Null (unit_of_null (unit_of unit)))
row_missing (row.Month leaves) = if_optional leaves.year (null_month (leaves_of leaves))
row_missing (row.Const own) = None

-- the row reads the texts of a rule, and gives the rule's value for a missing field
pub record Reads (row : TextValue) (rule : Rule) : Type 0 where
  pub value : (t : List ℕ) → value_by rule t ≡ row_value row t
  pub missing : missing_by rule ≡ row_missing row
