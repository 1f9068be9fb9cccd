-- The value that a text is read as. From SBE 1.0, Field encoding.
use Rattle.std.specs.Prelude.{[], ◌∷◌, Result, Ok, Err}
use Rattle.sbe_types.specs.declared.message.Value.{Value}
use Rattle.sbe_types.specs.declared.message.Value as value
use Rattle.bridge_rules.specs.Members.{decimal_value, number_or_null, two_members}
use Rattle.bridge_rules.specs.Values.{Misread, not_read, not_the_constant}
use Rattle.text_values.specs.declared.value.ReadValue.{ReadValue}
use Rattle.text_values.specs.declared.value.ReadValue.TheVariants as read
use Rattle.text_values.specs.declared.value.Misread.{Misread as AnyMisread}
use Rattle.text_values.specs.declared.value.Misread.TheVariants as misread

-- the value of what was read
abbrev pub value_of_read : ReadValue → Value
value_of_read (read.Number n) = number_or_null n
value_of_read (read.Listed n) = value.Enum n
value_of_read (read.Choices bits) = value.Set bits
value_of_read (read.Text text) = value.Text text.now
value_of_read (read.Scaled n) = decimal_value (number_or_null n)
value_of_read (read.Pair n m) = two_members (number_or_null n) (number_or_null m)
value_of_read (read.Month year month day week) = value.Comp (number_or_null year ∷ number_or_null month ∷ number_or_null day ∷ number_or_null week ∷ [])
value_of_read read.Constant = value.Const

-- why nothing was read
abbrev pub misread_of : AnyMisread → Misread
misread_of (misread.NotRead v) = not_read v
misread_of misread.NotTheConstant = not_the_constant

-- the answer of a read
abbrev pub answer_of_read : Result ReadValue AnyMisread → Result Value Misread
answer_of_read (Ok x) = Ok (value_of_read x)
answer_of_read (Err why) = Err (misread_of why)
