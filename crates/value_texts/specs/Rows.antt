-- The text that a row writes of a value, and the rules whose texts it writes. Own profile.
use Rattle.std.specs.Prelude.{◌≡◌, ◌<◌, ℕ, Bool, true, false, length, ⊤, if◌then◌else◌, List, ℤ, Option, Some, None, Result, Ok, Err}
use Rattle.std.specs.Option.{option_map}
use Rattle.std.specs.Prelude.{slice_get}
use Rattle.sbe_types.specs.declared.kind.Kind.{Kind}
use Rattle.sbe_types.specs.declared.kind.Order.TheVariants.{Little}
use Rattle.sbe_types.specs.declared.message.Value.{Value}
use Rattle.sbe_types.specs.Shows.{Shows}
use Rattle.schema_facts.specs.InOrder.{IsKindInOrder}
use Rattle.fix_values.specs.declared.rule.V.{V}
use Rattle.fix_values.specs.declared.rule.NumRule.{NumRule}
use Rattle.fix_values.specs.Decimals.{dec, decimal_text}
use Rattle.fix_values.specs.Values.{is_asked, text_of, text_shown}
use Rattle.date_answers.specs.Answers.{day_shown}
use Rattle.flyweight_view.specs.TypedBlocks.{TypedBlock}
use Rattle.bridge_rules.specs.Rules.{Rule}
use Rattle.bridge_rules.specs.Members.{is_const, mantissa_in, members_in, month_in, number_in, second_number, text_in, unit_in}
use Rattle.bridge_rules.specs.Texts.{field_text, floating_text, judged_text, moment_text, month_text, text_by, text_if_any}
use Rattle.bridge_table.specs.Rows.{epoch_of, unit_of}
use Rattle.message_walk.specs.Rows.{field_of, IsByTable}
use Rattle.value_texts.specs.declared.face.NumberFace.{NumberFace}
use Rattle.value_texts.specs.declared.row.ValueText.{ValueText}
use Rattle.value_texts.specs.declared.row.TextRule.{TextRule}
use Rattle.value_texts.specs.declared.row.TextRule.TheVariants as row
use Rattle.value_texts.specs.declared.row.ConstText.{ConstText}
use Rattle.value_texts.specs.declared.row.ConstText.TheVariants as fixed
use Rattle.field_values.specs.Reports.{before_zero}
use Rattle.value_texts.specs.Coded.{AreCodes}
use Rattle.value_texts.specs.Faces.{number_by, IsRead}
use Rattle.value_texts.specs.FieldViews.{choices_in, is_word, IsValueOf}

-- the text of a constant, if it may be written
abbrev pub const_text : ConstText → Result (Option (List ℕ)) V
const_text (fixed.Given t) = field_text (judged_text t (text_shown t))
const_text (fixed.Missing v) = Err v

-- the text of a value by its row, or that it gives no field, or why it doesn't have a text
abbrev pub row_text : TextRule → Value → Result (Option (List ℕ)) V
row_text (row.Number rule) v = text_if_any (number_in v) (λ n. text_of rule n)
row_text (row.Choices rule) v = text_if_any (choices_in v) (λ n. text_of rule n)
row_text (row.Decimal exponent) v = text_if_any (mantissa_in v) (λ m. decimal_text (dec m exponent))
row_text (row.Floating mantissa exponent) v = text_if_any (mantissa_in v) (λ m. floating_text mantissa exponent (second_number (members_in v)) m)
row_text row.Passage v = text_if_any (text_in v) (λ t. judged_text t (text_shown t))
row_text row.Day v = text_if_any (number_in v) day_shown
row_text (row.Moment from unit) v = text_if_any (mantissa_in v) (λ n. moment_text (epoch_of from) (unit_in (unit_of unit) v) n)
row_text row.Month v = text_if_any (mantissa_in v) (λ year. month_text (month_in (members_in v)))
row_text (row.Const t) v = if is_const v then const_text t else Ok None

-- the rule may be asked for the number, if there is one
abbrev pub CanAsk : NumRule → Option ℤ → Type 0
CanAsk rule None = ⊤
CanAsk rule (Some n) = is_asked rule n ≡ true

-- the row's rule may be asked for the number of the value
abbrev pub CanAskRow : TextRule → Value → Type 0
CanAskRow (row.Number rule) v = CanAsk rule (number_in v)
CanAskRow (row.Choices rule) v = ⊤
CanAskRow (row.Decimal exponent) v = ⊤
CanAskRow (row.Floating mantissa exponent) v = ⊤
CanAskRow row.Passage v = ⊤
CanAskRow row.Day v = ⊤
CanAskRow (row.Moment from unit) v = ⊤
CanAskRow row.Month v = ⊤
CanAskRow (row.Const t) v = ⊤

-- the rule of a set may be asked for each number of 64 bits
abbrev pub AsksWords : TextRule → Type 0
AsksWords (row.Choices rule) = (n : ℤ) → is_word n ≡ true → is_asked rule n ≡ true
AsksWords (row.Number rule) = ⊤
AsksWords (row.Decimal exponent) = ⊤
AsksWords (row.Floating mantissa exponent) = ⊤
AsksWords row.Passage = ⊤
AsksWords row.Day = ⊤
AsksWords (row.Moment from unit) = ⊤
AsksWords row.Month = ⊤
AsksWords (row.Const t) = ⊤

-- the row may be asked for the value of a field whose kind is in order
pub record CanAskOf (row : TextRule) (i : ℕ) (seen : TypedBlock) : Type 0 where
  pub number : (k : Kind) → option_map (λ f. f.kind) (slice_get seen.fields i) ≡ Some k → IsKindInOrder k → IsValueOf k (field_of seen i) → CanAskRow row (field_of seen i)
  pub words : AsksWords row

-- the row writes the texts of a rule, and may be asked for each value if the rule is that of a kind by the table
pub record SpellsText (row : TextRule) (rule : Rule) : Type 0 where
  pub text : (v : Value) → text_by rule v ≡ row_text row v
  pub asked : (k : Kind) (v : Value) → IsByTable k rule → IsKindInOrder k → IsValueOf k v → CanAskRow row v
  pub words : AsksWords row

-- What the bytes of a value show is what is read of it: its number by a face, its mantissa by a face, its text.
abbrev pub Reads : TextRule → NumberFace → Value → List ℕ → Type 0
Reads (row.Number rule) q v bytes = IsRead q bytes → number_in v ≡ number_by q bytes
Reads (row.Decimal exponent) q v bytes = IsRead q bytes → mantissa_in v ≡ number_by q bytes
Reads row.Passage q v bytes = 0 < length (before_zero bytes) → text_in v ≡ Some (before_zero bytes)
Reads (row.Choices rule) q v bytes = ⊤
Reads (row.Floating mantissa exponent) q v bytes = ⊤
Reads row.Day q v bytes = ⊤
Reads (row.Moment from unit) q v bytes = ⊤
Reads row.Month q v bytes = ⊤
Reads (row.Const t) q v bytes = ⊤

-- the bytes show what is read of each value whose kind has the rule by the table
abbrev pub ReadsBy : TextRule → NumberFace → Rule → Type 0
ReadsBy text q rule = (k : Kind) (v : Value) (known : Bool) (bytes : List ℕ) → IsByTable k rule → IsKindInOrder k → Shows Little known k v bytes → Reads text q v bytes

-- the row writes the texts of a rule, reads its values from their bytes, and has their codes
pub record Spells (own : ValueText) (rule : Rule) : Type 0 where
  pub texts : SpellsText own.rule rule
  pub reads : ReadsBy own.rule own.face rule
  pub codes : AreCodes own.rule own.face own.codes

-- the result is a value
abbrev pub is_ok_of : {X : Type 0} → Result X V → Bool
is_ok_of (Ok x) = true
is_ok_of (Err v) = false
