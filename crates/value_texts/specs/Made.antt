-- The rows made from rules. Own profile.
use Rattle.std.specs.Prelude.{◌≡◌, ℕ, Bool, true, false, List, pos, Option, Result, Ok, Err}
use Rattle.fix_values.specs.declared.rule.V.{V}
use Rattle.fix_values.specs.declared.rule.NumRule.{NumRule}
use Rattle.fix_values.specs.declared.rule.NumRule.TheVariants as spelling
use Rattle.fix_values.specs.Values.{can_show, text_of, text_shown}
use Rattle.date_answers.specs.Answers.{day_shown}
use Rattle.bridge_rules.specs.Texts.{field_text, judged_text}
use Rattle.bridge_table.specs.declared.rule.ConstRule.{ConstRule}
use Rattle.bridge_table.specs.declared.rule.ConstRule.TheVariants as constant
use Rattle.bridge_table.specs.declared.rule.EnumRule.{EnumRule}
use Rattle.bridge_table.specs.declared.rule.EnumRule.TheVariants as listed
use Rattle.bridge_table.specs.declared.rule.FieldRule.{FieldRule}
use Rattle.bridge_table.specs.declared.rule.FieldRule.TheVariants as rule
use Rattle.sbe_types.specs.declared.kind.Named.{Named}
use Rattle.bridge_table.specs.Rows.{rule_with}
use Rattle.value_texts.specs.declared.row.ValueText.{ValueText}
use Rattle.value_texts.specs.declared.row.TextRule.{TextRule}
use Rattle.value_texts.specs.declared.row.ConstText.{ConstText}
use Rattle.value_texts.specs.declared.row.ConstText.TheVariants as fixed
use Rattle.value_texts.specs.Coded.{AreCodes}
use Rattle.value_texts.specs.Faces.{IsRuleFace}
use Rattle.value_texts.specs.Rows.{Spells}

-- how the numbers of an enum are spelled
abbrev pub enum_spelling : EnumRule → NumRule
enum_spelling (listed.Code leaf codes) = spelling.Code codes
enum_spelling (listed.Number leaf codes) = spelling.Code codes
enum_spelling (listed.Boolean leaf names) = spelling.Boolean names

-- the text of a constant if it may be written, or why not
abbrev pub kept_of : Result Unit V → List ℕ → ConstText
kept_of (Ok u) text = fixed.Given text
kept_of (Err v) text = fixed.Missing v

-- the text of a constant, or why it doesn't have one
abbrev pub const_shown : ConstRule → Result (Option (List ℕ)) V
const_shown (constant.Text t) = field_text (judged_text t (text_shown t))
const_shown (constant.Character b) = field_text (text_of spelling.Char (pos b))
const_shown (constant.Integer n) = field_text (text_of spelling.Int n)
const_shown (constant.Decimal n) = field_text (text_of spelling.Decimal n)
const_shown (constant.Day n) = field_text (day_shown n)
const_shown (constant.Enum rule n) = field_text (text_of (enum_spelling rule) n)

-- the codes of a constant's rule can be written
abbrev pub is_spellable_const : ConstRule → Bool
is_spellable_const (constant.Enum own n) = can_show (enum_spelling own)
is_spellable_const (constant.Text t) = true
is_spellable_const (constant.Character b) = true
is_spellable_const (constant.Integer n) = true
is_spellable_const (constant.Decimal n) = true
is_spellable_const (constant.Day n) = true

-- the codes of a rule can be written, and it isn't that of data
abbrev pub is_spellable : FieldRule → Bool
is_spellable (rule.Enum own) = can_show (enum_spelling own)
is_spellable (rule.ChoiceSet codes) = can_show (spelling.Codes codes)
is_spellable (rule.Const own) = is_spellable_const own
is_spellable (rule.RawData leaf) = false
is_spellable (rule.TextData leaf) = false
is_spellable (rule.Integer leaf) = true
is_spellable (rule.IntegerDecimal leaf) = true
is_spellable (rule.FixedDecimal leaf exponent) = true
is_spellable (rule.FloatingDecimal mantissa exponent) = true
is_spellable (rule.SingleChar leaf) = true
is_spellable (rule.CharArray leaf) = true
is_spellable (rule.DayCount leaf) = true
is_spellable (rule.Moment from leaf unit) = true
is_spellable (rule.MonthYear leaves) = true

-- a row of this rule of texts, with a face of the rule's numbers and their codes, spells the rule
abbrev pub IsMadeFor : FieldRule → TextRule → Type 0
IsMadeFor own text = (names : List Named) (row : ValueText) → row.rule ≡ text → IsRuleFace row.face own → AreCodes row.rule row.face row.codes → Spells row (rule_with names own)
