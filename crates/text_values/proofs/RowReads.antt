-- Rows read the texts of the rules that they are made of.
use Rattle.std.proofs.Common.{◌≡◌, ℕ, cond, List, [], ◌∷◌, Option, Some, None, Err, refl, sym, ap, subst, ◌∙◌}
use Rattle.std.specs.Prelude.{IfSome}
use Rattle.sbe_types.specs.declared.kind.Named.{Named}
use Rattle.fix_values.specs.declared.rule.V.TheVariants as why
use Rattle.bridge_rules.specs.Rules.{Rule}
use Rattle.bridge_rules.specs.Values.{not_read, has_any_byte, is_given, missing_by, value_in}
use Rattle.bridge_table.specs.declared.rule.FieldRule.{FieldRule}
use Rattle.bridge_table.specs.declared.rule.FieldRule.TheVariants as rule
use Rattle.bridge_table.specs.declared.rule.ConstRule.{ConstRule}
use Rattle.bridge_table.specs.declared.rule.ConstRule.TheVariants as constant
use Rattle.bridge_table.specs.declared.rule.EnumRule.{EnumRule}
use Rattle.bridge_table.specs.declared.rule.EnumRule.TheVariants as listed
use Rattle.bridge_table.specs.Rows.{const_with, enum_with, rule_with}
use Rattle.text_values.specs.declared.row.TextValue.{TextValue}
use Rattle.text_values.specs.declared.row.TextValue.TheVariants as row
use Rattle.text_values.specs.Made.{const_row, enum_leaf, enum_spelling, rule_row}
use Rattle.text_values.specs.Rows.{given, is_data, row_missing, value_in_row, Reads}

given_is : (r : Rule) (t : List ℕ) → is_given r t ≡ given (has_any_byte r) t
given_is r [] = refl
given_is r (b ∷ bs) = refl

reads_as : (w : TextValue) (r : Rule) → has_any_byte r ≡ is_data w → ((t : List ℕ) → value_in r t ≡ value_in_row w t) → missing_by r ≡ row_missing w → Reads w r
reads_as w r any value missing = record {
  value = λ t.
      ap (λ b. cond b (value_in r t) (Err (not_read why.Spelling))) (given_is r t ∙ ap (λ a. given a t) any)
      ∙ ap (λ v. cond (given (is_data w) t) v (Err (not_read why.Spelling))) (value t);
  missing = missing;
}

enum_reads : (names : List Named) (own : EnumRule) → Reads (row.Listed (enum_spelling own) (enum_leaf own)) (enum_with names own)
enum_reads names (listed.Code leaf codes) = reads_as _ _ refl (λ t. refl) refl
enum_reads names (listed.Number leaf codes) = reads_as _ _ refl (λ t. refl) refl
enum_reads names (listed.Boolean leaf own) = reads_as _ _ refl (λ t. refl) refl

enum_constant : (names : List Named) (own : EnumRule) (n : _) → Reads (row.Const (const_row (constant.Enum own n))) (const_with names (constant.Enum own n))
enum_constant names (listed.Code leaf codes) n = reads_as _ _ refl (λ t. refl) refl
enum_constant names (listed.Number leaf codes) n = reads_as _ _ refl (λ t. refl) refl
enum_constant names (listed.Boolean leaf own) n = reads_as _ _ refl (λ t. refl) refl

const_reads : (names : List Named) (own : ConstRule) → Reads (row.Const (const_row own)) (const_with names own)
const_reads names (constant.Text t) = reads_as _ _ refl (λ t. refl) refl
const_reads names (constant.Character b) = reads_as _ _ refl (λ t. refl) refl
const_reads names (constant.Integer n) = reads_as _ _ refl (λ t. refl) refl
const_reads names (constant.Decimal n) = reads_as _ _ refl (λ t. refl) refl
const_reads names (constant.Day n) = reads_as _ _ refl (λ t. refl) refl
const_reads names (constant.Enum own n) = enum_constant names own n

pub rule_reads : (names : List Named) (r : FieldRule) → Reads (rule_row r) (rule_with names r)
rule_reads names (rule.Integer leaf) = reads_as _ _ refl (λ t. refl) refl
rule_reads names (rule.IntegerDecimal leaf) = reads_as _ _ refl (λ t. refl) refl
rule_reads names (rule.FixedDecimal leaf exponent) = reads_as _ _ refl (λ t. refl) refl
rule_reads names (rule.FloatingDecimal mantissa exponent) = reads_as _ _ refl (λ t. refl) refl
rule_reads names (rule.SingleChar leaf) = reads_as _ _ refl (λ t. refl) refl
rule_reads names (rule.CharArray leaf) = reads_as _ _ refl (λ t. refl) refl
rule_reads names (rule.Enum own) = enum_reads names own
rule_reads names (rule.ChoiceSet codes) = reads_as _ _ refl (λ t. refl) refl
rule_reads names (rule.RawData leaf) = reads_as _ _ refl (λ t. refl) refl
rule_reads names (rule.TextData leaf) = reads_as _ _ refl (λ t. refl) refl
rule_reads names (rule.DayCount leaf) = reads_as _ _ refl (λ t. refl) refl
rule_reads names (rule.Moment from leaf u) = reads_as _ _ refl (λ t. refl) refl
rule_reads names (rule.MonthYear leaves) = reads_as _ _ refl (λ t. refl) refl
rule_reads names (rule.Const own) = const_reads names own

pub made_row : (o : Option TextValue) (r : FieldRule) → IfSome o (λ w. w ≡ rule_row r) → IfSome o (λ w. (names : List Named) → Reads w (rule_with names r))
made_row None r h = tt
made_row (Some w) r h = λ names. subst (λ w. Reads w (rule_with names r)) (sym h) (rule_reads names r)
