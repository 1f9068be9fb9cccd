-- The rules of sets. Own profile.
use Rattle.std.specs.Prelude.{Bool, true, false}
use Rattle.fix_values.specs.declared.rule.NumRule.{NumRule}
use Rattle.fix_values.specs.declared.rule.NumRule.TheVariants as rule

-- the rule is that of a set
abbrev pub is_set : NumRule → Bool
is_set (rule.Codes codes) = true
is_set rule.Int = false
is_set rule.Decimal = false
is_set rule.Char = false
is_set (rule.Boolean names) = false
is_set (rule.Code codes) = false
