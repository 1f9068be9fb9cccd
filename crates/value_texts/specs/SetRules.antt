-- The texts of the codes of a rule. Own profile.
use Rattle.fix_values.specs.declared.rule.NumRule.{NumRule}
use Rattle.fix_values.specs.declared.rule.NumRule.TheVariants as rule
use Rattle.set_texts.specs.declared.texts.SetTexts.{SetTexts}
use Rattle.set_texts.specs.Texts.{HasTexts}

-- the rule is one of sets, and the texts are those of its codes
abbrev pub HasTextsOf : NumRule → SetTexts → Type 0
HasTextsOf (rule.Codes codes) texts = HasTexts texts codes
HasTextsOf rule.Int texts = ⊥
HasTextsOf rule.Decimal texts = ⊥
HasTextsOf rule.Char texts = ⊥
HasTextsOf (rule.Boolean names) texts = ⊥
HasTextsOf (rule.Code codes) texts = ⊥
