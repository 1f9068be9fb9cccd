-- How numbers are spelled. Own profile.
use Rattle.std.specs.Prelude.{Bool, true, false, ⊤}
use Rattle.fix_values.specs.declared.rule.NumRule.{NumRule}
use Rattle.fix_values.specs.declared.rule.NumRule.TheVariants as rule
use Rattle.code_search.specs.Growing.{AreGrowing}

-- numbers are spelled as digits
abbrev pub is_plain : NumRule → Bool
is_plain rule.Int = true
is_plain rule.Decimal = true
is_plain rule.Char = false
is_plain (rule.Boolean names) = false
is_plain (rule.Code codes) = false
is_plain (rule.Codes codes) = false

-- the numbers of a rule's codes grow
abbrev pub HasGrowing : NumRule → Type 0
HasGrowing (rule.Code codes) = AreGrowing codes
HasGrowing rule.Int = ⊤
HasGrowing rule.Decimal = ⊤
HasGrowing rule.Char = ⊤
HasGrowing (rule.Boolean names) = ⊤
HasGrowing (rule.Codes codes) = ⊤
