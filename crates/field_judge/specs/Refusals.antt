-- The refusals that are reported. Own profile.
use Rattle.std.specs.Prelude.{ℕ, ℤ, pos, negsuc, Result, Ok, Err}
use Rattle.fix_values.specs.declared.rule.V.{V}
use Rattle.fix_values.specs.declared.rule.V.TheVariants as why
use Rattle.bridge_terms.specs.WayBack.{Refusal, unreadable, unknown, repeated, misgrouped, unlike, missing}
use Rattle.text_values.specs.declared.value.Misread.{Misread}
use Rattle.text_values.specs.declared.value.Misread.TheVariants as misread
use Rattle.field_judge.specs.declared.refused.Refused.{Refused}
use Rattle.field_judge.specs.declared.refused.Refused.TheVariants as refused

-- the refusal that is reported
abbrev pub refusal_of : Refused → Refusal
refusal_of (refused.Unreadable tag v) = unreadable tag v
refusal_of (refused.Unknown tag) = unknown tag
refusal_of (refused.Repeated tag) = repeated tag
refusal_of (refused.Misgrouped tag) = misgrouped tag
refusal_of (refused.Unlike tag) = unlike tag
refusal_of (refused.Missing tag) = missing tag

-- the refusal of a text under its tag
abbrev pub misread_at : ℕ → Misread → Refusal
misread_at tag (misread.NotRead v) = unreadable tag v
misread_at tag misread.NotTheConstant = unlike tag

-- a number, if it isn't negative
abbrev pub size_of : ℤ → Result ℕ V
size_of (pos n) = Ok n
size_of (negsuc n) = Err why.Range
