-- The texts of values that are found without the general rules. Own profile.
use Rattle.std.specs.Prelude.{◌≡◌, ◌≤◌, ℕ, List, drop, length, Option, Some, None, Result, Ok, ⊤}
use Rattle.fix_values.specs.declared.rule.V.{V}
use Rattle.tagvalue_codec.specs.Drafts.{IsValue}
use Rattle.value_texts.specs.declared.quick.Quick.{Quick}
use Rattle.value_texts.specs.declared.quick.Quick.TheVariants as quick

-- a text that is found is one that a field may have
abbrev pub HasValue : Quick → List ℕ → Type 0
HasValue (quick.Text t) room = IsValue t.now
HasValue (quick.Room at) room = (at ≤ length room) × IsValue (drop at room)
HasValue quick.Nothing room = ⊤
HasValue quick.Other room = ⊤

-- what is found is what the general rules tell
abbrev pub IsQuick : Quick → List ℕ → Result (Option (List ℕ)) V → Type 0
IsQuick (quick.Text t) room told = told ≡ Ok (Some t.now)
IsQuick (quick.Room at) room told = told ≡ Ok (Some (drop at room))
IsQuick quick.Nothing room told = told ≡ Ok None
IsQuick quick.Other room told = ⊤
