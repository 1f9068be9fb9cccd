-- The check of a composite, over the list of its members.
use Rattle.std.specs.Prelude.{List, Ok, Err}
use Rattle.sbe_types.specs.declared.tree.MemberItem.{MemberItem}
use Rattle.schema_rules.specs.declared.facts.Fact.{Fact}
use Rattle.schema_rules.specs.Judging.{CheckResult, ◌>>=◌, first_of}
use Rattle.schema_rules.specs.CompositeRules.{MembersBefore, Inside, deeper, no_member, members_check, composite_rules}

-- the fact of the composite of checked members
abbrev pub made_of : CheckResult MembersBefore → CheckResult Fact
made_of (Ok members) = Ok members.all
made_of (Err e) = Err e

-- the check of a composite inside another
abbrev pub inner_check : Inside → List MemberItem → CheckResult (Unit {0})
inner_check inside members = do
  all ← made_of (members_check (deeper inside) no_member members)
  first_of (composite_rules inside.around all)
