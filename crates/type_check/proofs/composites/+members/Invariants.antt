use Rattle.std.proofs.Common.{◌≡◌, drop}
use Rattle.schema_rules.specs.CompositeRules.{no_member, members_check}
use Rattle.type_check.proofs.composites.+members.Given as goal

abbrev pub invariant-judge_members-loop-member : goal.invariant-judge_members-loop-member
invariant-judge_members-loop-member l =
    members_check (record { types = l.known; around = l.around }) (record { names = l.names; all = l.all }) (drop l.member-index l.members)
    ≡ members_check (record { types = l.known; around = l.around }) no_member l.members
