-- The rules of the table have what is asked so that texts are written again.
use Rattle.std.proofs.Common.{◌≡◌, Some}
use Rattle.sbe_types.specs.declared.kind.Kind.{Kind, Leaf, Enum, Set, Const, Comp', items-the_row-Member}
use Rattle.schema_facts.specs.InOrder.{IsKindFrom}
use Rattle.bridge_rules.specs.Rules.{Rule}
use Rattle.bridge_rules.specs.Datatypes.{Datatype}
use Rattle.bridge_rules.specs.Table.{rule_of}
use Rattle.bridge_rules.specs.Again.{CanRepeat}
use Rattle.bridge_rules.proofs.TypeFacts.{leaf_word}
use Rattle.bridge_rules.proofs.TableCases.{OfComposite, AreKinds, leaf_cases, enum_cases, set_cases, const_cases, composite_cases, members_are}

of_composite : OfComposite (λ ks rule. AreKinds ks → CanRepeat rule)
of_composite = record {
  fixed = λ m e is all. leaf_word 1 m all.0;
  floating = λ m e is so all. leaf_word 1 m all.0;
  counted = λ from time c u is unit all. unit;
  wired = λ from time unit is so all. tt;
  month = λ y m d w is so day week all. tt;
}

pub rule_repeats : (k : Kind) (d : Datatype) (rule : Rule) → IsKindFrom 1 k → rule_of k d ≡ Some rule → CanRepeat rule
rule_repeats (Leaf l) d rule facts h = leaf_cases CanRepeat l (record { whole = λ is. tt; decimal = λ is. tt; day = λ is. tt; char = λ is. tt; array = λ is. tt }) d rule h
rule_repeats (Enum l names) d rule facts h = enum_cases CanRepeat l names (record { code = λ list. tt; number = λ list. tt; truth = tt }) d rule h
rule_repeats (Set p names) d rule facts h = set_cases CanRepeat names (λ list. tt) d rule h
rule_repeats (Const c) d rule facts h = const_cases CanRepeat (λ inner own repeats. repeats) c d rule h
rule_repeats (Comp' n members) d rule facts h =
    composite_cases (λ ks rule. AreKinds ks → CanRepeat rule) of_composite (items-the_row-Member _ members) d rule h (members_are members facts.kinds)
