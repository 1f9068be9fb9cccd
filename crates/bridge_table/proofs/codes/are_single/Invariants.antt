use Rattle.std.proofs.Common.{◌≡◌, ◌==◌, drop, length}
use Rattle.std.specs.List.{list_all}
use Rattle.bridge_rules.specs.Datatypes.{NamedCode}
use Rattle.bridge_table.specs.Codes.{named_codes}
use Rattle.bridge_table.proofs.codes.are_single.Given as goal

abbrev pub invariant-loop-code : goal.invariant-loop-code
invariant-loop-code l =
    list_all (λ (c : NamedCode). length c.text == 1) (named_codes (drop l.code-index l.codes)) ≡ list_all (λ (c : NamedCode). length c.text == 1) (named_codes l.codes)
