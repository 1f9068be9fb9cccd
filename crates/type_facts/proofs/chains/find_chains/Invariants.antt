use Rattle.std.proofs.Common.{◌≡◌}
use Rattle.type_facts.specs.Tables.{chain_round}
use Rattle.type_facts.proofs.chains.find_chains.Given as goal

abbrev pub invariant-rounds : goal.invariant-rounds
invariant-rounds l = l.table ≡ chain_round l.done l.types
