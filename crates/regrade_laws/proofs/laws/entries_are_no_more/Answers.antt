use Rattle.std.specs.Prelude.{nat_lt}
use Rattle.version_laws.proofs.Stands.{Listed}
use Rattle.version_laws.proofs.Tests.{schema_stands}
use Rattle.regrade_laws.proofs.Entries.{lifted_entries, projected_entries}
use Rattle.regrade_laws.proofs.laws.entries_are_no_more.Goals as goal

pub returns-clause-up : goal.returns-clause-up
returns-clause-up c = λ from to same i level at.
    let there = (schema_stands from to same).messages i level at in
    (there.0, there.1, λ block. lifted_entries (Listed (nat_lt from.version to.version)) from.version level there.0.1 block there.2)

pub returns-clause-down : goal.returns-clause-down
returns-clause-down c = λ from to same i level at.
    let there = (schema_stands to from same).messages i level at in
    (there.0, there.1, λ block. projected_entries (Listed (nat_lt to.version from.version)) to.version level there.0.1 block there.2)
