-- Fields that stand from the newest version on.
use Rattle.std.proofs.Common.{◌≡◌, ◌≤◌, ℕ, max, true, List, [], ◌∷◌, arith}
use Rattle.std.proofs.lemmas.Bool.Decides.{nat_tests}
use Rattle.sbe_types.specs.declared.schema.Field.{Field}
use Rattle.sbe_wire.specs.Versions.{is_alive}
use Rattle.layout_tables.specs.Rowed.{newest_from, newest_of}
use Rattle.flat_rows.specs.BlockChecks.{AllAlive}

alive_at : (version since : ℕ) → since ≤ version → is_alive version since ≡ true
alive_at version since h = grind (arith, nat_tests)

alive_from : (version n : ℕ) (fs : List Field) → newest_from n fs ≤ version → (n ≤ version) × AllAlive version fs
alive_from version n [] h = (h, tt)
alive_from version n (f ∷ fs) h =
    let rest = alive_from version (max n f.since) fs h in
    (omega (arith, rest.0), (alive_at version f.since (omega (arith, rest.0)), rest.1))

pub all_alive : (version : ℕ) (fs : List Field) → newest_of fs ≤ version → AllAlive version fs
all_alive version fs h = (alive_from version 0 fs h).1
