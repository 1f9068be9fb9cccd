-- The numbers of headers and dimensions.
use Rattle.std.proofs.Common.{◌≡◌, ℕ, List, Some, None, sym, subst, ◌∙◌}
use Rattle.std.specs.Option.{option_map}
use Rattle.sbe_types.specs.declared.kind.Member.{Member}
use Rattle.sbe_types.specs.Places.{members_end}
use Rattle.sbe_wire.specs.Named.{Spot, spot_named}
use Rattle.layout_tables.specs.declared.rows.SpotRow.{SpotRow}
use Rattle.schema_facts.specs.Measured.{HasCounter, IsCounter}
use Rattle.layout_tables.specs.Rowed.{SpotIs, as_spot}

-- what is found is the number that there is
pub counter_is : (members : List Member) (name : List ℕ) (row : SpotRow) → option_map as_spot (Some row) ≡ spot_named 0 name members → HasCounter members name → SpotIs members name row
counter_is members name row is has =
    let both : Some (as_spot row) ≡ Some has.0 = is ∙ has.1 in
    let same : has.0 ≡ as_spot row = cc in
    record {
      named = sym is;
      counts = subst (λ (s : Spot). IsCounter (members_end 0 members) s) same has.2;
    }

-- it is found
pub counter_there : (members : List Member) (name : List ℕ) → option_map as_spot None ≡ spot_named 0 name members → HasCounter members name → ⊥
counter_there members name is has = absurd (none (is ∙ has.1))
  where
    none : {s : Spot} → None ≡ Some s → ⊥
    none e = cc
