-- What the code's references stand for.
use denote.Ref.{Bor}
use Rattle.sbe_types.specs.declared.tree.EnumEl.{EnumEl}
use Rattle.sbe_types.specs.declared.tree.ValidValueEl.{ValidValueEl}
use Rattle.schema_rules.specs.Names.{Referred}

-- A valid value that was found, and its enum.
abbrev pub referred_seen : Bor EnumEl × Bor ValidValueEl → Referred
referred_seen r = record { enum = r.0.now; value = r.1.now }
