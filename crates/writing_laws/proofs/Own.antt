-- What holds at the schema's own version, and what a level has.
use Rattle.std.proofs.Common.{◌≡◌, ℕ, ◌≤◌, Bool, true, sym, ap, ◌∙◌, subst, arith}
use Rattle.std.specs.Prelude.{nat_le, min}
use Rattle.std.specs.Bool.{MatchBool}
use Rattle.std.proofs.lemmas.Bool.Decides.{nat_tests}
use denote.Hole.Carrier as carrier
use Rattle.sbe_types.specs.declared.schema.Level as levels
use Rattle.sbe_types.specs.declared.schema.Level.{Level, Level', out-Level}
use Rattle.sbe_types.specs.declared.schema.WireSchema.{WireSchema}
use Rattle.sbe_types.specs.Places.{fields_end}
use Rattle.sbe_wire.specs.declared.mode.Mode.{Mode}
use Rattle.sbe_wire.specs.Versions.{is_alive, is_known, acting, mode_of, own_mode}
use Rattle.sbe_types.specs.declared.kind.Order.{Order}
use Rattle.sbe_types.specs.declared.message.Block.{Block, out-Block}
use Rattle.sbe_wire.specs.Fits.{FieldsFit, BlockFits}
use Rattle.writing_laws.specs.Writable.{AreWritableFields, IsWritableLevel}

pub alive_is : (version since : ℕ) → since ≤ version → is_alive version since ≡ true
alive_is version since h = grind (arith, nat_tests)

-- a part that is alive, as one that may be absent, and back
pub alive_to : (P Q : Type 0) (version since : ℕ) → since ≤ version → P → MatchBool (is_alive version since) P Q
alive_to P Q version since h p = subst (λ t. MatchBool t P Q) (sym (alive_is version since h)) p

pub alive_from : (P Q : Type 0) (version since : ℕ) → since ≤ version → MatchBool (is_alive version since) P Q → P
alive_from P Q version since h m = subst (λ t. MatchBool t P Q) (alive_is version since h) m

same_le : (n : ℕ) → nat_le n n ≡ true
same_le n = grind (arith, nat_tests)

pub known_own : (schema : WireSchema) (version : ℕ) → version ≡ schema.version → is_known schema version ≡ true
known_own schema version h = ap (is_known schema) h ∙ same_le schema.version

same_min : (n : ℕ) → min n n ≡ n
same_min n = omega arith

pub acting_own : (schema : WireSchema) (version : ℕ) → version ≡ schema.version → acting schema version ≡ schema.version
acting_own schema version h = ap (acting schema) h ∙ same_min schema.version

-- at the schema's own version
pub mode_own : (schema : WireSchema) (version : ℕ) → version ≡ schema.version → mode_of schema version ≡ own_mode schema.order schema.version
mode_own schema version h =
    ap (λ (k : Bool). let it : Mode = record { order = schema.order; known = k; version = acting schema version } in it) (known_own schema version h)
    ∙ ap (λ (v : ℕ). let it : Mode = record { order = schema.order; known = true; version = v } in it) (acting_own schema version h)

pub writable_fields : (version : ℕ) (level : Level) → IsWritableLevel version level → AreWritableFields version (out-Level level).fields
unfolding levels.out-Level carrier.out
writable_fields version (Level' name id semantic since block_length fields n groups parts) h = h.0

pub ends_within : (version : ℕ) (level : Level) → IsWritableLevel version level → fields_end 0 (out-Level level).fields ≤ (out-Level level).block_length
unfolding levels.out-Level carrier.out
ends_within version (Level' name id semantic since block_length fields n groups parts) h = h.1

-- the fields of a level that fits
pub fields_fit : (order : Order) (level : Level) (block : Block) → BlockFits order level block → FieldsFit order (out-Level level).fields (out-Block block).fields
unfolding levels.out-Level carrier.out
fields_fit order (Level' name id semantic since block_length fields n groups parts) block h = h.0
