-- The template of a rewritten message.
use Rattle.std.proofs.Common.{◌≡◌, ℕ, Bool, true, false, cond, Option, Some, None, Ok, Err, refl, sym, ap, ◌∙◌}
use Rattle.std.specs.Prelude.{slice_get, nat_le, is_some}
use Rattle.std.specs.Option.{option_map, IsSome}
use Rattle.sbe_types.specs.declared.schema.Level.{Level, out-Level}
use Rattle.sbe_types.specs.declared.schema.WireSchema.{WireSchema}
use Rattle.sbe_types.specs.declared.message.Block.{Block}
use Rattle.sbe_types.specs.declared.message.Msg.{Msg}
use Rattle.sbe_wire.specs.Faults.{message_named}
use Rattle.version_laws.specs.Projected.{projected, projected_from, projected_block, lifted, lifted_from, lifted_block, with_block}
use Rattle.regrade_laws.specs.Fill.{Fills}
use Rattle.regrade_laws.specs.Filled.{filled_block}
use Rattle.regrade_laws.specs.Regraded.{in_version, filled_by, filled_in, moved, regraded}

-- the number of a template that was found
abbrev pub number_of : Option (ℕ × Level) → Option ℕ
number_of found = option_map (λ t. t.0) found

-- the number of a message's template
abbrev template_in : Option Msg → Option ℕ
template_in o = option_map (λ n. n.template) o

under : (m : Msg) (found : Option (ℕ × Level)) (block : Level → Block) → template_in (with_block m found block) ≡ number_of found
under m None block = refl
under m (Some t) block = refl

module _ (from to : WireSchema) (m : Msg) (level : Level) (at : slice_get from.messages m.template ≡ Some level) where
  abbrev found : Option (ℕ × Level)
  found = message_named 0 (out-Level level).id to.messages

  either : (t : Bool) → template_in (cond t (lifted from to m) (projected to from m)) ≡ number_of found
  either true = ap (λ o. template_in (lifted_from from to m o)) at ∙ under m found (λ other. lifted_block from.version other m.block)
  either false = ap (λ o. template_in (projected_from to m o)) at ∙ under m found (λ other. projected_block to.version level m.block)

  -- it is that of the message with the same id
  pub template_moved : template_in (moved from to m) ≡ number_of found
  template_moved = either (nat_le from.version to.version)

-- ---- a message that is written

in_version_keeps : (version : ℕ) (m n : Msg) (r : Fills Block) → in_version version m r ≡ Ok n → m.template ≡ n.template
in_version_keeps version m n (Ok block) h = let same : ◌≡◌ {A = Msg} (record { template = m.template; version = version; block = block }) n = cc in ap (λ (x : Msg). x.template) same
in_version_keeps version m n (Err path) h = cc

module _ (to : WireSchema) (n : Msg) where
  by_level : (m : Msg) (o : Option Level) → slice_get to.messages m.template ≡ o → filled_by to.version m o ≡ Ok n →
      IsSome (slice_get to.messages n.template)
  by_level m None at h = cc
  by_level m (Some level) at h =
      ap (λ i. is_some (slice_get to.messages i)) (sym (in_version_keeps to.version m n (filled_block level m.block) h)) ∙ ap is_some at

  by_moved : (o : Option Msg) → filled_in to o ≡ Ok n → IsSome (slice_get to.messages n.template)
  by_moved None h = cc
  by_moved (Some m) h = by_level m (slice_get to.messages m.template) refl h

-- it is one of the schema that is written
pub template_there : (from to : WireSchema) (m n : Msg) → regraded from to m ≡ Ok n → IsSome (slice_get to.messages n.template)
template_there from to m n h = by_moved to n (moved from to m) h
