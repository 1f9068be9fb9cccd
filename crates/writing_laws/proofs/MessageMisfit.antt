-- A message has no misfit exactly where it fits within the limit, and then as many bytes are counted as it has.
use Rattle.std.proofs.Common.{◌≡◌, ℕ, ◌+◌, ◌≤◌, List, length, Option, Some, None, Ok, Err, refl, sym, ap, ◌∙◌, subst, arith}
use Rattle.std.specs.Prelude.{◌==◌, pos, slice_get}
use Rattle.std.proofs.lemmas.Bool.Decides.{Decides-eqb}
use Rattle.sbe_types.specs.declared.schema.Level.{Level, out-Level}
use Rattle.sbe_types.specs.declared.schema.WireSchema.{WireSchema}
use Rattle.sbe_types.specs.declared.message.Block.{out-Block}
use Rattle.sbe_types.specs.declared.message.Msg.{Msg}
use Rattle.sbe_types.specs.Places.{members_end}
use Rattle.sbe_wire.specs.declared.codes.NCode.TheVariants as code
use Rattle.sbe_wire.specs.Canonical.{canonical}
use Rattle.sbe_wire.specs.Fits.{Fits}
use Rattle.sbe_wire.specs.Misfit.{Taken, take_bytes, passed, or_else, unless, bad_shape, fields_misfit, block_shape, block_taken, tail_taken, refusal_of, root_taken, root_misfit, misfit}
use Rattle.sbe_wire.specs.Placed.{IsPlaced}
use Rattle.writing_laws.specs.Writable.{IsWritable}
use Rattle.writing_laws.proofs.Numerals.{some_is}
use Rattle.writing_laws.proofs.Refusals.{some_none, unless_true, or_none, none_or}
use Rattle.writing_laws.proofs.Takings.{then_ok, passed_ok}
use Rattle.writing_laws.proofs.LevelShapes.{level_shape}
use Rattle.writing_laws.proofs.LevelsFit.{level_fits}
use Rattle.writing_laws.proofs.MessageWritten.{root_written, canonical_is}

counted : (r : Taken) → refusal_of r ≡ None → (n : ℕ) × (r ≡ Ok n)
counted (Ok n) h = (n, refl)
counted (Err m) h = absurd (some_none h)

module _ (schema : WireSchema) (m : Msg) (limit : ℕ) where
  -- what it says that a message of this root has no misfit
  abbrev Clear : Level → Type 0
  Clear level = (m.version ≡ schema.version) × (block_shape level m.block ≡ None) × ((n : ℕ) × (root_taken schema limit level m.block ≡ Ok n))

  clear_from : (level : Level) → root_misfit schema m limit (Some level) ≡ None → Clear level
  clear_from level h =
      let two = or_none (unless (m.version == schema.version) bad_shape) (or_else (block_shape level m.block) (refusal_of (root_taken schema limit level m.block))) h in
      let rest = or_none (block_shape level m.block) (refusal_of (root_taken schema limit level m.block)) two.1 in
      ((Decides-eqb m.version schema.version).0 (unless_true (m.version == schema.version) code.Shape (pos 0) two.0), rest.0, counted (root_taken schema limit level m.block) rest.1)

  clear_to : (level : Level) → Clear level → root_misfit schema m limit (Some level) ≡ None
  clear_to level h =
      none_or (unless (m.version == schema.version) bad_shape) (or_else (block_shape level m.block) (refusal_of (root_taken schema limit level m.block)))
      (ap (λ t. unless t bad_shape) ((Decides-eqb m.version schema.version).1 h.0))
      (none_or (block_shape level m.block) (refusal_of (root_taken schema limit level m.block)) h.1 (ap refusal_of h.2.1))

  root_of : (o : Option Level) → slice_get schema.messages m.template ≡ o → root_misfit schema m limit o ≡ None → (level : Level) × (slice_get schema.messages m.template ≡ Some level) × Clear level
  root_of None at h = absurd (some_none h)
  root_of (Some level) at h = (level, at, clear_from level h)

  found : misfit schema m limit ≡ None → (level : Level) × (slice_get schema.messages m.template ≡ Some level) × Clear level
  unfolding misfit
  found h = root_of (slice_get schema.messages m.template) refl h

  misfit_is : (level : Level) → slice_get schema.messages m.template ≡ Some level → misfit schema m limit ≡ root_misfit schema m limit (Some level)
  unfolding misfit
  misfit_is level at = ap (root_misfit schema m limit) at

  clear_fits : IsPlaced schema → IsWritable schema → (level : Level) → slice_get schema.messages m.template ≡ Some level → Clear level → Fits schema m
  clear_fits placed writable level at h =
      let fields = (out-Level level).fields in
      let values = (out-Block m.block).fields in
      let root : ℕ = members_end 0 schema.header.members + (out-Level level).block_length in
      let two = then_ok (block_taken limit 0 root fields values) (λ after. tail_taken limit after level m.block) h.2.0 h.2.1 in
      let block = then_ok (take_bytes limit 0 root) (λ after. passed after (fields_misfit 0 fields values)) two.0 two.1 in
      let good = passed_ok (fields_misfit 0 fields values) block.0 two.0 block.2 in
      (level, at, h.0, level_fits schema.order schema.version limit level (placed.levels m.template level at) (writable.levels m.template level at) m.block two.0 h.2.0 h.1 good.0 two.2)

  -- the body of a message within the limit
  abbrev pub BodyWithin : Type 0
  BodyWithin = (body : List ℕ) × (canonical schema m ≡ Some body) × (length body ≤ limit)

  pub none_fits : IsPlaced schema → IsWritable schema → misfit schema m limit ≡ None → Fits schema m × BodyWithin
  none_fits placed writable h =
      let root = found h in
      let fits = clear_fits placed writable root.0 root.1 root.2 in
      let level = fits.0 in
      let same : root.0 ≡ level = some_is (sym root.1 ∙ fits.1) in
      let w = root_written schema m level placed writable fits.1 fits.2 fits.3 in
      let taken : root_taken schema limit level m.block ≡ Ok root.2.2.0 = subst (λ l. root_taken schema limit l m.block ≡ Ok root.2.2.0) same root.2.2.1 in
      let over = w.takes.over limit 0 root.2.2.0 taken in
      let within : root.2.2.0 ≤ limit = over.1 (omega arith) in
      (fits, (w.bytes, canonical_is schema m level fits.1 ∙ w.is, omega (arith, over.0, within)))

  -- so many bytes are counted of a message that fits within the limit
  fits_counted : IsPlaced schema → IsWritable schema → (fits : Fits schema m) → (body : List ℕ) → canonical schema m ≡ Some body → length body ≤ limit → root_taken schema limit fits.0 m.block ≡ Ok (length body)
  fits_counted placed writable fits body is within =
      let level = fits.0 in
      let w = root_written schema m level placed writable fits.1 fits.2 fits.3 in
      let same : w.bytes ≡ body = some_is (sym (canonical_is schema m level fits.1 ∙ w.is) ∙ is) in
      let long : length w.bytes ≡ length body = ap length same in
      w.takes.room limit 0 (omega (arith, long, within)) ∙ ap Ok (omega (arith, long))

  pub fits_none : IsPlaced schema → IsWritable schema → Fits schema m → BodyWithin → misfit schema m limit ≡ None
  fits_none placed writable fits body =
      let level = fits.0 in
      misfit_is level fits.1
      ∙ clear_to level (fits.2, level_shape schema.order level m.block fits.3, (length body.0, fits_counted placed writable fits body.0 body.1 body.2))

  pub none_counted : IsPlaced schema → IsWritable schema → (level : Level) → slice_get schema.messages m.template ≡ Some level → misfit schema m limit ≡ None → (body : List ℕ) → canonical schema m ≡ Some body →
      root_taken schema limit level m.block ≡ Ok (length body)
  none_counted placed writable level at h body is =
      let both = none_fits placed writable h in
      let fits = both.0 in
      let same : fits.0 ≡ level = some_is (sym fits.1 ∙ at) in
      let there : both.1.0 ≡ body = some_is (sym both.1.1 ∙ is) in
      let within : length body ≤ limit = subst (λ b. length b ≤ limit) there both.1.2 in
      subst (λ l. root_taken schema limit l m.block ≡ Ok (length body)) same (fits_counted placed writable fits body is within)
