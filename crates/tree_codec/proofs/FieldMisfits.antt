-- The first misfit of a block's values, field by field.
use Rattle.std.proofs.Common.{◌≡◌, ◌≤◌, ◌+◌, ℕ, zero, suc, List, [], ◌∷◌, length, drop, length-drop, min, Option, Some, None, refl, sym, ap, ap₂, ◌∙◌, subst, arith}
use Rattle.std.specs.Prelude.{slice_get}
use Rattle.sbe_types.specs.declared.message.Value.{Value}
use Rattle.sbe_types.specs.declared.path.Step.{Step}
use Rattle.sbe_types.specs.declared.path.Step.TheVariants as way
use Rattle.sbe_types.specs.declared.schema.Field.{Field}
use Rattle.sbe_wire.specs.Misfit.{Misfit, or_else, misfit_in, value_misfit, fields_misfit}
use Rattle.body_walk.specs.inner.Kinds.{IsReady}
use Rattle.tree_codec.specs.declared.first_misfit.FirstMisfit.{FirstMisfit}
use Rattle.tree_codec.specs.Fitting.{AreReady}
use Rattle.tree_codec.specs.Shapes.{misfit_of}

some_is : {A : Type 0} {x y : A} → ◌≡◌ {A = Option A} (Some x) (Some y) → x ≡ y
some_is h = cc

pub field_ready : (fs : List Field) (i : ℕ) (f : Field) → AreReady fs → slice_get fs i ≡ Some f → IsReady f.kind
field_ready [] i f h is = absurd cc
field_ready (x ∷ fs) zero f h is = subst (λ (y : Field). IsReady y.kind) (some_is is) h.0
field_ready (x ∷ fs) (suc i) f h is = field_ready fs i f h.1 is

-- ---- steps

drop_at : {A : Type 0} (xs : List A) (i : ℕ) (x : A) → slice_get xs i ≡ Some x → drop i xs ≡ x ∷ drop (suc i) xs
drop_at [] i x h = absurd cc
drop_at (y ∷ ys) zero x h = ap (λ z. z ∷ ys) (some_is h)
drop_at (y ∷ ys) (suc i) x h = drop_at ys i x h

under_is : (u next : FirstMisfit) (s : Step) → next ≡ record { code = u.code; path = s ∷ u.path; detail = u.detail } → ◌≡◌ {A = Option Misfit} (Some (misfit_of next)) (misfit_in s (Some (misfit_of u)))
under_is u next s h = ap (λ (x : FirstMisfit). Some (misfit_of x)) h

module _ (i : ℕ) (fs : List Field) (vs : List Value) (f : Field) (v : Value) (at : slice_get fs i ≡ Some f) (there : slice_get vs i ≡ Some v) where
  field_next : fields_misfit i (drop i fs) (drop i vs) ≡ or_else (misfit_in (way.Part i) (value_misfit f.kind v)) (fields_misfit (suc i) (drop (suc i) fs) (drop (suc i) vs))
  field_next = ap₂ (fields_misfit i) (drop_at fs i f at) (drop_at vs i v there)

  pub field_refused : (u next : FirstMisfit) → Some (misfit_of u) ≡ value_misfit f.kind v → next ≡ record { code = u.code; path = way.Part i ∷ u.path; detail = u.detail }
      → Some (misfit_of next) ≡ fields_misfit i (drop i fs) (drop i vs)
  field_refused u next h is =
      under_is u next (way.Part i) is ∙ ap (λ o. or_else (misfit_in (way.Part i) o) (fields_misfit (suc i) (drop (suc i) fs) (drop (suc i) vs))) h ∙ sym field_next

  pub field_passed : None ≡ value_misfit f.kind v → fields_misfit (i + 1) (drop (i + 1) fs) (drop (i + 1) vs) ≡ fields_misfit i (drop i fs) (drop i vs)
  field_passed h =
      let on : suc i ≡ i + 1 = omega arith in
      ap (λ j. fields_misfit j (drop j fs) (drop j vs)) (sym on)
      ∙ ap (λ o. or_else (misfit_in (way.Part i) o) (fields_misfit (suc i) (drop (suc i) fs) (drop (suc i) vs))) h ∙ sym field_next

no_fields : (i : ℕ) (fs : List Field) (vs : List Value) → min (length fs) (length vs) ≤ 0 → fields_misfit i fs vs ≡ None
no_fields i [] vs h = refl
no_fields i (f ∷ fs) [] h = refl
no_fields i (f ∷ fs) (v ∷ vs) h = absurd (omega (arith, h))

-- after the last field that has a value
pub no_field : (i : ℕ) (fs : List Field) (vs : List Value) → min (length fs) (length vs) ≤ i → None ≡ fields_misfit i (drop i fs) (drop i vs)
no_field i fs vs h = sym (no_fields i (drop i fs) (drop i vs) (omega (arith, length-drop i fs, length-drop i vs, h)))
