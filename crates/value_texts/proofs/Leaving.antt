-- What a call that shows a value leaves, and the field of it.
use Rattle.std.proofs.Common.{◌≡◌, ℕ, List, [], Some, Result, Ok, Err, refl, sym, ap, subst, ◌∙◌, ℤ, FitsSigned, to_z, of_z}
use Rattle.std.specs.Prelude.{IfOk}
use Rattle.fix_values.specs.declared.rule.V.{V}
use Rattle.std.specs.Int.{w64, w128}
use Rattle.std.proofs.lemmas.Int.{to_z-of_z}
use Rattle.sbe_types.specs.declared.kind.Leaf.{Leaf as LeafOf}
use Rattle.fix_values.specs.Decimals.{dec, decimal_of, decimal_text}
use Rattle.fix_values.specs.Values.{Leaves}
use Rattle.tagvalue_codec.specs.Drafts.{Draft, IsValue}
use Rattle.bridge_rules.specs.Texts.{decimal_in_types, field_text, floating_text, if_back, if_read}
use Rattle.bridge_terms.specs.Parts.{TagLists}
use Rattle.message_walk.specs.declared.halt.Halt.{Halt}
use Rattle.message_walk.specs.declared.halt.Cause.TheVariants as cause
use Rattle.message_walk.specs.declared.put.Put.TheVariants as put
use Rattle.message_walk.specs.States.{IsPut, PutResult}

ok_err : {X Z : Type 0} {x : X} {v : V} → ◌≡◌ {A = Result X V} (Ok x) (Err v) → Z
ok_err h = absurd (never h)
  where
    never : {X : Type 0} {x : X} {v : V} → ◌≡◌ {A = Result X V} (Ok x) (Err v) → ⊥
    never k = cc

pub err_is : {X : Type 0} {v w : V} → ◌≡◌ {A = Result X V} (Err v) (Err w) → v ≡ w
err_is h = cc

-- a text that was shown may be a field's, where each text of its value may
pub leaves_value : (r : Result Unit V) (w : List ℕ) (told : Result (List ℕ) V) → Leaves r w told → ((t : List ℕ) → told ≡ Ok t → IsValue t) → IfOk r (λ u. IsValue w)
leaves_value r w (Ok t) h is = subst (λ r. IfOk r (λ u. IsValue w)) (sym h.0) (subst IsValue (sym h.1) (is t refl))
leaves_value r w (Err v) h is = subst (λ r. IfOk r (λ u. IsValue w)) (sym h.0) tt

pub left_ok : (r : Result Unit V) (w : List ℕ) (told : Result (List ℕ) V) → r ≡ Ok tt → Leaves r w told → told ≡ Ok w
left_ok r w (Ok t) is h = ap Ok (sym h.1)
left_ok r w (Err v) is h = ok_err (sym is ∙ h.0)

pub left_err : (r : Result Unit V) (w : List ℕ) (told : Result (List ℕ) V) (v : V) → r ≡ Err v → Leaves r w told → told ≡ Err v
left_err r w (Ok t) v is h = ok_err (sym (sym is ∙ h.0))
left_err r w (Err o) v is h = ap Err (err_is (sym h.0 ∙ is))

pub refused : (lists : TagLists) (d : Draft) (h : Halt) (tag : ℕ) (v : V) → h ≡ record { cause = cause.NoText v; way = [] }
    → IsPut lists d tag (Err v) (record { put = put.Refused; draft = d; halt = h })
refused lists d h tag v halted = (ap (λ h. record { draft = d; halt = Some h }) halted, refl)

pub shown_fine : (lists : TagLists) (d : Draft) (r : PutResult) (tag : ℕ) (b w : List ℕ) (shown : Result Unit V) (told : Result (List ℕ) V) → b ≡ w → shown ≡ Ok tt
    → Leaves shown w told → IsPut lists d tag (Ok (Some b)) r → IsPut lists d tag (field_text told) r
shown_fine lists d r tag b w shown told same is left put =
    subst (λ o. IsPut lists d tag (field_text o) r) (sym (left_ok shown w told is left)) (subst (λ t. IsPut lists d tag (Ok (Some t)) r) same put)

pub shown_bad : (lists : TagLists) (d : Draft) (r : PutResult) (tag : ℕ) (w : List ℕ) (shown : Result Unit V) (told : Result (List ℕ) V) (v : V) → shown ≡ Err v
    → Leaves shown w told → IsPut lists d tag (Err v) r → IsPut lists d tag (field_text told) r
shown_bad lists d r tag w shown told v is left put = subst (λ o. IsPut lists d tag (field_text o) r) (sym (left_err shown w told v is left)) put

-- a number that went into a call and back
pub whole : (P : ℤ → Type 0) (z : ℤ) → FitsSigned w128 z → P (to_z w128 (of_z w128 z)) → P z
whole P z fits h = subst P (to_z-of_z w128 z fits) h

-- the same for a number of 64 bits
pub narrow : (P : ℤ → Type 0) (z : ℤ) → FitsSigned w64 z → P (to_z w64 (of_z w64 z)) → P z
narrow P z fits h = subst P (to_z-of_z w64 z fits) h

-- a decimal with an exponent, where its text can be read back
pub back_fine : (mantissa exponent : LeafOf) (m e : ℤ) (r s : Result Unit V) (w x : List ℕ) → Leaves r w (decimal_text (dec m e)) → r ≡ Ok tt
    → Leaves s x (if_read w (decimal_in_types mantissa exponent (decimal_of w))) → Leaves s x (floating_text mantissa exponent (Some e) m)
back_fine mantissa exponent m e r s w x left is back =
    subst (λ told. Leaves s x (if_back (λ t. decimal_in_types mantissa exponent (decimal_of t)) told)) (sym (left_ok r w (decimal_text (dec m e)) is left)) back

pub back_bad : (mantissa exponent : LeafOf) (m e : ℤ) (r : Result Unit V) (w : List ℕ) (v : V) → Leaves r w (decimal_text (dec m e)) → r ≡ Err v
    → Leaves (Err v) w (floating_text mantissa exponent (Some e) m)
back_bad mantissa exponent m e r w v left is =
    let told = left_err r w (decimal_text (dec m e)) v is left in
    subst (λ told. Leaves (Err v) w (if_back (λ t. decimal_in_types mantissa exponent (decimal_of t)) told)) (sym told)
    (refl, (subst (Leaves r w) told left).1)
