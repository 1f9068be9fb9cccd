-- What a message is translated to, by what its plan says of its template.
use Rattle.std.proofs.Common.{◌≡◌, ◌<◌, ℕ, zero, suc, Bool, true, false, List, [], ◌∷◌, length, Option, Some, None, Result, Ok, Err, refl, sym, ap, subst, arith}
use Rattle.std.specs.Prelude.{slice_get}
use Rattle.sbe_types.specs.declared.schema.Level.{out-Level}
use Rattle.tagvalue_codec.specs.Drafts.{Draft}
use Rattle.bridge_terms.specs.Blocks.{values_of}
use Rattle.bridge_terms.specs.Places.{Unsent, place_fields, places_of}
use Rattle.bridge_terms.specs.Plans.{Plan}
use Rattle.bridge_plan.specs.Covers.{Cover, covered_by, no_message, unmapped, cover_of}
use Rattle.message_walk.specs.declared.halt.Halt.{Halt}
use Rattle.fix_messages.specs.Texts.{message_text, text_refusal, IsTextBy}
use Rattle.fix_translation.specs.declared.translate.ToFixErr.{ToFixErr}
use Rattle.fix_translation.specs.declared.translate.ToFixErr.TheVariants as why
use Rattle.fix_translation.specs.Translations.{Request, IsTextSo, IsTranslated, IsTranslatedBy, TellsUncovered}

pub below : {X : Type 0} (xs : List X) (i : ℕ) (x : X) → slice_get xs i ≡ Some x → i < length xs
below [] i x is = absurd cc
below (y ∷ ys) zero x is = omega arith
below (y ∷ ys) (suc i) x is = let more = below ys i x is in omega (arith, more)

true_false : ◌≡◌ {A = Bool} true false → ⊥
true_false h = cc

text_done : (r : Option Unsent) (text : List ℕ) (d : Draft) (h : Halt) → IsTextBy r text true d h → IsTextSo r text d (Ok tt)
text_done None text d h is = (refl, is.1)
text_done (Some u) text d h is = absurd (true_false is.0)

text_refused : (r : Option Unsent) (text : List ℕ) (d : Draft) (h : Halt) → IsTextBy r text false d h → IsTextSo r text d (Err (why.Unwritten h))
text_refused None text d h is = absurd (true_false (sym is.0))
text_refused (Some u) text d h is = (ap (λ (h : Halt). Err (why.Unwritten h)) is.1, is.2)

module _ (r : Request) (old new : Draft) where
  by_cover : (c : Cover) (result : Result (Unit {0}) ToFixErr) → cover_of r.mapping r.level ≡ c → IsTranslatedBy c r old new result → IsTranslated r old new result
  by_cover c result is so = subst (λ c. IsTranslatedBy c r old new result) (sym is) so

  pub no_message_told : cover_of r.mapping r.level ≡ no_message → new ≡ old → IsTranslated r old new (Err why.NoMessage)
  no_message_told is same = by_cover no_message (Err why.NoMessage) is (refl, same)

  pub uncovered_told : (path : List (List ℕ)) (result : Result (Unit {0}) ToFixErr) → cover_of r.mapping r.level ≡ unmapped path → TellsUncovered path result
      → new ≡ old → IsTranslated r old new result
  uncovered_told path result is tells same = by_cover (unmapped path) result is (tells, same)

  abbrev refusal : Plan → Option Unsent
  refusal p = text_refusal r.mapping.lists old.limit (out-Level r.level).semantic r.head (places_of p (values_of p r.block))

  abbrev text : Plan → List ℕ
  text p = message_text r.mapping.lists (out-Level r.level).semantic r.head (place_fields (places_of p (values_of p r.block)).places)

  pub text_told : (p : Plan) (h : Halt) → cover_of r.mapping r.level ≡ covered_by p → IsTextBy (refusal p) (text p) true new h
      → IsTranslated r old new (Ok tt)
  text_told p h is put = by_cover (covered_by p) (Ok tt) is (text_done (refusal p) (text p) new h put)

  pub refusal_told : (p : Plan) (h : Halt) → cover_of r.mapping r.level ≡ covered_by p → IsTextBy (refusal p) (text p) false new h
      → IsTranslated r old new (Err (why.Unwritten h))
  refusal_told p h is put = by_cover (covered_by p) (Err (why.Unwritten h)) is (text_refused (refusal p) (text p) new h put)
