-- Data whose length number was read.
use Rattle.std.proofs.Common.{◌≡◌, ℕ, ◌+◌, ◌≤◌, List, [], ◌∷◌, ◌++◌, length, take, drop, Some, pos, sym, ap, ◌∙◌, subst, arith, append_assoc, length-append}
use Rattle.std.proofs.lemmas.List.{take_at}
use Rattle.byte_digits.specs.Digits.{IsBytes}
use Rattle.byte_digits.proofs.Bytes.{IsBytes-front, IsBytes-drop}
use Rattle.sbe_types.specs.declared.kind.Order.{Order}
use Rattle.sbe_types.specs.declared.schema.DataField.{DataField}
use Rattle.sbe_types.specs.declared.message.DataVal.{DataVal}
use Rattle.sbe_types.specs.declared.message.DataVal.TheVariants as dataval
use Rattle.sbe_types.specs.Numbers.{number_of, bytes_of, natural, prim_width}
use Rattle.sbe_types.specs.Wire.{both}
use Rattle.sbe_types.proofs.Inverse.{bytes_of-number_of}
use Rattle.sbe_wire.specs.Canonical.{part_bytes, parts_bytes}
use Rattle.sbe_wire.specs.Lays.{IsConcatenationOfBoth, DataLies, DataLays}
use Rattle.writing_laws.proofs.Own.{alive_from}
use Rattle.clean_bodies.specs.Whole.{Chain}
use Rattle.clean_bodies.specs.Steps.{Place, PartStep}
use Rattle.clean_bodies.proofs.Chains.{Ends, whole_of, two_pieces}

module _ (place : Place) where
  abbrev order : Order
  order = place.order

  abbrev version : ℕ
  version = place.version

  abbrev body : List ℕ
  body = place.body

  module _ (p : DataField) where
    abbrev w : ℕ
    w = prim_width p.length.prim

    part_ends : (at many : ℕ) → p.since ≤ version → IsBytes body
        → number_of order p.length.prim (take w (drop at body)) ≡ pos many → (v : DataVal) (front rest : List ℕ)
        → drop at body ≡ front ++ rest → DataLays order version p v front
        → Ends at (at + w + many) front (part_bytes order p v)
    part_ends at many known good says v front rest there h =
        let lies =
        alive_from ((bytes : List ℕ) × (v ≡ dataval.Bytes bytes) × DataLies order p bytes front)
        ((v ≡ dataval.Absent) × (front ≡ [])) version p.since known h in
        let bytes : List ℕ = lies.0 in
        let found = lies.2 in
        let before : List ℕ = found.before in
        let start : drop at body ≡ before ++ (bytes ++ rest) = there ∙ ap (λ z. z ++ rest) found.whole ∙ append_assoc before bytes rest in
        let number : number_of order p.length.prim before ≡ pos many =
        ap (number_of order p.length.prim) (sym (ap (take w) start ∙ take_at before (bytes ++ rest) w found.wide)) ∙ says in
        let count : many ≡ length bytes = sym (ap natural number) ∙ found.counts in
        let clean : IsBytes before = IsBytes-front before (bytes ++ rest) (subst IsBytes start (IsBytes-drop at body good)) in
        let wire : bytes_of order p.length.prim (pos (length bytes)) ≡ Some before =
        ap (λ n. bytes_of order p.length.prim (pos n)) (sym count) ∙ ap (bytes_of order p.length.prim) (sym number) ∙ bytes_of-number_of order p.length.prim before found.wide clean in (
          omega (arith, count, found.wide, ap length found.whole, length-append before bytes),
          ap (part_bytes order p) lies.1 ∙ ap (λ o. both o (Some bytes)) wire ∙ ap Some (sym found.whole),
        )

    pub part_whole : (at many : ℕ) → p.since ≤ version → IsBytes body
        → number_of order p.length.prim (take w (drop at body)) ≡ pos many → PartStep place p at (at + w + many)
    part_whole at many known good says =
        whole_of DataVal (DataLays order version p) (part_bytes order p) body at (at + w + many) (part_ends at many known good says)

  -- parts one after another
  pub parts_end : (ps : List DataField) (at next : ℕ) → Chain DataField (PartStep place) ps at next
      → (vs : List DataVal) (front rest : List ℕ) → drop at body ≡ front ++ rest
      → IsConcatenationOfBoth (DataLays order version) ps vs front → Ends at next front (parts_bytes order ps vs)
  parts_end [] at next chain [] front rest there h = (omega (arith, chain, ap length h), ap Some (sym h))
  parts_end [] at next chain (v ∷ vs) front rest there h = absurd h
  parts_end (p ∷ ps) at next chain [] front rest there h = absurd h
  parts_end (p ∷ ps) at next chain (v ∷ vs) front rest there h =
      two_pieces body at chain.0 next front h.0 h.1 rest (part_bytes order p v) (parts_bytes order ps vs) there h.2
      (λ r t. (chain.1.ends v h.0 r t h.3, chain.1.is v h.0 r t h.3))
      (λ t. parts_end ps chain.0 next chain.2 vs h.1 rest t h.4)
