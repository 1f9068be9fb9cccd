-- The bytes of elements, one after another.
use Rattle.std.proofs.Common.{◌≡◌, ◌≤◌, ◌<◌, ◌+◌, ◌*◌, ℕ, List, [], ◌∷◌, ◌++◌, length, take, get_or, Option, Some, None, refl, sym, ap, ◌∙◌, arith, append_assoc}
use Rattle.std.proofs.lemmas.List.{append-nil, take_more}
use Rattle.std.proofs.lemmas.Slice.{take-put_mid}
use Rattle.std.proofs.Math.Nat.{mul-le-mul_left}
use borrow.Rule.Slice.PartMut.{put_mid}
use Rattle.sbe_types.specs.declared.kind.Order.{Order}
use Rattle.sbe_types.specs.declared.kind.Leaf.{Leaf as LeafOf}
use Rattle.sbe_types.specs.declared.message.Elem.{Elem}
use Rattle.sbe_types.specs.declared.message.Elem.TheVariants as elem
use Rattle.sbe_types.specs.Numbers.{prim_width}
use Rattle.sbe_types.specs.Wire.{both, element_bytes, elements_bytes}
use Rattle.sbe_types.proofs.Inverse.{bytes_of-width}

some_is : {x y : List ℕ} → ◌≡◌ {A = Option (List ℕ)} (Some x) (Some y) → x ≡ y
some_is h = cc

-- two pieces, where both are there
both_are : (a b : Option (List ℕ)) (all : List ℕ) → both a b ≡ Some all → (x : List ℕ) × (y : List ℕ) × (a ≡ Some x) × (b ≡ Some y) × (all ≡ x ++ y)
both_are None b all h = cc
both_are (Some x) None all h = cc
both_are (Some x) (Some y) all h = (x, y, refl, refl, sym (some_is h))

both_of : (a b : Option (List ℕ)) (x y : List ℕ) → a ≡ Some x → b ≡ Some y → both a b ≡ Some (x ++ y)
both_of a b x y h k = ap (λ o. both o b) h ∙ ap (both (Some x)) k

module _ (order : Order) (leaf : LeafOf) where
  joined : (es : List Elem) (e : Elem) (front piece : List ℕ) → elements_bytes order leaf es ≡ Some front → element_bytes order leaf e ≡ Some piece →
      elements_bytes order leaf (es ++ e ∷ []) ≡ Some (front ++ piece)
  joined [] e front piece h k =
      both_of (element_bytes order leaf e) (Some []) piece [] k refl
      ∙ ap Some (append-nil piece ∙ ap (λ f. f ++ piece) (some_is h))
  joined (x ∷ es) e front piece h k =
      let parts = both_are (element_bytes order leaf x) (elements_bytes order leaf es) front h in
      both_of (element_bytes order leaf x) (elements_bytes order leaf (es ++ e ∷ [])) parts.0 (parts.1 ++ piece) parts.2 (joined es e parts.1 piece parts.3 k)
      ∙ ap Some (sym (append_assoc parts.0 parts.1 piece) ∙ ap (λ f. f ++ piece) (sym parts.4))

  wide : (e : Elem) (piece : List ℕ) → element_bytes order leaf e ≡ Some piece → length piece ≡ prim_width leaf.prim
  wide (elem.Num n) piece h = (bytes_of-width order leaf.prim n piece h).0
  wide elem.Null piece h = (bytes_of-width order leaf.prim leaf.null piece h).0

  -- one element more is written after those before it
  pub one_more : (es : List Elem) (i : ℕ) (d : Elem) (out piece : List ℕ) (w k : ℕ) → w ≡ prim_width leaf.prim → i < length es → length out ≡ prim_width leaf.prim * length es →
      elements_bytes order leaf (take i es) ≡ Some (take (prim_width leaf.prim * i) out) → element_bytes order leaf (get_or es i d) ≡ Some piece →
      elements_bytes order leaf (take (i + 1) es) ≡ Some (take (prim_width leaf.prim * (i + 1)) (put_mid (w * i) k out piece))
  one_more es i d out piece w k is lt long before here =
      let p = prim_width leaf.prim in
      let at : w * i ≡ p * i = ap (λ n. n * i) is in
      let next : p * (i + 1) ≡ w * i + length piece = omega (arith, at, wide (get_or es i d) piece here) in
      let low : p * i ≤ p * length es = mul-le-mul_left p (omega arith) in
      let written : take (p * (i + 1)) (put_mid (w * i) k out piece) ≡ take (p * i) out ++ piece = take-put_mid (w * i) k out piece (p * (i + 1)) next (omega arith) ∙ ap (λ n. take n out ++ piece) at in
      ap (elements_bytes order leaf) (take_more es i d lt) ∙ joined (take i es) (get_or es i d) (take (p * i) out) piece before here ∙ ap Some (sym written)
