-- The table of the places of types.
use Rattle.std.proofs.Common.{◌≡◌, ℕ, zero, suc, ◌+◌, ◌<◌, Bool, true, false, cond, List, [], ◌∷◌, length, drop, Option, Some, None, refl, sym, ap, ◌∙◌, arith}
use Rattle.std.specs.Prelude.{if◌then◌else◌, slice_get, unwrap_or}
use Rattle.std.specs.Map.{lookup}
use Rattle.std.specs.Str.{bytes_eq}
use Rattle.std.proofs.lemmas.Slice.Eq.{bytes_eq-Decides}
use Rattle.indexmap.specs.IndexMap.{insert_entry}
use Rattle.sbe_types.specs.declared.tree.TypesItem.{TypesItem}
use Rattle.schema_rules.specs.Names.{name_of, place_from}

the_one : {X : Type 0} (y x : X) → ◌≡◌ {A = Option X} (Some y) (Some x) → y ≡ x
the_one {X = X} y x h = ap (λ (o : Option X). unwrap_or o y) h

pub drop_cons : {X : Type 0} (xs : List X) (i : ℕ) (x : X) → slice_get xs i ≡ Some x → drop i xs ≡ x ∷ drop (suc i) xs
drop_cons [] i x h = cc
drop_cons (y ∷ ys) zero x h = ap (λ z. z ∷ ys) (the_one y x h)
drop_cons (y ∷ ys) (suc i) x h = drop_cons ys i x h

module _ {K : Type 0} (bytes : K → List ℕ) (name : List ℕ) (key : K) (v : ℕ) where
  abbrev found : List (K × ℕ) → Option ℕ
  found es = lookup (λ k. bytes_eq name (bytes k)) es

  abbrev put : List (K × ℕ) → List (K × ℕ)
  put es = insert_entry (λ a b. bytes_eq (bytes a) (bytes b)) es key v

  replaced : (e : K × ℕ) (rest : Option ℕ) (p : Bool) → bytes key ≡ bytes e.0 → p ≡ bytes_eq name (bytes key) →
      cond (bytes_eq name (bytes e.0)) (Some v) rest ≡ (if p then Some v else cond (bytes_eq name (bytes e.0)) (Some e.1) rest)
  replaced e rest true same is = ap (λ b. cond b (Some v) rest) (ap (bytes_eq name) (sym same) ∙ sym is)
  replaced e rest false same is =
      let no : bytes_eq name (bytes e.0) ≡ false = ap (bytes_eq name) (sym same) ∙ sym is in
      ap (λ b. cond b (Some v) rest) no ∙ ap (λ b. cond b (Some e.1) rest) (sym no)

  kept : (e : K × ℕ) (rest : Option ℕ) (p q : Bool) → bytes_eq (bytes key) (bytes e.0) ≡ false → p ≡ bytes_eq name (bytes key) → q ≡ bytes_eq name (bytes e.0) →
      cond q (Some e.1) (if p then Some v else rest) ≡ (if p then Some v else cond q (Some e.1) rest)
  kept e rest p false apart is iq = refl
  kept e rest false true apart is iq = refl
  kept e rest true true apart is iq =
      let one : name ≡ bytes key = (bytes_eq-Decides name (bytes key)).0 (sym is) in
      let other : name ≡ bytes e.0 = (bytes_eq-Decides name (bytes e.0)).0 (sym iq) in
      let yes : bytes_eq (bytes key) (bytes e.0) ≡ true = (bytes_eq-Decides (bytes key) (bytes e.0)).1 (sym one ∙ other) in
      cc

  step : (e : K × ℕ) (es : List (K × ℕ)) (b : Bool) → b ≡ bytes_eq (bytes key) (bytes e.0) → found (put es) ≡ (if bytes_eq name (bytes key) then Some v else found es) →
      found (if b then (e.0, v) ∷ es else e ∷ put es) ≡ (if bytes_eq name (bytes key) then Some v else found (e ∷ es))
  step e es true is h = replaced e (found es) (bytes_eq name (bytes key)) ((bytes_eq-Decides (bytes key) (bytes e.0)).0 (sym is)) refl
  step e es false is h =
      ap (λ (o : Option ℕ). cond (bytes_eq name (bytes e.0)) (Some e.1) o) h
      ∙ kept e (found es) (bytes_eq name (bytes key)) (bytes_eq name (bytes e.0)) (sym is) refl refl

  pub found_put : (es : List (K × ℕ)) → found (put es) ≡ (if bytes_eq name (bytes key) then Some v else found es)
  found_put [] = refl
  found_put (e ∷ es) = step e es (bytes_eq (bytes key) (bytes e.0)) refl (found_put es)

-- the places of the types from i on, by those of the types after it
pub placed : (types : List TypesItem) (i : ℕ) (t : TypesItem) (name : List ℕ) → slice_get types i ≡ Some t →
    (if bytes_eq name (name_of t) then Some i else place_from (suc i) name (drop (suc i) types)) ≡ place_from i name (drop i types)
placed types i t name h =
    let one : i + 1 ≡ suc i = omega arith in
    ap (λ (n : ℕ). if bytes_eq name (name_of t) then Some i else place_from n name (drop (suc i) types)) (sym one)
    ∙ ap (place_from i name) (sym (drop_cons types i t h))
