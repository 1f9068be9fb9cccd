-- The first item of a list that passes.
use Rattle.std.proofs.Common.{◌≡◌, ◌≤◌, ◌<◌, ◌+◌, ℕ, Bool, true, false, cond, List, [], ◌∷◌, length, drop, get_or, Option, Some, None, refl, sym, ap, ◌∙◌, arith}
use Rattle.std.specs.Prelude.{◌==◌, ◌||◌, find, unwrap_or}
use Rattle.std.specs.List.{list_any}
use Rattle.std.specs.Option.{option_map_or}
use Rattle.std.proofs.lemmas.Bool.Decides.{nat_tests}
use Rattle.sbe_types.specs.declared.schema.WireSchema.{WireSchema}
use Rattle.layout_tables.proofs.Items.{drop_is, all_dropped}
use Rattle.dump_lines.specs.Chosen.{has_id, schema_with}
use Rattle.dump_lines.specs.declared.schemas.Schemas.{Schemas}

pub id_same : (schema : WireSchema) (n id : ℕ) → n ≡ schema.id → n ≡ id → has_id id schema ≡ true
id_same schema n id is same =
    let equal : schema.id ≡ id = sym is ∙ same in
    let hit : (schema.id == id) ≡ true = grind (arith, nat_tests) in
    hit

pub id_differs : (schema : WireSchema) (n id : ℕ) → n ≡ schema.id → (n ≡ id → ⊥) → has_id id schema ≡ false
id_differs schema n id is differs = by (schema.id == id) refl
  where
    by : (t : Bool) → (schema.id == id) ≡ t → t ≡ false
    by true e = let equal : schema.id ≡ id = grind (arith, nat_tests) in absurd (differs (is ∙ equal))
    by false e = refl

-- ---- item by item

pub found_at : {X : Type 0} (p : X → Bool) (xs : List X) (i : ℕ) (x : X) → i < length xs → x ≡ get_or xs i x → p x ≡ true → find p (drop i xs) ≡ find p xs → find p xs ≡ Some x
found_at p xs i x within is hit so_far = sym so_far ∙ ap (find p) (drop_is xs i x within is) ∙ ap (λ t. cond t (Some x) (find p (drop (i + 1) xs))) hit

pub passed_at : {X : Type 0} (p : X → Bool) (xs : List X) (i : ℕ) (x : X) → i < length xs → x ≡ get_or xs i x → p x ≡ false → find p (drop i xs) ≡ find p xs → find p (drop (i + 1) xs) ≡ find p xs
passed_at p xs i x within is missed so_far = sym (ap (find p) (drop_is xs i x within is) ∙ ap (λ t. cond t (Some x) (find p (drop (i + 1) xs))) missed) ∙ so_far

pub none_at : {X : Type 0} (p : X → Bool) (xs : List X) (i : ℕ) → length xs ≤ i → find p (drop i xs) ≡ find p xs → find p xs ≡ None
none_at p xs i past so_far = sym so_far ∙ ap (find p) (all_dropped xs i past)

-- ---- after a first one

pub other_found : {X : Type 0} (p : X → Bool) (x y : X) (xs : List X) → p x ≡ false → find p xs ≡ Some y → y ≡ unwrap_or (find p (x ∷ xs)) x
other_found p x y xs missed found = sym (ap (λ t. unwrap_or (cond t (Some x) (find p xs)) x) missed ∙ ap (λ o. unwrap_or o x) found)

pub none_found : {X : Type 0} (p : X → Bool) (x : X) (xs : List X) → p x ≡ false → find p xs ≡ None → x ≡ unwrap_or (find p (x ∷ xs)) x
none_found p x xs missed none = sym (ap (λ t. unwrap_or (cond t (Some x) (find p xs)) x) missed ∙ ap (λ o. unwrap_or o x) none)

pub first_found : {X : Type 0} (p : X → Bool) (x : X) (xs : List X) → p x ≡ true → x ≡ unwrap_or (find p (x ∷ xs)) x
first_found p x xs hit = sym (ap (λ t. unwrap_or (cond t (Some x) (find p xs)) x) hit)

-- one item alone

pub no_items : {X : Type 0} (xs : List X) → length xs ≡ 0 → xs ≡ []
no_items [] h = refl
no_items (x ∷ xs) h = absurd (omega (arith, h))

alone_found : {X : Type 0} (p : X → Bool) (x : X) (xs : List X) → xs ≡ [] → x ≡ unwrap_or (find p (x ∷ xs)) x
alone_found p x xs h = by (p x) refl
  where
    by : (t : Bool) → p x ≡ t → x ≡ unwrap_or (find p (x ∷ xs)) x
    by true e = first_found p x xs e
    by false e = none_found p x xs e (ap (find p) h)

-- one schema alone is that of every body
pub lone_schema : (schemas : Schemas) (id : Option ℕ) → schemas.also ≡ [] → schemas.first ≡ option_map_or (schema_with schemas) id schemas.first
lone_schema schemas None h = refl
lone_schema schemas (Some id) h = alone_found (has_id id) schemas.first schemas.also h

-- whether one passes

pub some_pass : {X : Type 0} (p : X → Bool) (xs : List X) (y : X) → find p xs ≡ Some y → list_any p xs ≡ true
some_pass p [] y h = cc
some_pass p (x ∷ xs) y h = by (p x) h (some_pass p xs y)
  where
    by : (t : Bool) → cond t (Some x) (find p xs) ≡ Some y → (find p xs ≡ Some y → list_any p xs ≡ true) → (t || list_any p xs) ≡ true
    by true e more = refl
    by false e more = more e

pub none_pass : {X : Type 0} (p : X → Bool) (xs : List X) → find p xs ≡ None → list_any p xs ≡ false
none_pass p [] h = refl
none_pass p (x ∷ xs) h = by (p x) h (none_pass p xs)
  where
    by : (t : Bool) → cond t (Some x) (find p xs) ≡ None → (find p xs ≡ None → list_any p xs ≡ false) → (t || list_any p xs) ≡ false
    by true e more = cc
    by false e more = more e

pub first_passes : {X : Type 0} (p : X → Bool) (x : X) (xs : List X) → p x ≡ true → true ≡ list_any p (x ∷ xs)
first_passes p x xs hit = sym (ap (λ t. t || list_any p xs) hit)

pub others_pass : {X : Type 0} (p : X → Bool) (x : X) (xs : List X) (b : Bool) → p x ≡ false → list_any p xs ≡ b → b ≡ list_any p (x ∷ xs)
others_pass p x xs b missed h = sym (ap (λ t. t || list_any p xs) missed ∙ h)
