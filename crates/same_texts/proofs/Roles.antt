-- The role of a tag, by whether it is that of a length field.
use Rattle.std.proofs.Common.{◌≡◌, ◌⊎◌, inl, inr, ℕ, true, false, List, [], ◌∷◌, map, Some, refl, sym, ap, ◌∙◌}
use Rattle.std.specs.Prelude.{◌==◌, if◌then◌else◌}
use Rattle.std.proofs.lemmas.Bool.{eq-eqb}
use Rattle.tagvalue_codec.specs.declared.data_tags.Pair.{Pair}
use Rattle.tagvalue_codec.specs.declared.data_tags.Role.{Role}
use Rattle.tagvalue_codec.specs.declared.data_tags.Role.TheVariants as role
use Rattle.tagvalue_codec.specs.Pairs.{role_of}
use Rattle.bridge_rules.proofs.BoolLemmas.{either, if_false, if_true, or_false, or_left, or_right, second_of, true_false}
use Rattle.bridge_rules.proofs.OptionLemmas.{none_some, some_is}
use Rattle.bridge_terms.specs.MessageFields.{length_in}
use Rattle.bridge_terms.specs.Plans.{is_in}
use Rattle.same_texts.specs.Same.{is_length}

module _ (p : Pair) (ps : List Pair) (tag : ℕ) where
  abbrev by_tag : Role
  by_tag = if p.tag == tag then role.Data else role_of ps tag

  role_length : (p.length_tag == tag) ≡ true → role_of (p ∷ ps) tag ≡ role.Length p.tag
  role_length h = if_true (p.length_tag == tag) (role.Length p.tag) by_tag h

  role_data : (p.length_tag == tag) ≡ false → (p.tag == tag) ≡ true → role_of (p ∷ ps) tag ≡ role.Data
  role_data h k = if_false (p.length_tag == tag) (role.Length p.tag) by_tag h ∙ if_true (p.tag == tag) role.Data (role_of ps tag) k

  pub role_later : (p.length_tag == tag) ≡ false → (p.tag == tag) ≡ false → role_of (p ∷ ps) tag ≡ role_of ps tag
  role_later h k = if_false (p.length_tag == tag) (role.Length p.tag) by_tag h ∙ if_false (p.tag == tag) role.Data (role_of ps tag) k

-- a tag that isn't a length field's
pub other_role : (tags : List Pair) (tag : ℕ) → is_length tags tag ≡ false → (role_of tags tag ≡ role.Plain) ⊎ (role_of tags tag ≡ role.Data)
other_role [] tag h = inl refl
other_role (p ∷ ps) tag h =
    let is = or_false (p.length_tag == tag) (is_length ps tag) h in
    elim (either (p.tag == tag)) [
      | inl t ↦ inr (role_data p ps tag is.0 t)
      | inr f ↦ elim (other_role ps tag is.1) [ inl a ↦ inl (role_later p ps tag is.0 f ∙ a) | inr b ↦ inr (role_later p ps tag is.0 f ∙ b) ]
    ]

-- a length field's
pub length_role : (tags : List Pair) (tag : ℕ) → is_length tags tag ≡ true → ((data_tag : ℕ) × (role_of tags tag ≡ role.Length data_tag)) ⊎ (role_of tags tag ≡ role.Data)
length_role [] tag h = true_false h refl
length_role (p ∷ ps) tag h = elim (either (p.length_tag == tag)) [
  | inl t ↦ inl (p.tag, role_length p ps tag t)
  | inr f ↦ elim (either (p.tag == tag)) [
    | inl t ↦ inr (role_data p ps tag f t)
    | inr n ↦ elim (length_role ps tag (second_of (p.length_tag == tag) (is_length ps tag) h f)) [
      | inl a ↦ inl (a.0, role_later p ps tag f n ∙ a.1)
      | inr b ↦ inr (role_later p ps tag f n ∙ b)
    ]
  ]
]

length_there : (tag : ℕ) (pairs : List (ℕ × ℕ)) (n : ℕ) → length_in tag pairs ≡ Some n → is_in n (map (λ (pair : ℕ × ℕ). pair.0) pairs) ≡ true
length_there tag [] n h = none_some h
length_there tag (p ∷ ps) n h = elim (either (p.1 == tag)) [
  | inl t ↦ or_left (p.0 == n) _ (eq-eqb p.0 n (some_is (sym (if_true (p.1 == tag) (Some p.0) (length_in tag ps) t) ∙ h)))
  | inr f ↦ or_right (p.0 == n) _ (length_there tag ps n (sym (if_false (p.1 == tag) (Some p.0) (length_in tag ps) f) ∙ h))
]

pub length_tags : (tags : List Pair) → map (λ (pair : ℕ × ℕ). pair.0) (map (λ (p : Pair). (p.length_tag, p.tag)) tags) ≡ map (λ (p : Pair). p.length_tag) tags
length_tags [] = refl
length_tags (p ∷ ps) = ap (λ ns. p.length_tag ∷ ns) (length_tags ps)

-- the tag of a data field's length field is one
pub length_is : (tags : List Pair) (tag n : ℕ) → length_in tag (map (λ (p : Pair). (p.length_tag, p.tag)) tags) ≡ Some n → is_length tags n ≡ true
length_is tags tag n h = ap (is_in n) (sym (length_tags tags)) ∙ length_there tag (map (λ (p : Pair). (p.length_tag, p.tag)) tags) n h
