-- Fields that can follow one another are those of a body.
use Rattle.std.proofs.Common.{◌≡◌, inl, inr, ℕ, ◌<◌, ◌≤◌, ◌^◌, true, false, List, [], ◌∷◌, ◌++◌, length, decimal, map, Option, Some, None, refl, sym, ap, ◌∙◌, subst, arith, append_assoc}
use Rattle.std.specs.Prelude.{◌==◌, nat_le, nat_lt}
use Rattle.std.specs.List.{AllByRecursion}
use Rattle.std.specs.Str.{all_ascii_digits}
use Rattle.std.specs.Str.Parse.{digits_value}
use Rattle.std.proofs.lemmas.Bool.{and_from as together, eqb-true, le-leb, lt-ltb}
use Rattle.std.proofs.lemmas.Fmt.{decimal_nonempty, digits_decimal, digits_value-decimal, length-decimal-le}
use Rattle.std.proofs.lemmas.Str.Parse.{numerals_by_value, tells_all_ascii_digits}
use Rattle.tagvalue_codec.specs.declared.data_tags.Pair.{Pair}
use Rattle.tagvalue_codec.specs.declared.data_tags.Role.{Role}
use Rattle.tagvalue_codec.specs.declared.data_tags.Role.TheVariants as role
use Rattle.tagvalue_codec.specs.Fields.{Field, IsCount, IsTag, bytes_of, field_bytes, is_number, soh, tag_bytes}
use Rattle.tagvalue_codec.specs.Pairs.{role_of}
use Rattle.tagvalue_codec.specs.Texts.{Body, FitsRole, Free, IsOrdinary, owed_by}
use Rattle.bridge_rules.proofs.BoolLemmas.{either, if_false, if_true, or_false}
use Rattle.bridge_rules.proofs.OptionLemmas.{none_some, some_is, some_none}
use Rattle.bridge_terms.specs.MessageFields.{after_length, length_in, with_lengths}
use Rattle.bridge_terms.specs.Parts.{TagLists}
use Rattle.bridge_terms.specs.Plans.{Each}
use Rattle.same_texts.specs.Follow.{CanFollow, IsAlone, IsOwnPair}
use Rattle.same_texts.specs.Same.{is_length, ArePairsOf, IsDelimited}
use Rattle.same_texts.proofs.Roles.{role_later}
use Rattle.same_texts.proofs.Splits.{decimal_without}

abbrev as_pair : Pair → ℕ × ℕ
as_pair p = (p.length_tag, p.tag)

-- the pair of a data field with a length field
pair_there : (P : Pair → Type 0) (tag n : ℕ) (ps : List Pair) → AllByRecursion P ps → length_in tag (map as_pair ps) ≡ Some n → (p : Pair) × P p × (p.tag ≡ tag) × (p.length_tag ≡ n)
pair_there P tag n [] all h = none_some h
pair_there P tag n (p ∷ ps) all h = elim (either (p.tag == tag)) [
  | inl t ↦ (p, all.0, eqb-true p.tag tag t, some_is (sym (if_true (p.tag == tag) (Some p.length_tag) (length_in tag (map as_pair ps)) t) ∙ h))
  | inr f ↦ pair_there P tag n ps all.1 (sym (if_false (p.tag == tag) (Some p.length_tag) (length_in tag (map as_pair ps)) f) ∙ h)
]

-- a tag that is neither a length field's nor that of data with one
plain_role : (tags : List Pair) (tag : ℕ) → is_length tags tag ≡ false → length_in tag (map as_pair tags) ≡ None → role_of tags tag ≡ role.Plain
plain_role [] tag own none = refl
plain_role (p ∷ ps) tag own none =
    let is = or_false (p.length_tag == tag) (is_length ps tag) own in
    elim (either (p.tag == tag)) [
      | inl t ↦ some_none (sym (if_true (p.tag == tag) (Some p.length_tag) (length_in tag (map as_pair ps)) t) ∙ none)
      | inr f ↦
          role_later p ps tag is.0 f
          ∙ plain_role ps tag is.1 (sym (if_false (p.tag == tag) (Some p.length_tag) (length_in tag (map as_pair ps)) f) ∙ none)
    ]

-- ---- the number of a length field

number_is : (n : ℕ) → n < 1000000000 → is_number (decimal n) ≡ true
number_is n small =
    let all : all_ascii_digits (decimal n) ≡ true = digits_decimal (numerals_by_value _ tells_all_ascii_digits) n (omega (arith, small)) in
    let some : 0 < length (decimal n) = decimal_nonempty n (omega (arith, small)) in
    let few : length (decimal n) ≤ 9 = length-decimal-le 9 n (omega arith) (omega (arith, small)) (omega (arith, small)) in
    together (nat_lt 0 (length (decimal n))) _ (lt-ltb 0 (length (decimal n)) some)
    (together (nat_le (length (decimal n)) 9) (all_ascii_digits (decimal n)) (le-leb (length (decimal n)) 9 few) all)

value_is : (n : ℕ) → n < 1000000000 → digits_value 10 (decimal n) ≡ n
value_is n small = digits_value-decimal (numerals_by_value _ tells_all_ascii_digits) n (omega (arith, small))

count_is : (n : ℕ) → 0 < n → n < 1000000000 → IsCount (decimal n)
count_is n some small = record { digits = number_is n small; above = subst (λ (k : ℕ). 0 < k) (sym (value_is n small)) some }

-- ---- one field before others

module _ (tags : List Pair) (lists : TagLists) (pairs : ArePairsOf tags lists) where
  -- the fields are those of a body
  abbrev pub AreFollowing : List Field → Type 0
  AreFollowing fs = Body tags Free fs (bytes_of fs)

  pub alone_follows : (f : Field) (more : List Field) → IsAlone tags f → AreFollowing more → AreFollowing (f ∷ more)
  alone_follows f more is later = (
    bytes_of more,
    refl,
    (is.ordinary, subst (λ (r : Role). FitsRole r f (bytes_of more)) (sym is.plain) tt),
    subst (λ (r : Role). Body tags (owed_by r f) more (bytes_of more)) (sym is.plain) later,
  )

  abbrev length_field : ℕ → Field → Field
  length_field n f = record { tag = n; value = decimal (length f.value) }

  led_follows : (f : Field) (more : List Field) (p : Pair) → IsOwnPair tags p → p.tag ≡ f.tag → 0 < length f.value → length f.value < 1000000000 → AreFollowing more
      → AreFollowing (length_field p.length_tag f ∷ f ∷ more)
  led_follows f more p own same some short later =
      let k = length f.value in
      let l = length_field p.length_tag f in
      let after = field_bytes f ++ bytes_of more in
      let tagged : IsTag f.tag = subst IsTag same own.data_tag in
      let big : k < 2 ^ 64 = omega (arith, short) in
      let plain : IsOrdinary l = record { plain = record { tagged = own.length_tag; some = decimal_nonempty k big; plain = decimal_without soh k refl big }; unlocked = own.unlocked } in
      let is : role_of tags p.length_tag ≡ role.Length f.tag = own.role ∙ ap role.Length same in
      let fits : FitsRole (role.Length f.tag) l after =
      (count_is k some short, record { tagged = tagged; more = (f.value ++ soh ∷ []) ++ bytes_of more; bytes_are = append_assoc (tag_bytes f.tag) (f.value ++ soh ∷ []) (bytes_of more) }) in
      let with_data : Body tags (owed_by (role.Length f.tag) l) (f ∷ more) after =
      (bytes_of more, refl, record { tagged = tagged; same = refl; long = sym (value_is k short) }, later) in (
        after,
        refl,
        (plain, subst (λ (r : Role). FitsRole r l after) (sym is) fits),
        subst (λ (r : Role). Body tags (owed_by r l) (f ∷ more) after) (sym is) with_data,
      )

  module _ (each : AllByRecursion (IsOwnPair tags) tags) where
    front_follows : (f : Field) (more : List Field) → CanFollow tags lists f → AreFollowing more → (o : Option ℕ) → length_in f.tag lists.lengths ≡ o → AreFollowing (after_length o f ++ more)
    front_follows f more can later None is =
        let plain : AllByRecursion (λ b. b ≡ soh → ⊥) f.value = subst (λ (o : Option ℕ). IsDelimited o f.value) is can.ends in
        alone_follows f more
        (record {
          ordinary = record { plain = record { tagged = can.tagged; some = can.some; plain = plain }; unlocked = can.unlocked };
          plain = plain_role tags f.tag can.own (ap (length_in f.tag) (sym pairs) ∙ is);
        }) later
    front_follows f more can later (Some n) is =
        let found = pair_there (IsOwnPair tags) f.tag n tags each (ap (length_in f.tag) (sym pairs) ∙ is) in
        subst (λ (n : ℕ). AreFollowing (length_field n f ∷ f ∷ more)) found.3 (led_follows f more found.0 found.1 found.2 can.some can.short later)

    pub all_follow : (own : List Field) → Each (CanFollow tags lists) own → AreFollowing (with_lengths lists own)
    all_follow [] all = (refl, refl)
    all_follow (f ∷ fs) all = front_follows f (with_lengths lists fs) all.0 (all_follow fs all.1) (length_in f.tag lists.lengths) refl

  pub alone_follow : (given more : List Field) → Each (IsAlone tags) given → AreFollowing more → AreFollowing (given ++ more)
  alone_follow [] more all later = later
  alone_follow (f ∷ fs) more all later = alone_follows f (fs ++ more) all.0 (alone_follow fs more all.1 later)
