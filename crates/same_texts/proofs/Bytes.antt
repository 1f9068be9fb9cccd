-- Fields with their length fields are known by their bytes.
use Rattle.std.proofs.Common.{◌≡◌, inl, inr, ℕ, ◌<◌, ◌^◌, true, false, List, [], ◌∷◌, ◌++◌, length, decimal, Option, Some, None, refl, sym, ap, ◌∙◌, subst, arith}
use Rattle.std.specs.Str.Parse.{digits_value}
use Rattle.std.proofs.lemmas.Fmt.{digits_value-decimal}
use Rattle.std.proofs.lemmas.Str.Parse.{numerals_by_value, tells_all_ascii_digits}
use Rattle.tagvalue_codec.specs.declared.data_tags.Pair.{Pair}
use Rattle.tagvalue_codec.specs.declared.data_tags.Role.{Role}
use Rattle.tagvalue_codec.specs.declared.data_tags.Role.TheVariants as role
use Rattle.tagvalue_codec.specs.Fields.{Field, bytes_of, field_bytes, soh}
use Rattle.tagvalue_codec.specs.Pairs.{role_of}
use Rattle.tagvalue_codec.specs.Texts.{Body, FitsRole, Free, IsOrdinary, Owed, Owes, owed_after, owed_by}
use Rattle.bridge_terms.specs.MessageFields.{after_length, length_in, with_lengths}
use Rattle.bridge_terms.specs.Parts.{TagLists}
use Rattle.bridge_terms.specs.Plans.{Each}
use Rattle.same_texts.specs.Same.{is_length, ArePairsOf, IsDelimited, IsFound}
use Rattle.same_texts.proofs.Splits.{cons_both, decimal_without, long_once, plain_once, some_bytes}
use Rattle.same_texts.proofs.Roles.{length_is, length_role, other_role}

owes_free : {Z : Type 0} {tag many : ℕ} → Owes tag many ≡ Free → Z
owes_free h = cc

pub tag_fits : (n : ℕ) → n < 1000000000 → n < 2 ^ 64
tag_fits n h = omega (arith, h)

module _ (tags : List Pair) (lists : TagLists) (pairs : ArePairsOf tags lists) where
  -- whatever is read of the bytes of some fields is those fields
  abbrev pub AreKnown : List Field → Type 0
  AreKnown own = (fs : List Field) (b : List ℕ) → Body tags Free fs b → b ≡ bytes_of own → fs ≡ own

  -- a field that no length field precedes is followed by an ordinary one
  free_after : (f : Field) (fs : List Field) (after : List ℕ) → is_length tags f.tag ≡ false → FitsRole (role_of tags f.tag) f after → Body tags (owed_after tags Free f) fs after
      → Body tags Free fs after
  free_after f fs after own fits body = elim (other_role tags f.tag own) [
    | inl plain ↦ subst (λ (r : Role). Body tags (owed_by r f) fs after) plain body
    | inr bare ↦ absurd (subst (λ (r : Role). FitsRole r f after) bare fits)
  ]

  -- a field without a length field
  pub plain_known : (g : Field) (more : List Field) → IsFound tags lists g → length_in g.tag lists.lengths ≡ None → AreKnown more → AreKnown (g ∷ more)
  plain_known g more found none later [] b body is = absurd (some_bytes g (bytes_of more) (sym is ∙ body.1))
  plain_known g more found none later (f ∷ fs) b body is =
      let ordinary : IsOrdinary f = body.2.0 in
      let own = subst (λ (o : Option ℕ). IsDelimited o g.value) none found.end.ends in
      let same = plain_once f g body.0 (bytes_of more) (tag_fits f.tag ordinary.plain.tagged.below) found.end.small (sym body.1 ∙ is) ordinary.plain.plain own in
      let free = free_after f fs body.0 (ap (λ (x : Field). is_length tags x.tag) same.0 ∙ found.own) body.2.1 body.3 in
      cons_both same.0 (later fs body.0 free same.1)

  -- the length field of data
  abbrev length_field : ℕ → Field → Field
  length_field n g = record { tag = n; value = decimal (length g.value) }

  -- the data after its length field
  data_known : (g : Field) (more : List Field) (data_tag : ℕ) → IsFound tags lists g → AreKnown more → (fs : List Field) (b : List ℕ)
      → Body tags (Owes data_tag (length g.value)) fs b → b ≡ field_bytes g ++ bytes_of more → fs ≡ g ∷ more
  data_known g more data_tag found later [] b body is = owes_free body.0
  data_known g more data_tag found later (f ∷ fs) b body is =
      let same = long_once f g body.0 (bytes_of more) (tag_fits f.tag body.2.tagged.below) found.end.small (sym body.1 ∙ is) body.2.long in
      cons_both same.0 (later fs body.0 body.3 same.1)

  owed_is : (f g : Field) (n data_tag : ℕ) → f ≡ length_field n g → length g.value < 2 ^ 64 → role_of tags f.tag ≡ role.Length data_tag → owed_after tags Free f ≡ Owes data_tag (length g.value)
  owed_is f g n data_tag same short is =
      ap (λ (r : Role). owed_by r f) is ∙ ap (λ (x : Field). Owes data_tag (digits_value 10 x.value)) same
      ∙ ap (Owes data_tag) (digits_value-decimal (numerals_by_value _ tells_all_ascii_digits) (length g.value) short)

  -- a field with a length field
  led_known : (g : Field) (more : List Field) (n : ℕ) → IsFound tags lists g → length_in g.tag lists.lengths ≡ Some n → AreKnown more → AreKnown (length_field n g ∷ g ∷ more)
  led_known g more n found led later [] b body is = absurd (some_bytes (length_field n g) (field_bytes g ++ bytes_of more) (sym is ∙ body.1))
  led_known g more n found led later (f ∷ fs) b body is =
      let ordinary : IsOrdinary f = body.2.0 in
      let own : n < 2 ^ 64 = subst (λ (o : Option ℕ). IsDelimited o g.value) led found.end.ends in
      let same = plain_once f (length_field n g) body.0 (field_bytes g ++ bytes_of more) (tag_fits f.tag ordinary.plain.tagged.below) own (sym body.1 ∙ is) ordinary.plain.plain
      (decimal_without soh (length g.value) refl found.end.short) in
      let is_one : is_length tags f.tag ≡ true =
      ap (λ (x : Field). is_length tags x.tag) same.0 ∙ length_is tags g.tag n (ap (length_in g.tag) (sym pairs) ∙ led) in
      elim (length_role tags f.tag is_one) [
        | inl r ↦
            let owed = owed_is f g n r.0 same.0 found.end.short r.1 in
            cons_both same.0 (data_known g more r.0 found later fs body.0 (subst (λ (o : Owed). Body tags o fs body.0) owed body.3) same.1)
        | inr bare ↦ absurd (subst (λ (r : Role). FitsRole r f body.0) bare body.2.1)
      ]

  front_known : (g : Field) (more : List Field) → IsFound tags lists g → AreKnown more → (o : Option ℕ) → length_in g.tag lists.lengths ≡ o → AreKnown (after_length o g ++ more)
  front_known g more found later None is = plain_known g more found is later
  front_known g more found later (Some n) is = led_known g more n found is later

  nothing_known : AreKnown []
  nothing_known [] b body is = refl
  nothing_known (f ∷ fs) b body is = absurd (some_bytes f body.0 (sym body.1 ∙ is))

  pub all_known : (own : List Field) → Each (IsFound tags lists) own → AreKnown (with_lengths lists own)
  all_known [] all = nothing_known
  all_known (g ∷ gs) all = front_known g (with_lengths lists gs) all.0 (all_known gs all.1) (length_in g.tag lists.lengths) refl
