-- The fields of a head that is read.
use Rattle.std.proofs.Common.{◌≡◌, ◌<◌, ◌≤◌, ◌^◌, ◌==◌, inl, inr, ℕ, Bool, true, false, List, [], ◌∷◌, ◌++◌, length, decimal, map, Option, Some, None, refl, sym, ap, ◌∙◌, subst, arith, lit<}
use Rattle.std.specs.Prelude.{if◌then◌else◌}
use Rattle.std.specs.Option.{option_map}
use Rattle.std.proofs.lemmas.Fmt.{length-decimal-le}
use Rattle.tagvalue_codec.specs.declared.data_tags.Pair.{Pair}
use Rattle.tagvalue_codec.specs.declared.data_tags.Role.{Role}
use Rattle.tagvalue_codec.specs.declared.data_tags.Role.TheVariants as role
use Rattle.tagvalue_codec.specs.Fields.{IsTag}
use Rattle.tagvalue_codec.specs.Pairs.{role_of}
use Rattle.tagvalue_codec.specs.Texts.{is_locked}
use Rattle.bridge_rules.proofs.BoolLemmas.{either, if_false, if_true, none_of}
use Rattle.bridge_terms.specs.MessageFields.{length_in}
use Rattle.bridge_terms.specs.Parts.{TagLists}
use Rattle.bridge_terms.specs.Plans.{Each}
use Rattle.message_walk.proofs.Values.{count_value}
use Rattle.fix_messages.specs.Heads.{Head, IsGivenValue, given, given_fields}
use Rattle.same_texts.specs.Follow.{IsAlone}
use Rattle.same_texts.specs.Same.{ArePairsOf, IsDelimited, is_length}
use Rattle.same_texts.proofs.Values.{each_append}
use Rattle.back_texts.specs.Backs.{IsHeader}
use Rattle.text_heads.specs.Heads.{AreHeadTags, IsGivenOf, IsHeaderTag}
use Rattle.text_heads.specs.declared.own.HeadTags.{HeadTags}

-- ---- values

-- a value that is given
pub given_ready : (known : Bool) (o : Option (List ℕ)) → IsGivenOf known o → IsGivenValue o
given_ready known None is = tt
given_ready known (Some v) is = is.1

-- a number that is given
pub number_given : (known : Bool) (n : ℕ) → n < 2 ^ 64 → known ≡ true → IsGivenOf known (Some (decimal n))
number_given known n small own =
    let few : length (decimal n) ≤ 20 = length-decimal-le 20 n (omega arith) (omega (arith, small)) (omega (arith, small)) in
    (own, count_value n small, omega (arith, few))

-- ---- tags

abbrev as_pair : Pair → ℕ × ℕ
as_pair p = (p.length_tag, p.tag)

length_never : {Z : Type 0} {tag : ℕ} → ◌≡◌ {A = Role} (role.Length tag) role.Plain → Z
length_never h = absurd cc

data_never : {Z : Type 0} → ◌≡◌ {A = Role} role.Data role.Plain → Z
data_never h = absurd cc

plain_tag : (tags : List Pair) (tag : ℕ) → role_of tags tag ≡ role.Plain → (is_length tags tag ≡ false) × (length_in tag (map as_pair tags) ≡ None)
plain_tag [] tag h = (refl, refl)
plain_tag (p ∷ ps) tag h =
    let inner : Role = if p.tag == tag then role.Data else role_of ps tag in
    elim (either (p.length_tag == tag)) [
      | inl t ↦ length_never (sym (if_true (p.length_tag == tag) (role.Length p.tag) inner t) ∙ h)
      | inr f ↦
          let later : inner ≡ role.Plain = sym (if_false (p.length_tag == tag) (role.Length p.tag) inner f) ∙ h in
          elim (either (p.tag == tag)) [
            | inl t ↦ data_never (sym (if_true (p.tag == tag) role.Data (role_of ps tag) t) ∙ later)
            | inr g ↦
                let is = plain_tag ps tag (sym (if_false (p.tag == tag) role.Data (role_of ps tag) g) ∙ later) in
                (none_of (p.length_tag == tag) (is_length ps tag) f is.0, if_false (p.tag == tag) (Some p.length_tag) (length_in tag (map as_pair ps)) g ∙ is.1)
          ]
    ]

-- ---- fields

module _ (pairs : List Pair) (lists : TagLists) (same : ArePairsOf pairs lists) where
  given_header : (known : Bool) (tag : ℕ) (o : Option (List ℕ)) → tag < 2 ^ 64 → IsGivenOf known o → (known ≡ true → IsHeaderTag pairs lists tag) → Each (IsHeader pairs lists) (given tag o)
  given_header known tag None small is tags = tt
  given_header known tag (Some v) small is tags =
      let own = tags is.0 in
      let plain = plain_tag pairs tag own.plain in
      let alone : length_in tag lists.lengths ≡ None = ap (length_in tag) same ∙ plain.1 in (
        record {
          header = own.header;
          found = record { own = plain.0; end = record { small = small; short = is.2; ends = subst (λ (o : Option ℕ). IsDelimited o v) (sym alone) is.1.plain } };
          alone = alone;
        },
        tt,
      )

  pub head_header : (own : HeadTags) (head : Head) → AreHeadTags pairs lists own → IsGivenOf own.sender head.sender → IsGivenOf own.target head.target
      → IsGivenOf own.seq (option_map decimal head.seq) → IsGivenOf own.time head.time → Each (IsHeader pairs lists) (given_fields head)
  head_header own head are sender target seq time =
      let number = option_map decimal head.seq in
      each_append (IsHeader pairs lists) (given 49 head.sender) (given 56 head.target ++ (given 34 number ++ given 52 head.time)) (given_header own.sender 49 head.sender (omega arith) sender are.sender)
      (each_append (IsHeader pairs lists) (given 56 head.target) (given 34 number ++ given 52 head.time) (given_header own.target 56 head.target (omega arith) target are.target)
      (each_append (IsHeader pairs lists) (given 34 number) (given 52 head.time) (given_header own.seq 34 number (omega arith) seq are.seq)
      (given_header own.time 52 head.time (omega arith) time are.time)))

module _ (pairs : List Pair) (lists : TagLists) where
  given_alone : (known : Bool) (tag : ℕ) (o : Option (List ℕ)) → IsTag tag → is_locked tag ≡ false → IsGivenOf known o → (known ≡ true → IsHeaderTag pairs lists tag) → Each (IsAlone pairs) (given tag o)
  given_alone known tag None tagged unlocked is tags = tt
  given_alone known tag (Some v) tagged unlocked is tags = (
    record {
      ordinary = record { plain = record { tagged = tagged; some = is.1.some; plain = is.1.plain }; unlocked = unlocked };
      plain = (tags is.0).plain;
    },
    tt,
  )

  pub head_alone : (own : HeadTags) (head : Head) → AreHeadTags pairs lists own → IsGivenOf own.sender head.sender → IsGivenOf own.target head.target
      → IsGivenOf own.seq (option_map decimal head.seq) → IsGivenOf own.time head.time → Each (IsAlone pairs) (given_fields head)
  head_alone own head are sender target seq time =
      let number = option_map decimal head.seq in
      each_append (IsAlone pairs) (given 49 head.sender) (given 56 head.target ++ (given 34 number ++ given 52 head.time))
      (given_alone own.sender 49 head.sender (record { above = lit< tt; below = lit< tt }) refl sender are.sender)
      (each_append (IsAlone pairs) (given 56 head.target) (given 34 number ++ given 52 head.time)
      (given_alone own.target 56 head.target (record { above = lit< tt; below = lit< tt }) refl target are.target)
      (each_append (IsAlone pairs) (given 34 number) (given 52 head.time)
      (given_alone own.seq 34 number (record { above = lit< tt; below = lit< tt }) refl seq are.seq)
      (given_alone own.time 52 head.time (record { above = lit< tt; below = lit< tt }) refl time are.time)))
