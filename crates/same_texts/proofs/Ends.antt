-- The end of each value that is written by a clear plan is found.
use Rattle.std.proofs.Common.{◌≡◌, ◌≢◌, ◌≤◌, ℕ, ◌<◌, ◌^◌, Bool, true, false, cond, List, [], ◌∷◌, ◌++◌, length, decimal, map, Option, Some, None, Ok, refl, sym, ap, ◌∙◌, subst, arith, length-append}
use Rattle.std.specs.Prelude.{◌==◌, not}
use Rattle.std.specs.List.{AllByRecursion}
use Rattle.std.proofs.lemmas.Bool.{eq-eqb, eqb-true}
use Rattle.std.proofs.lemmas.Fmt.{decimal_is_IsNumeral_wide}
use Rattle.sbe_types.specs.declared.message.Value.{Value}
use Rattle.fix_values.specs.Codes.{has_soh}
use Rattle.tagvalue_codec.specs.declared.data_tags.Pair.{Pair}
use Rattle.tagvalue_codec.specs.Fields.{Field, IsTag, bytes_of, field_bytes, soh, tag_bytes}
use Rattle.tagvalue_codec.specs.Texts.{Body, Free, is_locked}
use Rattle.bridge_rules.specs.Items.{Item, item_in, item_of_text}
use Rattle.bridge_rules.specs.Rules.{Rule}
use Rattle.bridge_rules.specs.Sound.{IsShown}
use Rattle.bridge_rules.specs.Texts.{text_by}
use Rattle.bridge_rules.specs.Values.{has_any_byte, is_given}
use Rattle.bridge_rules.proofs.BoolLemmas.{none_of, not_true, or_false, second_of, true_false}
use Rattle.bridge_rules.proofs.OptionLemmas.{and_first, and_second, none_some}
use Rattle.bridge_terms.specs.MessageFields.{after_length, fields_of, length_in, with_lengths}
use Rattle.bridge_terms.specs.Parts.{TagLists, is_application}
use Rattle.bridge_terms.specs.PlanFacts.{AreCounted, EachValue}
use Rattle.bridge_terms.specs.Plans.{Each, Plan, Tree, done, single, group, is_in}
use Rattle.same_texts.specs.Follow.{CanFollow, IsFramed}
use Rattle.same_texts.specs.Same.{is_length, ArePairsOf, EachField, EndsBy, IsClear, IsDelimited, IsFound}
use Rattle.same_texts.proofs.Splits.{decimal_plain}
use Rattle.same_texts.proofs.Roles.{length_tags}
use Rattle.same_texts.proofs.Bytes.{AreKnown, all_known}
use Rattle.same_texts.proofs.Values.{fields_each}

-- ---- texts without SOH

text_given : (rule : Rule) (t : List ℕ) (item : Item) → item_in rule t ≡ Some item → is_given rule t ≡ true
text_given rule t item h = by_test (is_given rule t) h
  where
    by_test : (b : Bool) → cond b (item_of_text rule t) None ≡ Some item → b ≡ true
    by_test true k = refl
    by_test false k = none_some k

plain_given : (rule : Rule) (t : List ℕ) → has_any_byte rule ≡ false → is_given rule t ≡ true → has_soh t ≡ false
plain_given rule [] apart h = refl
plain_given rule (b ∷ bs) apart h = not_true (has_soh (b ∷ bs)) (second_of (has_any_byte rule) (not (has_soh (b ∷ bs))) h apart)

plain_bytes : (t : List ℕ) → has_soh t ≡ false → AllByRecursion (λ b. b ≢ soh) t
plain_bytes [] h = tt
plain_bytes (b ∷ bs) h =
    let is = or_false (b == soh) (has_soh bs) h in
    (λ e. true_false (eq-eqb b soh e) is.0, plain_bytes bs is.1)

-- ---- the fields of values

-- tag and end of a field with a value; the length of its value is known from the bytes
pub record CanEnd (lists : TagLists) (f : Field) : Type 0 where
  pub small : f.tag < 2 ^ 64
  pub some : 0 < length f.value
  pub ends : IsDelimited (length_in f.tag lists.lengths) f.value

value_ends : (o : Option ℕ) (rule : Rule) (v : Value) (text : List ℕ) → EndsBy o rule → IsShown rule v → text_by rule v ≡ Ok (Some text) → IsDelimited o text
value_ends None rule v text by shown h =
    let its = shown.written text h in
    plain_bytes text (plain_given rule text by (text_given rule text its.0 its.1))
value_ends (Some n) rule v text by shown h = by

some_given : (rule : Rule) (t : List ℕ) → is_given rule t ≡ true → 0 < length t
some_given rule [] h = true_false h refl
some_given rule (b ∷ bs) h = omega arith

value_some : (rule : Rule) (v : Value) (text : List ℕ) → IsShown rule v → text_by rule v ≡ Ok (Some text) → 0 < length text
value_some rule v text shown h =
    let its = shown.written text h in
    some_given rule text (text_given rule text its.0 its.1)

each_two : {X : Type 0} (P Q R : X → Type 0) → ((x : X) → P x → Q x → R x) → (xs : List X) → Each P xs → Each Q xs → Each R xs
each_two P Q R turn [] a b = tt
each_two P Q R turn (x ∷ xs) a b = (turn x a.0 b.0, each_two P Q R turn xs a.1 b.1)

-- ---- the lengths of values

value_within : (f : Field) → length f.value ≤ length (field_bytes f)
value_within f =
    let one = length-append (tag_bytes f.tag) (f.value ++ soh ∷ []) in
    let two = length-append f.value (soh ∷ []) in
    omega (arith, one, two)

front_short : (o : Option ℕ) (f : Field) (more : List Field) → (length f.value ≤ length (bytes_of (after_length o f ++ more))) × (length (bytes_of more) ≤ length (bytes_of (after_length o f ++ more)))
front_short None f more =
    let one = length-append (field_bytes f) (bytes_of more) in
    let two = value_within f in
    (omega (arith, one, two), omega (arith, one))
front_short (Some n) f more =
    let first = field_bytes (record { tag = n; value = decimal (length f.value) }) in
    let one = length-append first (field_bytes f ++ bytes_of more) in
    let two = length-append (field_bytes f) (bytes_of more) in
    let three = value_within f in
    (omega (arith, one, two, three), omega (arith, one, two))

module _ (lists : TagLists) where
  pub each_ends : (p : Plan) (t : Tree Value p) → IsClear lists p → EachValue IsShown p t → AreCounted p t → EachField (CanEnd lists) p t
  each_ends done t clear shown counted = tt
  each_ends (single s rest) t clear shown counted = (
    λ text h. record { small = clear.0; some = value_some s.rule t.0 text shown.0 h; ends = value_ends (length_in s.tag lists.lengths) s.rule t.0 text clear.1 shown.0 h },
    each_ends rest t.1 clear.2 shown.1 counted,
  )
  each_ends (group g inner rest) t clear shown counted = (
    record { small = clear.0; some = (decimal_is_IsNumeral_wide (length t.0) counted.0).0.0; ends = subst (λ (o : Option ℕ). IsDelimited o (decimal (length t.0))) (sym clear.1) (decimal_plain soh (length t.0) refl counted.0) },
    each_two (λ e. EachValue IsShown inner e) (λ e. AreCounted inner e) (λ e. EachField (CanEnd lists) inner e) (λ e a b. each_ends inner e clear.2 a b) t.0 shown.0 counted.2,
    each_ends rest t.1 clear.3 shown.1 counted.3,
  )

  pub each_short : (k : ℕ) (own : List Field) → length (bytes_of (with_lengths lists own)) < k → Each (λ f. length f.value < k) own
  each_short k [] h = tt
  each_short k (f ∷ fs) h =
      let front = front_short (length_in f.tag lists.lengths) f (with_lengths lists fs) in
      (omega (arith, h, front.0), each_short k fs (omega (arith, h, front.1)))

  module _ (tags : List Pair) (pairs : ArePairsOf tags lists) where
    not_length : (f : Field) → is_application lists f ≡ true → is_length tags f.tag ≡ false
    not_length f h =
        sym (ap (λ (ps : List (ℕ × ℕ)). is_in f.tag (map (λ (pair : ℕ × ℕ). pair.0) ps)) pairs ∙ ap (is_in f.tag) (length_tags tags))
        ∙ not_true (is_in f.tag (map (λ (pair : ℕ × ℕ). pair.0) lists.lengths)) (and_second (not (is_in f.tag lists.header)) (not (is_in f.tag (map (λ (pair : ℕ × ℕ). pair.0) lists.lengths))) h)

    pub each_found : (own : List Field) → Each (λ f. is_application lists f ≡ true) own → Each (CanEnd lists) own → Each (λ f. length f.value < 2 ^ 64) own → Each (IsFound tags lists) own
    each_found [] app ends short = tt
    each_found (f ∷ fs) app ends short = (
      record { own = not_length f app.0; end = record { small = ends.0.small; short = short.0; ends = ends.0.ends } },
      each_found fs app.1 ends.1 short.1,
    )

    -- whatever is read of the bytes of a message's fields is those fields
    pub own_known : (p : Plan) (t : Tree Value p) (own : List Field) → IsClear lists p → EachValue IsShown p t → AreCounted p t → fields_of p t ≡ Ok own
        → Each (λ f. is_application lists f ≡ true) own → length (bytes_of (with_lengths lists own)) < 2 ^ 64 → AreKnown tags lists pairs (with_lengths lists own)
    own_known p t own clear shown counted h app small =
        let ends = fields_each (CanEnd lists) p t own (each_ends p t clear shown counted) h in
        all_known tags lists pairs own (each_found own app ends (each_short (2 ^ 64) own small))

    pub message_known : (p : Plan) (t : Tree Value p) (own fields : List Field) (bytes : List ℕ) → IsClear lists p → EachValue IsShown p t → AreCounted p t → fields_of p t ≡ Ok own
        → Each (λ f. is_application lists f ≡ true) own → Body tags Free fields bytes → bytes ≡ bytes_of (with_lengths lists own) → length bytes < 2 ^ 64 → fields ≡ with_lengths lists own
    message_known p t own fields bytes clear shown counted h app body is short =
        let small : length (bytes_of (with_lengths lists own)) < 2 ^ 64 = subst (λ (bs : List ℕ). length bs < 2 ^ 64) is short in
        own_known p t own clear shown counted h app small fields bytes body is

    -- the fields of a message can follow one another
    unlocked : IsFramed lists → (f : Field) → is_application lists f ≡ true → is_locked f.tag ≡ false
    unlocked framed f h =
        let out : is_in f.tag lists.header ≡ false = not_true (is_in f.tag lists.header) (and_first (not (is_in f.tag lists.header)) (not (is_in f.tag (map (λ (pair : ℕ × ℕ). pair.0) lists.lengths))) h) in
        none_of (f.tag == 8) _ (differs f.tag 8 out framed.begin)
        (none_of (f.tag == 9) _ (differs f.tag 9 out framed.size)
        (none_of (f.tag == 10) _ (differs f.tag 10 out framed.last) (differs f.tag 35 out framed.kind)))
      where
        differs : (tag other : ℕ) → is_in tag lists.header ≡ false → is_in other lists.header ≡ true → (tag == other) ≡ false
        differs tag other out among = by_test (tag == other) refl
          where
            by_test : (b : Bool) → (tag == other) ≡ b → b ≡ false
            by_test true is = true_false among (ap (λ n. is_in n lists.header) (sym (eqb-true tag other is)) ∙ out)
            by_test false is = refl

    pub each_follows : IsFramed lists → (own : List Field) → Each (λ f. is_application lists f ≡ true) own → Each (CanEnd lists) own → Each (λ f. length f.value < 1000000000) own
        → Each (λ f. IsTag f.tag) own → Each (CanFollow tags lists) own
    each_follows framed [] app ends short tagged = tt
    each_follows framed (f ∷ fs) app ends short tagged = (
      record { tagged = tagged.0; unlocked = unlocked framed f app.0; own = not_length f app.0; some = ends.0.some; short = short.0; ends = ends.0.ends },
      each_follows framed fs app.1 ends.1 short.1 tagged.1,
    )

    pub own_follow : (p : Plan) (t : Tree Value p) (own : List Field) → IsFramed lists → IsClear lists p → EachValue IsShown p t → AreCounted p t → fields_of p t ≡ Ok own
        → Each (λ f. is_application lists f ≡ true) own → Each (λ f. IsTag f.tag) own → length (bytes_of (with_lengths lists own)) < 1000000000 → Each (CanFollow tags lists) own
    own_follow p t own framed clear shown counted h app tagged small =
        each_follows framed own app (fields_each (CanEnd lists) p t own (each_ends p t clear shown counted) h) (each_short 1000000000 own small) tagged
