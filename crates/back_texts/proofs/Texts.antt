-- The text of a message, of fields that may follow one another, is a text of them.
use Rattle.std.proofs.Common.{◌≡◌, ◌≤◌, ◌<◌, ◌+◌, ℕ, List, [], ◌∷◌, ◌++◌, length, refl, sym, ap, ◌∙◌, subst, arith, append_assoc, append-nil, length-append, lit<}
use Rattle.std.proofs.lemmas.Grind.{flat_map-append}
use Rattle.tagvalue_codec.specs.declared.data_tags.Pair.{Pair}
use Rattle.tagvalue_codec.specs.Drafts.{IsValue, typed}
use Rattle.tagvalue_codec.specs.Fields.{Field, bytes_of, field_bytes}
use Rattle.tagvalue_codec.specs.Texts.{Body, FixText, Free, IsAt, fields_over, most_between, size_field, sized, sum_field, text_over}
use Rattle.tagvalue_codec.proofs.Written.{written_is_text}
use Rattle.bridge_terms.specs.MessageFields.{with_lengths}
use Rattle.bridge_terms.specs.Parts.{TagLists}
use Rattle.fix_messages.specs.Heads.{Head, given_fields, head_fields}
use Rattle.fix_messages.specs.Texts.{message_text}
use Rattle.back_texts.specs.Backs.{HasFewFields}

at_tag : (tag : ℕ) (value : List ℕ) → 0 < tag → tag < 1000000000 → IsValue value → IsAt tag (record { tag = tag; value = value })
at_tag tag value low high is = record { plain = record { tagged = record { above = low; below = high }; some = is.some; plain = is.plain }; same = refl }

-- a text has at least the bytes of its body
body_short : (begin body : List ℕ) → length body ≤ length (text_over begin body)
body_short begin body =
    let first = field_bytes (record { tag = 8; value = begin }) in
    let size = field_bytes (size_field (length body)) in
    let one = length-append (sized begin body) (field_bytes (sum_field (sized begin body))) in
    let two = length-append first (size ++ body) in
    let three = length-append size body in
    omega (arith, one, two, three)

regroup : (a b k r l : List ℕ) → (a ++ (b ++ (k ++ r))) ++ l ≡ a ++ (b ++ (k ++ (r ++ l)))
regroup a b k r l =
    append_assoc a (b ++ (k ++ r)) l ∙ ap (λ x. a ++ x) (append_assoc b (k ++ r) l ∙ ap (λ x. b ++ x) (append_assoc k r l))

module _ (lists : TagLists) (kind : List ℕ) (head : Head) (fields : List Field) where
  -- the fields between MsgType and CheckSum
  abbrev pub between : List Field
  between = given_fields head ++ with_lengths lists fields

  abbrev pub body_bytes : List ℕ
  body_bytes = field_bytes (typed kind) ++ bytes_of between

  abbrev text : List ℕ
  text = message_text lists kind head fields

  text_is : text ≡ text_over head.begin body_bytes
  text_is = ap (text_over head.begin) (sym (flat_map-append field_bytes (head_fields kind head) (with_lengths lists fields)))

  body_within : length body_bytes ≤ length text
  body_within =
      let long : length text ≡ length (text_over head.begin body_bytes) = ap length text_is in
      omega (arith, long, body_short head.begin body_bytes)

  -- the fields of the message have no more bytes than the text
  pub fields_short : (limit : ℕ) → length text < limit → length (bytes_of (with_lengths lists fields)) < limit
  fields_short limit within =
      let one = length-append (field_bytes (typed kind)) (bytes_of between) in
      let two : length (bytes_of between) ≡ length (bytes_of (given_fields head)) + length (bytes_of (with_lengths lists fields)) =
      ap length (flat_map-append field_bytes (given_fields head) (with_lengths lists fields)) ∙ length-append (bytes_of (given_fields head)) (bytes_of (with_lengths lists fields)) in
      omega (arith, within, body_within, one, two)

  over_is : text_over head.begin body_bytes ≡ bytes_of (fields_over head.begin (typed kind) between body_bytes)
  over_is =
      let first = field_bytes (record { tag = 8; value = head.begin }) in
      let size = field_bytes (size_field (length body_bytes)) in
      let last = sum_field (sized head.begin body_bytes) in
      regroup first size (field_bytes (typed kind)) (bytes_of between) (field_bytes last)
      ∙ ap (λ b. first ++ (size ++ (field_bytes (typed kind) ++ (bytes_of between ++ b)))) (sym (append-nil (field_bytes last)))
      ∙ ap (λ b. first ++ (size ++ (field_bytes (typed kind) ++ b))) (sym (flat_map-append field_bytes between (last ∷ [])))

  -- the fields between are few where those of the text are
  pub between_few : HasFewFields text → length between ≤ most_between
  between_few few =
      let last = sum_field (sized head.begin body_bytes) in
      let all = few (fields_over head.begin (typed kind) between body_bytes) (text_is ∙ over_is) in
      omega (arith, all, length-append between (last ∷ []))

  pub sent_text : (tags : List Pair) → IsValue head.begin → IsValue kind → length text < 1000000000 → Body tags Free between (bytes_of between) → length between ≤ most_between
      → FixText tags (fields_over head.begin (typed kind) between body_bytes) text
  sent_text tags begin own small body few =
      let short : length body_bytes < 1000000000 = omega (arith, small, body_within) in
      subst (λ (t : List ℕ). FixText tags (fields_over head.begin (typed kind) between body_bytes) t) (sym text_is)
      (written_is_text tags head.begin (typed kind) between (bytes_of between) (at_tag 8 head.begin (lit< tt) (lit< tt) begin) (at_tag 35 kind (lit< tt) (lit< tt) own) body few short)
