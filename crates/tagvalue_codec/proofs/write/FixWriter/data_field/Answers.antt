use Rattle.std.proofs.Common.{arith, ◌+◌, length-append, ◌≤◌, [], ◌∷◌, ◌++◌, length, sym, ap, ◌∙◌, subst}
use Rattle.tagvalue_codec.specs.Texts.{text_over}
use Rattle.tagvalue_codec.specs.Rooms.{begin_in, head_bytes}
use Rattle.tagvalue_codec.specs.Drafts.{Draft, ready_bytes, data_bytes}
use Rattle.tagvalue_codec.proofs.Drafting.{data_long, data_laid_out, goes_on, has_room, kept_open, ready_long}
use Rattle.tagvalue_codec.proofs.write.FixWriter.data_field.Goals as goal

pub returns-in-Err-clause-full : goal.returns-in-Err-clause-full
returns-in-Err-clause-full c =
    c.in-Err.ensures.full (data_bytes c.args.length_tag c.args.tag c.args.value.now)
    (data_long c.args.value.now c.as_bytes-length_digits.result.now c.as_bytes-count.result.now c.as_bytes-digits.result.now c.args.length_tag c.args.tag
    (c.as_bytes-length_digits.ensures.value ∙ c.format.ensures.text) (c.as_bytes-count.ensures.value ∙ c.format-2.ensures.text) (c.as_bytes-digits.ensures.value ∙ c.format-3.ensures.text))

pub returns-clause-fits : goal.returns-clause-fits
returns-clause-fits c =
    c.in-Ok.ensures.ok (data_bytes c.args.length_tag c.args.tag c.args.value.now)
    (data_long c.args.value.now c.as_bytes-length_digits.result.now c.as_bytes-count.result.now c.as_bytes-digits.result.now c.args.length_tag c.args.tag
    (c.as_bytes-length_digits.ensures.value ∙ c.format.ensures.text) (c.as_bytes-count.ensures.value ∙ c.format-2.ensures.text) (c.as_bytes-digits.ensures.value ∙ c.format-3.ensures.text))

pub invariant_of-self : goal.invariant_of-self
invariant_of-self c =
    let first = c.as_bytes-length_digits.ensures.value ∙ c.format.ensures.text in
    let amount = c.as_bytes-count.ensures.value ∙ c.format-2.ensures.text in
    let second = c.as_bytes-digits.ensures.value ∙ c.format-3.ensures.text in
    let piece = data_bytes c.args.length_tag c.args.tag c.args.value.now in
    let fits = c.in-Ok.ensures.ok piece (data_long c.args.value.now c.as_bytes-length_digits.result.now c.as_bytes-count.result.now c.as_bytes-digits.result.now c.args.length_tag c.args.tag first amount second) in (
      c.append_field-2.ensures.size ∙ c.append_field.ensures.size ∙ c.self.invariant.0,
      c.self.invariant.1,
      goes_on c.self.inside.phase (begin_in c.self.inside.begin c.self.inside.text.bytes) c.self.inside.text.bytes c.self.inside.body c.append_field-2.new.self piece c.self.inside.text.limit
          (ap (λ (d : Draft). d.phase) c.self.view_is ∙ c.requires.open) c.self.invariant.2
          (c.append_field-2.ensures.bytes ∙ ap (λ b. b ++ ready_bytes (c.as_bytes-digits.result.now ++ (61 ∷ [])) c.args.value.now) c.append_field.ensures.bytes
          ∙ data_laid_out c.self.inside.body.bytes c.args.value.now c.as_bytes-length_digits.result.now c.as_bytes-count.result.now c.as_bytes-digits.result.now c.args.length_tag c.args.tag first amount second) (c.append_field-2.ensures.start ∙ c.append_field.ensures.start)
          (subst (λ (d : Draft). length (text_over d.begin (d.body ++ piece)) ≤ d.limit) (sym c.self.view_is) fits),
    )

pub append_field-requires : goal.append_field-requires
append_field-requires c =
    let begin = begin_in c.self.inside.begin c.self.inside.text.bytes in
    let more = length c.as_bytes-length_digits.result.now + length c.as_bytes-count.result.now + 2 + (length c.as_bytes-digits.result.now + length c.args.value.now + 2) in
    let open_is = ap (λ (d : Draft). d.phase) c.self.view_is ∙ c.requires.open in
    let kept = kept_open c.self.inside.phase begin c.self.inside.text.bytes c.self.inside.body c.self.inside.text.limit open_is c.self.invariant.2 in
    let fits = subst (λ (d : Draft). length (head_bytes d.begin) + length d.body + more ≤ d.limit) (sym c.self.view_is) c.in-Ok.ensures.room in
    let room = has_room begin c.self.inside.text.bytes c.self.inside.body c.self.inside.text.limit more c.self.invariant.0 kept.0 kept.2 fits in
    omega (arith, room)

pub append_field-requires-2 : goal.append_field-requires-2
append_field-requires-2 c =
    let begin = begin_in c.self.inside.begin c.self.inside.text.bytes in
    let more = length c.as_bytes-length_digits.result.now + length c.as_bytes-count.result.now + 2 + (length c.as_bytes-digits.result.now + length c.args.value.now + 2) in
    let open_is = ap (λ (d : Draft). d.phase) c.self.view_is ∙ c.requires.open in
    let kept = kept_open c.self.inside.phase begin c.self.inside.text.bytes c.self.inside.body c.self.inside.text.limit open_is c.self.invariant.2 in
    let fits = subst (λ (d : Draft). length (head_bytes d.begin) + length d.body + more ≤ d.limit) (sym c.self.view_is) c.in-Ok.ensures.room in
    let room = has_room begin c.self.inside.text.bytes c.self.inside.body c.self.inside.text.limit more c.self.invariant.0 kept.0 kept.2 fits in
    omega (arith, room, c.append_field.ensures.start, c.append_field.ensures.size, ap length c.append_field.ensures.bytes, length-append c.self.inside.body.bytes (ready_bytes (c.as_bytes-length_digits.result.now ++ (61 ∷ [])) c.as_bytes-count.result.now), ready_long (c.as_bytes-length_digits.result.now ++ (61 ∷ [])) c.as_bytes-count.result.now, length-append c.as_bytes-length_digits.result.now (61 ∷ []))
