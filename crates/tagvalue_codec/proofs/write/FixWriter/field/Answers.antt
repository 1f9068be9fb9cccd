use Rattle.std.proofs.Common.{arith, ◌+◌, ◌≤◌, ◌++◌, length, sym, ap, ◌∙◌, subst}
use Rattle.tagvalue_codec.specs.Fields.{field_bytes}
use Rattle.tagvalue_codec.specs.Texts.{text_over}
use Rattle.tagvalue_codec.specs.Rooms.{begin_in, head_bytes}
use Rattle.tagvalue_codec.specs.Drafts.{Draft, field_of}
use Rattle.tagvalue_codec.proofs.Drafting.{field_long, field_laid_out, goes_on, has_room, kept_open}
use Rattle.tagvalue_codec.proofs.write.FixWriter.field.Goals as goal

pub returns-in-Err-clause-full : goal.returns-in-Err-clause-full
returns-in-Err-clause-full c =
    c.in-Err.ensures.full (field_bytes (field_of c.args.tag c.args.value.now)) (field_long c.args.value.now c.as_bytes-digits.result.now c.args.tag (c.as_bytes-digits.ensures.value ∙ c.format.ensures.text))

pub returns-clause-fits : goal.returns-clause-fits
returns-clause-fits c =
    c.in-Ok.ensures.ok (field_bytes (field_of c.args.tag c.args.value.now)) (field_long c.args.value.now c.as_bytes-digits.result.now c.args.tag (c.as_bytes-digits.ensures.value ∙ c.format.ensures.text))

pub invariant_of-self : goal.invariant_of-self
invariant_of-self c =
    let digits_are = c.as_bytes-digits.ensures.value ∙ c.format.ensures.text in
    let piece = field_bytes (field_of c.args.tag c.args.value.now) in
    let fits = c.in-Ok.ensures.ok piece (field_long c.args.value.now c.as_bytes-digits.result.now c.args.tag digits_are) in (
      c.append_field.ensures.size ∙ c.self.invariant.0,
      c.self.invariant.1,
      goes_on c.self.inside.phase (begin_in c.self.inside.begin c.self.inside.text.bytes) c.self.inside.text.bytes c.self.inside.body c.append_field.new.self piece c.self.inside.text.limit
          (ap (λ (d : Draft). d.phase) c.self.view_is ∙ c.requires.open) c.self.invariant.2
          (c.append_field.ensures.bytes ∙ field_laid_out c.self.inside.body.bytes c.args.value.now c.as_bytes-digits.result.now c.args.tag digits_are) c.append_field.ensures.start
          (subst (λ (d : Draft). length (text_over d.begin (d.body ++ piece)) ≤ d.limit) (sym c.self.view_is) fits),
    )

pub append_field-requires : goal.append_field-requires
append_field-requires c =
    let begin = begin_in c.self.inside.begin c.self.inside.text.bytes in
    let more = length c.as_bytes-digits.result.now + length c.args.value.now + 2 in
    let open_is = ap (λ (d : Draft). d.phase) c.self.view_is ∙ c.requires.open in
    let kept = kept_open c.self.inside.phase begin c.self.inside.text.bytes c.self.inside.body c.self.inside.text.limit open_is c.self.invariant.2 in
    let fits = subst (λ (d : Draft). length (head_bytes d.begin) + length d.body + more ≤ d.limit) (sym c.self.view_is) c.in-Ok.ensures.room in
    let room = has_room begin c.self.inside.text.bytes c.self.inside.body c.self.inside.text.limit more c.self.invariant.0 kept.0 kept.2 fits in
    omega (arith, room)
