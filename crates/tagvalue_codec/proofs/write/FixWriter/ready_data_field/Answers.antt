use Rattle.std.proofs.Common.{arith, ◌+◌, length-append, ◌≤◌, ◌++◌, length, sym, ap, ◌∙◌, subst}
use Rattle.tagvalue_codec.specs.Texts.{text_over}
use Rattle.tagvalue_codec.specs.Rooms.{begin_in, head_bytes}
use Rattle.tagvalue_codec.specs.Drafts.{Draft, ready_bytes, ready_data_bytes}
use Rattle.tagvalue_codec.proofs.Drafting.{ready_short, ready_data_long, ready_data_laid_out, goes_on, has_room, kept_open, ready_long}
use Rattle.tagvalue_codec.proofs.write.FixWriter.ready_data_field.Goals as goal

pub admit-requires-clause-few : goal.admit-requires-clause-few
admit-requires-clause-few c =
    let first = ready_short c.args.length_tag.now c.requires.length_tag in
    let second = ready_short c.args.tag.now c.requires.tag in
    omega (arith, first, second)

pub overflow_add-first-3 : goal.overflow_add-first-3
overflow_add-first-3 c =
    let first = ready_short c.args.length_tag.now c.requires.length_tag in
    let second = ready_short c.args.tag.now c.requires.tag in
    omega (arith, first, second)

pub returns-in-Err-clause-full : goal.returns-in-Err-clause-full
returns-in-Err-clause-full c =
    c.in-Err.ensures.full (ready_data_bytes c.args.length_tag.now c.args.tag.now c.args.value.now)
    (ready_data_long c.args.length_tag.now c.as_bytes-count.result.now c.args.tag.now c.args.value.now (c.as_bytes-count.ensures.value ∙ c.format.ensures.text))

pub returns-clause-fits : goal.returns-clause-fits
returns-clause-fits c =
    c.in-Ok.ensures.ok (ready_data_bytes c.args.length_tag.now c.args.tag.now c.args.value.now)
    (ready_data_long c.args.length_tag.now c.as_bytes-count.result.now c.args.tag.now c.args.value.now (c.as_bytes-count.ensures.value ∙ c.format.ensures.text))

pub invariant_of-self : goal.invariant_of-self
invariant_of-self c =
    let amount = c.as_bytes-count.ensures.value ∙ c.format.ensures.text in
    let piece = ready_data_bytes c.args.length_tag.now c.args.tag.now c.args.value.now in
    let fits = c.in-Ok.ensures.ok piece (ready_data_long c.args.length_tag.now c.as_bytes-count.result.now c.args.tag.now c.args.value.now amount) in (
      c.append_ready-2.ensures.size ∙ c.append_ready.ensures.size ∙ c.self.invariant.0,
      c.self.invariant.1,
      goes_on c.self.inside.phase (begin_in c.self.inside.begin c.self.inside.text.bytes) c.self.inside.text.bytes c.self.inside.body c.append_ready-2.new.self piece c.self.inside.text.limit
          (ap (λ (d : Draft). d.phase) c.self.view_is ∙ c.requires.open) c.self.invariant.2
          (c.append_ready-2.ensures.bytes ∙ ap (λ b. b ++ ready_bytes c.args.tag.now c.args.value.now) c.append_ready.ensures.bytes
          ∙ ready_data_laid_out c.self.inside.body.bytes c.args.length_tag.now c.as_bytes-count.result.now c.args.tag.now c.args.value.now amount) (c.append_ready-2.ensures.start ∙ c.append_ready.ensures.start)
          (subst (λ (d : Draft). length (text_over d.begin (d.body ++ piece)) ≤ d.limit) (sym c.self.view_is) fits),
    )

pub append_ready-requires : goal.append_ready-requires
append_ready-requires c =
    let begin = begin_in c.self.inside.begin c.self.inside.text.bytes in
    let more = length c.args.length_tag.now + length c.as_bytes-count.result.now + 1 + (length c.args.tag.now + length c.args.value.now + 1) in
    let open_is = ap (λ (d : Draft). d.phase) c.self.view_is ∙ c.requires.open in
    let kept = kept_open c.self.inside.phase begin c.self.inside.text.bytes c.self.inside.body c.self.inside.text.limit open_is c.self.invariant.2 in
    let fits = subst (λ (d : Draft). length (head_bytes d.begin) + length d.body + more ≤ d.limit) (sym c.self.view_is) c.in-Ok.ensures.room in
    let room = has_room begin c.self.inside.text.bytes c.self.inside.body c.self.inside.text.limit more c.self.invariant.0 kept.0 kept.2 fits in
    omega (arith, room)

pub append_ready-requires-2 : goal.append_ready-requires-2
append_ready-requires-2 c =
    let begin = begin_in c.self.inside.begin c.self.inside.text.bytes in
    let more = length c.args.length_tag.now + length c.as_bytes-count.result.now + 1 + (length c.args.tag.now + length c.args.value.now + 1) in
    let open_is = ap (λ (d : Draft). d.phase) c.self.view_is ∙ c.requires.open in
    let kept = kept_open c.self.inside.phase begin c.self.inside.text.bytes c.self.inside.body c.self.inside.text.limit open_is c.self.invariant.2 in
    let fits = subst (λ (d : Draft). length (head_bytes d.begin) + length d.body + more ≤ d.limit) (sym c.self.view_is) c.in-Ok.ensures.room in
    let room = has_room begin c.self.inside.text.bytes c.self.inside.body c.self.inside.text.limit more c.self.invariant.0 kept.0 kept.2 fits in
    omega (arith, room, c.append_ready.ensures.start, c.append_ready.ensures.size, ap length c.append_ready.ensures.bytes, length-append c.self.inside.body.bytes (ready_bytes c.args.length_tag.now c.as_bytes-count.result.now), ready_long c.args.length_tag.now c.as_bytes-count.result.now)
