use Rattle.std.proofs.Common.{arith, ◌≤◌, ◌+◌, ◌++◌, length, sym, ap, ◌∙◌, subst}
use Rattle.tagvalue_codec.specs.Texts.{text_over}
use Rattle.tagvalue_codec.specs.Rooms.{begin_in, head_bytes}
use Rattle.tagvalue_codec.specs.Drafts.{Draft, ready_bytes}
use Rattle.tagvalue_codec.proofs.Drafting.{ready_long, ready_short, goes_on, has_room, kept_open}
use Rattle.tagvalue_codec.proofs.write.FixWriter.ready_field.Goals as goal

pub admit-requires-clause-few : goal.admit-requires-clause-few
admit-requires-clause-few c = let short = ready_short c.args.tag.now c.requires.tag in omega (arith, short)

pub returns-in-Err-clause-full : goal.returns-in-Err-clause-full
returns-in-Err-clause-full c = c.in-Err.ensures.full (ready_bytes c.args.tag.now c.args.value.now) (ready_long c.args.tag.now c.args.value.now)

pub returns-clause-fits : goal.returns-clause-fits
returns-clause-fits c = c.in-Ok.ensures.ok (ready_bytes c.args.tag.now c.args.value.now) (ready_long c.args.tag.now c.args.value.now)

pub invariant_of-self : goal.invariant_of-self
invariant_of-self c =
    let piece = ready_bytes c.args.tag.now c.args.value.now in
    let fits = c.in-Ok.ensures.ok piece (ready_long c.args.tag.now c.args.value.now) in (
      c.append_ready.ensures.size ∙ c.self.invariant.0,
      c.self.invariant.1,
      goes_on c.self.inside.phase (begin_in c.self.inside.begin c.self.inside.text.bytes) c.self.inside.text.bytes c.self.inside.body c.append_ready.new.self piece c.self.inside.text.limit
          (ap (λ (d : Draft). d.phase) c.self.view_is ∙ c.requires.open) c.self.invariant.2 c.append_ready.ensures.bytes c.append_ready.ensures.start
          (subst (λ (d : Draft). length (text_over d.begin (d.body ++ piece)) ≤ d.limit) (sym c.self.view_is) fits),
    )

pub append_ready-requires : goal.append_ready-requires
append_ready-requires c =
    let begin = begin_in c.self.inside.begin c.self.inside.text.bytes in
    let open_is = ap (λ (d : Draft). d.phase) c.self.view_is ∙ c.requires.open in
    let kept = kept_open c.self.inside.phase begin c.self.inside.text.bytes c.self.inside.body c.self.inside.text.limit open_is c.self.invariant.2 in
    let fits = subst (λ (d : Draft). length (head_bytes d.begin) + length d.body + (length c.args.tag.now + length c.args.value.now + 1) ≤ d.limit) (sym c.self.view_is) c.in-Ok.ensures.room in
    let room = has_room begin c.self.inside.text.bytes c.self.inside.body c.self.inside.text.limit (length c.args.tag.now + length c.args.value.now + 1) c.self.invariant.0 kept.0 kept.2 fits in
    omega (arith, room)
