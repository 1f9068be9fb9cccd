use Rattle.std.proofs.Common.{length, sym, ap, ◌∙◌, arith}
use Rattle.tagvalue_codec.specs.declared.write.Phase.TheVariants.{Done}
use Rattle.tagvalue_codec.specs.Rooms.{begin_in}
use Rattle.tagvalue_codec.specs.Texts.{text_over}
use Rattle.tagvalue_codec.specs.Drafts.{Draft}
use Rattle.tagvalue_codec.proofs.Drafting.{kept_open, parts_fit, from_over}
use Rattle.tagvalue_codec.proofs.write.FixWriter.finish.Goals as goal

pub enclose-requires-clause-room : goal.enclose-requires-clause-room
enclose-requires-clause-room c =
    let text = c.self.inside.text.bytes in
    let open_is = ap (λ (d : Draft). d.phase) c.self.view_is ∙ c.requires in
    let kept = kept_open c.self.inside.phase (begin_in c.self.inside.begin text) text c.self.inside.body c.self.inside.text.limit open_is c.self.invariant.2 in
    omega (arith, kept.2, ap length c.bytes.ensures)

pub enclose-requires-clause-few : goal.enclose-requires-clause-few
enclose-requires-clause-few c =
    let text = c.self.inside.text.bytes in
    let begin = begin_in c.self.inside.begin text in
    let open_is = ap (λ (d : Draft). d.phase) c.self.view_is ∙ c.requires in
    let kept = kept_open c.self.inside.phase begin text c.self.inside.body c.self.inside.text.limit open_is c.self.invariant.2 in
    omega (arith, parts_fit begin text c.self.inside.body.bytes c.self.inside.text.limit kept.0 kept.1, c.self.invariant.1)

pub enclose-requires-clause-spare : goal.enclose-requires-clause-spare
enclose-requires-clause-spare c =
    let text = c.self.inside.text.bytes in
    let begin = begin_in c.self.inside.begin text in
    let open_is = ap (λ (d : Draft). d.phase) c.self.view_is ∙ c.requires in
    let kept = kept_open c.self.inside.phase begin text c.self.inside.body c.self.inside.text.limit open_is c.self.invariant.2 in
    omega (arith, parts_fit begin text c.self.inside.body.bytes c.self.inside.text.limit kept.0 kept.1, kept.2, c.self.invariant.0)

pub invariant_of-self : goal.invariant_of-self
invariant_of-self c =
    let text = c.self.inside.text.bytes in
    let begin = begin_in c.self.inside.begin text in
    let open_is = ap (λ (d : Draft). d.phase) c.self.view_is ∙ c.requires in
    let kept = kept_open c.self.inside.phase begin text c.self.inside.body c.self.inside.text.limit open_is c.self.invariant.2 in
    let head = c.bytes.ensures ∙ kept.0 in (
      c.enclose.ensures.size ∙ c.self.invariant.0,
      c.self.invariant.1,
      (
        c.enclose.ensures.whole ∙ from_over begin c.bytes.result.now c.self.inside.body.bytes head ∙ ap (text_over begin) (sym c.enclose.ensures.bytes),
        c.enclose.ensures.ahead,
      ),
    )

pub returns : goal.returns
returns c =
    λ i. record {
      phase = Done;
      begin = ap (λ (d : Draft). d.begin) c.self.view_is i;
      body = (c.enclose.ensures.bytes ∙ ap (λ (d : Draft). d.body) c.self.view_is) i;
      limit = ap (λ (d : Draft). d.limit) c.self.view_is i;
    }
