use Rattle.std.proofs.Common.{◌≡◌, ◌+◌, ◌≤◌, ◌++◌, length, refl, ap, ◌∙◌, arith, length-append}
use Rattle.tagvalue_codec.specs.Rooms.{head_bytes, begin_in}
use Rattle.tagvalue_codec.specs.Drafts.{Draft}
use Rattle.tagvalue_codec.proofs.Drafting.{kept_open, around_fits, within_by}
use Rattle.tagvalue_codec.proofs.write.FixWriter.has_room.Goals as goal

pub returns-then-end-limit-clause-room : goal.returns-then-end-limit-clause-room
returns-then-end-limit-clause-room c holds =
    let draft = c.args.self.now in
    let open_is = ap (λ (d : Draft). d.phase) c.self.view_is ∙ c.requires in
    let kept = kept_open c.self.inside.phase (begin_in c.self.inside.begin c.self.inside.text.bytes) c.self.inside.text.bytes c.self.inside.body c.self.inside.text.limit open_is c.self.invariant.2 in
    let head : length c.self.inside.text.bytes ≡ length (head_bytes draft.begin) = ap length kept.0 ∙ ap (λ (d : Draft). length (head_bytes d.begin)) c.self.view_is in
    let body : length c.self.inside.body.bytes ≡ length draft.body = ap (λ (d : Draft). length d.body) c.self.view_is in
    let limit_is : c.limit.result ≡ draft.limit = c.limit.ensures.same ∙ ap (λ (d : Draft). d.limit) c.self.view_is in
    omega (arith, c.end-end.ensures.same, kept.2, head, body, limit_is, c.if-end-limit.true)

pub returns-then-end-limit-clause-fits : goal.returns-then-end-limit-clause-fits
returns-then-end-limit-clause-fits c holds piece few =
    let draft = c.args.self.now in
    let open_is = ap (λ (d : Draft). d.phase) c.self.view_is ∙ c.requires in
    let kept = kept_open c.self.inside.phase (begin_in c.self.inside.begin c.self.inside.text.bytes) c.self.inside.text.bytes c.self.inside.body c.self.inside.text.limit open_is c.self.invariant.2 in
    let head : length c.self.inside.text.bytes ≡ length (head_bytes draft.begin) = ap length kept.0 ∙ ap (λ (d : Draft). length (head_bytes d.begin)) c.self.view_is in
    let body : length c.self.inside.body.bytes ≡ length draft.body = ap (λ (d : Draft). length d.body) c.self.view_is in
    let limit_is : c.limit.result ≡ draft.limit = c.limit.ensures.same ∙ ap (λ (d : Draft). d.limit) c.self.view_is in
    let most : length (head_bytes draft.begin) + (length draft.body + length piece) + 28 ≤ draft.limit = omega (arith, c.end-end.ensures.same, kept.2, head, body, limit_is, c.if-end-limit.true, few) in
    let fits = around_fits (length (head_bytes draft.begin)) (length draft.body + length piece) draft.limit (omega (arith, c.end-end.ensures.same, c.end-end.ensures.within, c.end-end.ensures.small, body, few)) most in
    within_by draft.limit (length (head_bytes draft.begin)) (length draft.body + length piece) draft.begin (draft.body ++ piece) refl (omega (arith, length-append draft.body piece)) fits
