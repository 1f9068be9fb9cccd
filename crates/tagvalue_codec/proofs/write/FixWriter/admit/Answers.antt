use Rattle.std.proofs.Common.{◌≡◌, ◌+◌, ◌≤◌, ℕ, List, ◌++◌, length, refl, ap, ◌∙◌, arith, length-append}
use Rattle.tagvalue_codec.specs.Rooms.{head_bytes, begin_in}
use Rattle.tagvalue_codec.specs.Drafts.{Draft}
use Rattle.tagvalue_codec.proofs.Drafting.{kept_open, around_fits, within_by, full_by, on_ok, if_err}
use Rattle.tagvalue_codec.proofs.write.FixWriter.admit.Goals as goal

pub returns-then-end-limit-clause-room : goal.returns-then-end-limit-clause-room
returns-then-end-limit-clause-room c =
    let draft = c.args.self.now in
    let open_is = ap (λ (d : Draft). d.phase) c.self.view_is ∙ c.requires.open in
    let kept = kept_open c.self.inside.phase (begin_in c.self.inside.begin c.self.inside.text.bytes) c.self.inside.text.bytes c.self.inside.body c.self.inside.text.limit open_is c.self.invariant.2 in
    let head : length c.self.inside.text.bytes ≡ length (head_bytes draft.begin) = ap length kept.0 ∙ ap (λ (d : Draft). length (head_bytes d.begin)) c.self.view_is in
    let body : length c.self.inside.body.bytes ≡ length draft.body = ap (λ (d : Draft). length d.body) c.self.view_is in
    let limit_is : c.limit.result ≡ draft.limit = c.limit.ensures.same ∙ ap (λ (d : Draft). d.limit) c.self.view_is in
    omega (arith, c.end.ensures.same, kept.2, head, body, limit_is, c.if-end-limit.true)

pub returns-then-end-limit-clause-ok : goal.returns-then-end-limit-clause-ok
returns-then-end-limit-clause-ok c piece long =
    let draft = c.args.self.now in
    let open_is = ap (λ (d : Draft). d.phase) c.self.view_is ∙ c.requires.open in
    let kept = kept_open c.self.inside.phase (begin_in c.self.inside.begin c.self.inside.text.bytes) c.self.inside.text.bytes c.self.inside.body c.self.inside.text.limit open_is c.self.invariant.2 in
    let head : length c.self.inside.text.bytes ≡ length (head_bytes draft.begin) = ap length kept.0 ∙ ap (λ (d : Draft). length (head_bytes d.begin)) c.self.view_is in
    let body : length c.self.inside.body.bytes ≡ length draft.body = ap (λ (d : Draft). length d.body) c.self.view_is in
    let limit_is : c.limit.result ≡ draft.limit = c.limit.ensures.same ∙ ap (λ (d : Draft). d.limit) c.self.view_is in
    let most : length (head_bytes draft.begin) + (length draft.body + c.args.more) + 28 ≤ draft.limit = omega (arith, c.end.ensures.same, kept.2, head, body, limit_is, c.if-end-limit.true) in
    let fits = around_fits (length (head_bytes draft.begin)) (length draft.body + c.args.more) draft.limit (omega (arith, c.end.ensures.same, c.end.ensures.within, c.end.ensures.small, body, c.requires.few)) most in
    within_by draft.limit (length (head_bytes draft.begin)) (length draft.body + c.args.more) draft.begin (draft.body ++ piece) refl (omega (arith, long, length-append draft.body piece)) fits

pub returns-clause-room : goal.returns-clause-room
returns-clause-room c =
    let draft = c.args.self.now in
    let open_is = ap (λ (d : Draft). d.phase) c.self.view_is ∙ c.requires.open in
    let kept = kept_open c.self.inside.phase (begin_in c.self.inside.begin c.self.inside.text.bytes) c.self.inside.text.bytes c.self.inside.body c.self.inside.text.limit open_is c.self.invariant.2 in
    let head = c.len-head.ensures.same ∙ ap length kept.0 ∙ ap (λ (d : Draft). length (head_bytes d.begin)) c.self.view_is in
    let body = c.len.ensures.same ∙ ap (λ (d : Draft). length d.body) c.self.view_is in
    on_ok c.judge.result (λ fits. omega (arith, head, body, fits)) c.judge.ensures.ok

pub returns-clause-ok : goal.returns-clause-ok
returns-clause-ok c =
    let draft = c.args.self.now in
    let open_is = ap (λ (d : Draft). d.phase) c.self.view_is ∙ c.requires.open in
    let kept = kept_open c.self.inside.phase (begin_in c.self.inside.begin c.self.inside.text.bytes) c.self.inside.text.bytes c.self.inside.body c.self.inside.text.limit open_is c.self.invariant.2 in
    let head = c.len-head.ensures.same ∙ ap length kept.0 ∙ ap (λ (d : Draft). length (head_bytes d.begin)) c.self.view_is in
    let body = c.len.ensures.same ∙ ap (λ (d : Draft). length d.body) c.self.view_is in
    on_ok c.judge.result
    (λ fits (piece : List ℕ) long. within_by draft.limit c.len-head.result (c.len.result + c.args.more) draft.begin (draft.body ++ piece) head (omega (arith, body, long, length-append draft.body piece)) fits) c.judge.ensures.ok

pub returns-clause-full : goal.returns-clause-full
returns-clause-full c =
    let draft = c.args.self.now in
    let open_is = ap (λ (d : Draft). d.phase) c.self.view_is ∙ c.requires.open in
    let kept = kept_open c.self.inside.phase (begin_in c.self.inside.begin c.self.inside.text.bytes) c.self.inside.text.bytes c.self.inside.body c.self.inside.text.limit open_is c.self.invariant.2 in
    let head = c.len-head.ensures.same ∙ ap length kept.0 ∙ ap (λ (d : Draft). length (head_bytes d.begin)) c.self.view_is in
    let body = c.len.ensures.same ∙ ap (λ (d : Draft). length d.body) c.self.view_is in
    if_err c.judge.result
    (λ full over (piece : List ℕ) long. full_by draft.limit c.len-head.result (c.len.result + c.args.more) draft.begin (draft.body ++ piece) full head (omega (arith, body, long, length-append draft.body piece)) over) c.judge.ensures.full
