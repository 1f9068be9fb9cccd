use Rattle.std.proofs.Common.{◌≡◌, true, false, sym, subst, ap, ◌∙◌}
use Rattle.std.specs.Prelude.{[]}
use Rattle.tagvalue_codec.specs.Drafts.{Draft, begun}
use Rattle.bridge_terms.specs.Blocks.{values_of}
use Rattle.bridge_terms.specs.Places.{places_of, place_fields}
use Rattle.message_walk.specs.States.{after, outcome}
use Rattle.message_walk.proofs.Messages.{message_put}
use Rattle.fix_messages.specs.Heads.{field_places, head_fields, head_of, no_lists}
use Rattle.fix_messages.specs.Texts.{message_text, text_refusal, IsHeadLeft, IsTextBy}
use Rattle.fix_messages.proofs.Limits.{kept_limit}
use Rattle.fix_messages.proofs.Texts.{head_refused, message_refused, message_written}
use Rattle.fix_messages.proofs.text.write_text.Goals as goal

pub returns-then-not-put_head-clause-text : goal.returns-then-not-put_head-clause-text
returns-then-not-put_head-clause-text g c = λ lists p rows fits.
    let kind = c.args.template.now.msg_type.now in
    let head = head_of c.args.head.now in
    let limit = c.args.out.now.limit in
    let all = places_of p (values_of p c.args.root.now.block) in
    let left = subst (λ b. IsHeadLeft (after no_lists (begun limit head.begin []) (field_places (head_fields kind head))) b c.put_head.new.out c.put_head.new.halt) c.if-not-put_head.true c.put_head.ensures.left in
    head_refused lists limit kind head all c.put_head.new.out c.put_head.new.halt (message_text lists kind head (place_fields all.places)) left

pub returns-then-not-put_head-clause-limit : goal.returns-then-not-put_head-clause-limit
returns-then-not-put_head-clause-limit g c = λ lists p rows fits. c.put_head.ensures.limit

pub returns-then-not-put_rows-clause-text : goal.returns-then-not-put_rows-clause-text
returns-then-not-put_rows-clause-text g c = λ lists p rows fits.
    let kind = c.args.template.now.msg_type.now in
    let head = head_of c.args.head.now in
    let limit = c.args.out.now.limit in
    let all = places_of p (values_of p c.args.root.now.block) in
    let d = c.put_head.new.out in
    let e = c.put_rows.new.out in
    let left = subst (λ b. IsHeadLeft (after no_lists (begun limit head.begin []) (field_places (head_fields kind head))) b d c.put_head.new.halt) c.if-not-put_head.false c.put_head.ensures.left in
    let put = subst (λ b. outcome b e c.put_rows.new.halt ≡ after lists d all) c.if-not-put_rows.true (c.put_rows.ensures.put lists p rows fits) in
    message_refused lists limit kind head all d e c.put_head.new.halt c.put_rows.new.halt (message_text lists kind head (place_fields all.places)) left c.put_rows.ensures.open
    (message_put lists d all (outcome false e c.put_rows.new.halt) (c.put_head.ensures.open c.if-not-put_head.false) put)

pub returns-then-not-put_rows-clause-limit : goal.returns-then-not-put_rows-clause-limit
returns-then-not-put_rows-clause-limit g c = λ lists p rows fits.
    kept_limit lists c.put_head.new.out c.put_rows.new.out c.put_rows.new.halt c.put_rows.result (places_of p (values_of p c.args.root.now.block)) (c.put_rows.ensures.put lists p rows fits)
    ∙ c.put_head.ensures.limit

pub returns-clause-text : goal.returns-clause-text
returns-clause-text g c = λ lists p rows fits.
    let kind = c.args.template.now.msg_type.now in
    let head = head_of c.args.head.now in
    let limit = c.args.out.now.limit in
    let all = places_of p (values_of p c.args.root.now.block) in
    let d = c.put_head.new.out in
    let e = c.put_rows.new.out in
    let left = subst (λ b. IsHeadLeft (after no_lists (begun limit head.begin []) (field_places (head_fields kind head))) b d c.put_head.new.halt) c.if-not-put_head.false c.put_head.ensures.left in
    let put = subst (λ b. outcome b e c.put_rows.new.halt ≡ after lists d all) c.if-not-put_rows.false (c.put_rows.ensures.put lists p rows fits) in
    subst (λ e. IsTextBy (text_refusal lists limit kind head all) (message_text lists kind head (place_fields all.places)) true e c.put_rows.new.halt) (sym c.finish.ensures)
    (message_written lists limit kind head all d e c.put_head.new.halt c.put_rows.new.halt left
    (message_put lists d all (outcome true e c.put_rows.new.halt) (c.put_head.ensures.open c.if-not-put_head.false) put))

pub returns-clause-limit : goal.returns-clause-limit
returns-clause-limit g c = λ lists p rows fits.
    ap (λ (d : Draft). d.limit) c.finish.ensures
    ∙ kept_limit lists c.put_head.new.out c.put_rows.new.out c.put_rows.new.halt c.put_rows.result (places_of p (values_of p c.args.root.now.block)) (c.put_rows.ensures.put lists p rows fits)
    ∙ c.put_head.ensures.limit
