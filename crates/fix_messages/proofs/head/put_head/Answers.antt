use Rattle.std.proofs.Common.{◌∷◌, [], subst, sym, refl, ap, ◌∙◌}
use Rattle.tagvalue_codec.specs.Drafts.{Draft, begun, finished, typed}
use Rattle.message_walk.specs.States.{after}
use Rattle.fix_messages.specs.Heads.{field_places, given_fields, head_fields, head_of, no_lists}
use Rattle.fix_messages.specs.Texts.{IsHeadLeft}
use Rattle.fix_messages.proofs.Limits.{kept_limit}
use Rattle.fix_messages.proofs.Heads.{field_on, field_off, fields_on, fields_off, left_by, unstarted}
use Rattle.fix_messages.proofs.head.put_head.Goals as goal

pub returns-in-Ok-clause-left : goal.returns-in-Ok-clause-left
returns-in-Ok-clause-left c =
    let head = head_of c.args.head.now in
    let kind = c.args.msg_type.now in
    let blank = begun c.args.out.now.limit head.begin [] in
    let started = field_on blank c.start.new.self c.args.halt.now 35 kind c.in-Ok.ensures.ok c.in-Ok.ensures.fits in
    left_by (after no_lists blank (field_places (head_fields kind head))) c.put_given_fields.result c.put_given_fields.new.out c.put_given_fields.new.halt
    (c.put_given_fields.ensures.put ∙ sym (fields_on blank c.start.new.self c.args.halt.now (typed kind ∷ []) (given_fields head) started)) c.put_given_fields.ensures.open

pub returns-in-Err-clause-left : goal.returns-in-Err-clause-left
returns-in-Err-clause-left c =
    let head = head_of c.args.head.now in
    let kind = c.args.msg_type.now in
    let blank = begun c.args.out.now.limit head.begin [] in
    let left = after no_lists blank (field_places (head_fields kind head)) in
    let refused = field_off blank blank c.no_room.new.halt 35 kind c.in-Err.full refl c.no_room.ensures.halt c.in-Err.ensures.full in
    subst (λ b. IsHeadLeft left b c.start.new.self c.no_room.new.halt) (sym c.no_room.ensures.refused)
    (unstarted left c.start.new.self blank c.no_room.new.halt (fields_off blank blank c.no_room.new.halt (typed kind ∷ []) (given_fields head) refused)
    (ap finished c.in-Err.ensures.err))

pub returns-in-Ok-clause-limit : goal.returns-in-Ok-clause-limit
returns-in-Ok-clause-limit c =
    kept_limit no_lists c.start.new.self c.put_given_fields.new.out c.put_given_fields.new.halt c.put_given_fields.result (field_places (given_fields (head_of c.args.head.now)))
    c.put_given_fields.ensures.put ∙ ap (λ (d : Draft). d.limit) c.in-Ok.ensures.ok

pub returns-in-Err-clause-limit : goal.returns-in-Err-clause-limit
returns-in-Err-clause-limit c = ap (λ (d : Draft). d.limit) c.in-Err.ensures.err
