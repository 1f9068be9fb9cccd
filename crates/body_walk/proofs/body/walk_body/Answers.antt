use Rattle.std.proofs.Common.{sym, ap, ◌∙◌}
use Rattle.sbe_wire.proofs.Messages.{message_judges}
use Rattle.layout_tables.proofs.Items.{item_there}
use Rattle.body_walk.specs.inner.Starts.{message_from}
use Rattle.sbe_wire.specs.Versions.{mode_of}
use Rattle.body_walk.specs.inner.Outcomes.{fault_of}
use Rattle.body_walk.proofs.Bodies.{refused_early, refused_late, body_read, view_reads}
use Rattle.body_walk.proofs.body.walk_body.Goals as goal

pub returns-in-None-clause-fault : goal.returns-in-None-clause-fault
returns-in-None-clause-fault c =
    let schema = c.args.layout.now in
    let body = c.args.body.now in
    let fault = fault_of c.find_template.new.out in
    (message_judges schema c.schema-schema.ensures.order.placed).told body fault tt (refused_early schema body fault (sym c.in-None.ensures.told))

pub returns-in-Some-walk_message-clause-walked : goal.returns-in-Some-walk_message-clause-walked
returns-in-Some-walk_message-clause-walked c =
    let schema = c.args.layout.now in
    let body = c.args.body.now in
    let t = c.in-Some.named.template in
    let version = c.in-Some-walk_message.version in
    let item = item_there schema.messages t c.in-Some.ensures.within in
    let read = body_read schema body t version item.0 (sym c.in-Some.ensures.told) item.1 (ap (message_from schema item.0 body) (sym c.in-Some.ensures.start) ∙ sym (c.in-Some-walk_message.ensures.told item.0 item.1)) in
    let view = view_reads schema body t version read in
    record {
      read = record { reads = view.0; template_is = view.1; version_is = view.2; level_is = c.message-level.ensures };
      block_is = ap (λ s. s.block) c.in-Some.ensures.start;
      root_is = c.root-root.ensures;
      mode_is = c.mode_of-mode.ensures ∙ ap (mode_of schema) (sym c.in-Some-walk_message.ensures.version);
    }

pub returns-in-Some-walk_message-clause-lies : goal.returns-in-Some-walk_message-clause-lies
returns-in-Some-walk_message-clause-lies c =
    let schema = c.args.layout.now in
    let body = c.args.body.now in
    let t = c.in-Some.named.template in
    let version = c.in-Some-walk_message.version in
    let item = item_there schema.messages t c.in-Some.ensures.within in
    let read = body_read schema body t version item.0 (sym c.in-Some.ensures.told) item.1 (ap (message_from schema item.0 body) (sym c.in-Some.ensures.start) ∙ sym (c.in-Some-walk_message.ensures.told item.0 item.1)) in
    (message_judges schema c.schema-schema.ensures.order.placed).sound body _ tt (view_reads schema body t version read).0

pub returns-in-None-walk_message-clause-fault : goal.returns-in-None-walk_message-clause-fault
returns-in-None-walk_message-clause-fault c =
    let schema = c.args.layout.now in
    let body = c.args.body.now in
    let t = c.in-Some.named.template in
    let fault = fault_of c.walk_message.new.out in
    let item = item_there schema.messages t c.in-Some.ensures.within in
    let read = refused_late schema body t item.0 fault (sym c.in-Some.ensures.told) item.1 (ap (message_from schema item.0 body) (sym c.in-Some.ensures.start) ∙ sym (c.in-None-walk_message.ensures.told item.0 item.1)) in
    (message_judges schema c.schema-schema.ensures.order.placed).told body fault tt read
