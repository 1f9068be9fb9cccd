use Rattle.std.proofs.Common.{◌≡◌, length, take, arith}
use Rattle.schema_facts.specs.Levels.{nodes_from}
use Rattle.layout_compile.proofs.Grows.{messages_more, message_first, roots_go, grown_long}
use Rattle.layout_compile.proofs.tables.push_roots.Goals as goal

pub push_level-requires-clause-fields : goal.push_level-requires-clause-fields
push_level-requires-clause-fields c =
    (message_first c.args.messages.now c.loop-template.template c.index-messages-template.result (omega arith) c.index-messages-template.is c.loop-template.invariant.measured).0.measured.fields

pub push_level-requires-clause-order : goal.push_level-requires-clause-order
push_level-requires-clause-order c =
    (message_first c.args.messages.now c.loop-template.template c.index-messages-template.result (omega arith) c.index-messages-template.is c.loop-template.invariant.measured).0.kinds

pub push_level-requires-clause-below : goal.push_level-requires-clause-below
push_level-requires-clause-below c =
    (message_first c.args.messages.now c.loop-template.template c.index-messages-template.result (omega arith) c.index-messages-template.is c.loop-template.invariant.measured).1

pub loop-template-preserved : goal.loop-template-preserved
loop-template-preserved c =
    let messages = c.args.messages.now in
    let i = c.loop-template.template in
    let l = c.index-messages-template.result in
    let old = c.args.levels.now.items in
    let long = grown_long old c.loop-template.levels.items (nodes_from 0 (take i messages)) c.loop-template.invariant.grown in
    let here : c.len.result ≡ length c.loop-template.levels.items = omega (arith, c.len.ensures) in
    record {
      grown = messages_more _ old c.loop-template.levels.items c.push_level.new.levels.items messages l (omega arith) c.index-messages-template.is tt c.loop-template.invariant.grown c.in_ok-push_level.ensures;
      measured = (message_first messages i l (omega arith) c.index-messages-template.is c.loop-template.invariant.measured).2;
      roots_are = roots_go (length old) messages i c.len.result l c.loop-template.roots.items c.push.new.self.items (omega arith) c.index-messages-template.is
          c.loop-template.invariant.roots_are (omega (arith, here, long)) c.in_ok-push.ensures.items;
    }
