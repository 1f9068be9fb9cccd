use Rattle.std.proofs.Common.{◌∙◌}
use Rattle.tree_json.proofs.Checked.{checked_is_plain, template_is_plain}
use Rattle.tree_json.proofs.Views.{line_text}
use Rattle.tree_json.proofs.line.put_open.Goals as goal

pub put_message-requires-clause-name : goal.put_message-requires-clause-name
put_message-requires-clause-name g c =
    template_is_plain c.schema-schema.result.now c.args.view.now.message.template c.args.view.now.level c.schema-schema.ensures.order c.schema-schema.ensures.level

pub returns : goal.returns
returns g c =
    let schema = c.schema-schema.result.now in
    let plain = checked_is_plain schema c.schema-schema.ensures.order in
    let open_text = c.put_message.ensures in
    record {
      done = open_text.done;
      printed = open_text.printed;
      whole = open_text.whole ∙ line_text schema c.args.view.now.level c.args.view.now.message plain c.schema-schema.ensures.level;
    }
