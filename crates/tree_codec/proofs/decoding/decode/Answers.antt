use Rattle.tree_codec.proofs.WholeLays.{whole_message}
use Rattle.tree_codec.proofs.decoding.decode.Goals as goal

pub message_tree-requires : goal.message_tree-requires
message_tree-requires c =
    whole_message c.args.layout.now c.in-Ok.view.message c.in-Ok.view.level c.args.body.now c.in-Ok.ensures.lies c.in-Ok.ensures.level
