use Rattle.tree_codec.proofs.FromBytes.{ranged_is, encoded_is, octets_are, numbers_are}
use Rattle.tree_codec.proofs.Steps.{if_ok}
use Rattle.tree_codec.proofs.values.leaf_value.Goals as goal

pub returns-in-RangedText : goal.returns-in-RangedText
returns-in-RangedText c = if_ok c.text_value.result (λ v is. ranged_is c.args.order c.args.leaf.now c.args.bytes.now v c.in-RangedText.is is) c.text_value.ensures

pub returns-in-EncodedText : goal.returns-in-EncodedText
returns-in-EncodedText c =
    if_ok c.text_value-in-EncodedText.result (λ v is. encoded_is c.args.order c.args.leaf.now c.args.bytes.now v c.in-EncodedText.is is) c.text_value-in-EncodedText.ensures

pub returns-in-Octets : goal.returns-in-Octets
returns-in-Octets c =
    if_ok c.array_value.result (λ v is. octets_are c.args.order c.args.leaf.now c.args.bytes.now v c.in-Octets.is c.requires.wide is) c.array_value.ensures

pub returns-in-Numbers : goal.returns-in-Numbers
returns-in-Numbers c =
    if_ok c.array_value-in-Numbers.result (λ v is. numbers_are c.args.order c.args.leaf.now c.args.bytes.now v c.in-Numbers.is c.requires.wide is) c.array_value-in-Numbers.ensures
