use Rattle.std.proofs.Common.{ap, subst, ◌∙◌, rules, FitsSigned}
use mir.Syntax.{w128}
use Rattle.std.proofs.lemmas.Int.{to_z-of_z}
use Rattle.sbe_types.specs.Shows.{ShowsLeaf}
use Rattle.json_values.specs.Plain.{plain_text}
use Rattle.json_fields.specs.Shown.{single_shown}
use Rattle.printers.proofs.Printing.{reprinted}
use Rattle.json_fields.proofs.FromBytes.{single_written, text_written, array_written}
use Rattle.json_fields.proofs.kinds.put_leaf.Goals as goal

pub returns-in-Number : goal.returns-in-Number
returns-in-Number g c = λ v h.
    let fits : FitsSigned w128 c.get_num-number.result = search rules in
    let back = to_z-of_z w128 c.get_num-number.result fits in
    let written = reprinted (ap (λ n. plain_text (single_shown c.args.leaf.now n)) (back ∙ c.get_num-number.ensures)) c.put_one.ensures in
    single_written c.args.order c.args.leaf.now c.args.bytes.now written v (subst (λ s. ShowsLeaf c.args.order s c.args.leaf.now v c.args.bytes.now) c.in-Number.is h)

pub returns-in-RangedText : goal.returns-in-RangedText
returns-in-RangedText g c = λ v h.
    text_written c.args.order c.args.leaf.now c.args.bytes.now c.put_text_in.ensures v (subst (λ s. ShowsLeaf c.args.order s c.args.leaf.now v c.args.bytes.now) c.in-RangedText.is h)

pub returns-in-EncodedText : goal.returns-in-EncodedText
returns-in-EncodedText g c = λ v h.
    text_written c.args.order c.args.leaf.now c.args.bytes.now c.put_text_in-in-EncodedText.ensures v (subst (λ s. ShowsLeaf c.args.order s c.args.leaf.now v c.args.bytes.now) c.in-EncodedText.is h)

pub returns-in-Octets : goal.returns-in-Octets
returns-in-Octets g c = λ v h.
    array_written c.args.order c.args.leaf.now c.args.bytes.now c.requires.wide c.put_array.ensures v (subst (λ s. ShowsLeaf c.args.order s c.args.leaf.now v c.args.bytes.now) c.in-Octets.is h)

pub returns-in-Numbers : goal.returns-in-Numbers
returns-in-Numbers g c = λ v h.
    array_written c.args.order c.args.leaf.now c.args.bytes.now c.requires.wide c.put_array-in-Numbers.ensures v (subst (λ s. ShowsLeaf c.args.order s c.args.leaf.now v c.args.bytes.now) c.in-Numbers.is h)
