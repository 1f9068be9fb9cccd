use Rattle.std.proofs.Common.{subst, sym, ap, ◌∙◌}
use Rattle.sbe_types.specs.Shows.{ShowsLeaf}
use Rattle.field_values.specs.Reports.{state_of}
use Rattle.field_values.proofs.Shown.{number_state_is, text_state_is}
use Rattle.field_values.proofs.state.leaf_state.Goals as goal

pub returns-in-Number : goal.returns-in-Number
returns-in-Number c = λ v h.
    number_state_is c.args.order c.args.leaf.now v c.args.bytes.now (subst (λ s. ShowsLeaf c.args.order s c.args.leaf.now v c.args.bytes.now) c.in-Number.is h)
    ∙ sym c.number_state.ensures

pub returns-in-RangedText : goal.returns-in-RangedText
returns-in-RangedText c = λ v h.
    text_state_is c.args.order c.args.leaf.now v c.args.bytes.now (subst (λ s. ShowsLeaf c.args.order s c.args.leaf.now v c.args.bytes.now) c.in-RangedText.is h)
    ∙ sym c.text_state.ensures

pub returns-in-EncodedText : goal.returns-in-EncodedText
returns-in-EncodedText c = λ v h.
    text_state_is c.args.order c.args.leaf.now v c.args.bytes.now (subst (λ s. ShowsLeaf c.args.order s c.args.leaf.now v c.args.bytes.now) c.in-EncodedText.is h)
    ∙ sym c.text_state-in-EncodedText.ensures

pub returns-in-Octets : goal.returns-in-Octets
returns-in-Octets c = λ v h. ap state_of (subst (λ s. ShowsLeaf c.args.order s c.args.leaf.now v c.args.bytes.now) c.in-Octets.is h).1

pub returns-in-Numbers : goal.returns-in-Numbers
returns-in-Numbers c = λ v h. ap state_of (subst (λ s. ShowsLeaf c.args.order s c.args.leaf.now v c.args.bytes.now) c.in-Numbers.is h).1
