use Rattle.std.proofs.Common.{subst, sym, ap, ◌∙◌, refl}
use Rattle.sbe_types.specs.Shows.{ShowsLeaf}
use Rattle.bridge_rules.specs.Members.{number_in}
use Rattle.field_values.proofs.Shown.{text_front}
use Rattle.field_values.specs.Reports.{before_zero}
use Rattle.std.specs.Prelude.{None}
use Rattle.value_texts.proofs.Values.{leaf_number_is, of_text}
use Rattle.value_texts.proofs.seen.leaf_number.Goals as goal

pub returns-in-Number : goal.returns-in-Number
returns-in-Number c = λ v h.
    leaf_number_is c.args.order c.args.leaf.now v c.args.bytes.now (subst (λ s. ShowsLeaf c.args.order s c.args.leaf.now v c.args.bytes.now) c.in-Number.is h)
    ∙ sym c.number_unless_null.ensures

pub returns-in-RangedText : goal.returns-in-RangedText
returns-in-RangedText c = λ v h.
    ap number_in (text_front c.args.leaf.now v c.args.bytes.now (subst (λ s. ShowsLeaf c.args.order s c.args.leaf.now v c.args.bytes.now) c.in-RangedText.is h))
    ∙ of_text number_in None c.args.leaf.now (before_zero c.args.bytes.now) refl refl

pub returns-in-EncodedText : goal.returns-in-EncodedText
returns-in-EncodedText c = λ v h.
    ap number_in (text_front c.args.leaf.now v c.args.bytes.now (subst (λ s. ShowsLeaf c.args.order s c.args.leaf.now v c.args.bytes.now) c.in-EncodedText.is h))
    ∙ of_text number_in None c.args.leaf.now (before_zero c.args.bytes.now) refl refl

pub returns-in-Octets : goal.returns-in-Octets
returns-in-Octets c = λ v h. ap number_in (subst (λ s. ShowsLeaf c.args.order s c.args.leaf.now v c.args.bytes.now) c.in-Octets.is h).1

pub returns-in-Numbers : goal.returns-in-Numbers
returns-in-Numbers c = λ v h. ap number_in (subst (λ s. ShowsLeaf c.args.order s c.args.leaf.now v c.args.bytes.now) c.in-Numbers.is h).1
