use Rattle.std.proofs.Common.{subst, ap, ◌∙◌, refl}
use Rattle.std.specs.Prelude.{None}
use Rattle.sbe_types.specs.Shows.{ShowsLeaf}
use Rattle.bridge_rules.specs.Members.{text_in}
use Rattle.field_values.proofs.Shown.{text_front}
use Rattle.value_texts.proofs.Values.{single_same}
use Rattle.value_texts.proofs.seen.leaf_text.Goals as goal

pub returns-in-RangedText-clause-text : goal.returns-in-RangedText-clause-text
returns-in-RangedText-clause-text c = λ order v h.
    ap text_in (text_front c.args.leaf.now v c.args.bytes.now (subst (λ s. ShowsLeaf order s c.args.leaf.now v c.args.bytes.now) c.in-RangedText.is h))
    ∙ c.text_unless_null.ensures.text

pub returns-in-EncodedText-clause-text : goal.returns-in-EncodedText-clause-text
returns-in-EncodedText-clause-text c = λ order v h.
    ap text_in (text_front c.args.leaf.now v c.args.bytes.now (subst (λ s. ShowsLeaf order s c.args.leaf.now v c.args.bytes.now) c.in-EncodedText.is h))
    ∙ c.text_unless_null-in-EncodedText.ensures.text

pub returns-in-Number-clause-text : goal.returns-in-Number-clause-text
returns-in-Number-clause-text c = λ order v h.
    single_same text_in None order c.args.leaf.now v c.args.bytes.now refl (λ n. refl) (subst (λ s. ShowsLeaf order s c.args.leaf.now v c.args.bytes.now) c.in-Number.is h)

pub returns-in-Octets-clause-text : goal.returns-in-Octets-clause-text
returns-in-Octets-clause-text c = λ order v h. ap text_in (subst (λ s. ShowsLeaf order s c.args.leaf.now v c.args.bytes.now) c.in-Octets.is h).1

pub returns-in-Numbers-clause-text : goal.returns-in-Numbers-clause-text
returns-in-Numbers-clause-text c = λ order v h. ap text_in (subst (λ s. ShowsLeaf order s c.args.leaf.now v c.args.bytes.now) c.in-Numbers.is h).1
