use Rattle.std.proofs.Common.{sym, ap, ◌∙◌}
use Rattle.sbe_types.specs.Shows.{is_ranged}
use Rattle.sbe_types.proofs.BadLemmas.{text_start}
use Rattle.body_walk.proofs.looks.is_text.Goals as goal

pub loop-byte-init : goal.loop-byte-init
loop-byte-init c = λ none. sym (text_start c.args.leaf.now c.args.bytes.now (ap is_ranged c.requires.shape)) ∙ none
