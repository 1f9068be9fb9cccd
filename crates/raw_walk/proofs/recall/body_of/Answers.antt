use Rattle.std.proofs.Common.{◌-◌, ◌+◌, take, length-take-le, sym, ap, ◌∙◌}
use Rattle.raw_walk.proofs.Plain.{plain_within}
use Rattle.raw_walk.proofs.Judged.{opens_found}
use Rattle.raw_walk.proofs.recall.body_of.Goals as goal

pub begin_of-requires : goal.begin_of-requires
begin_of-requires c = plain_within c.args.text.held.now c.args.soh c.args.text.stop c.requires.plain c.if-soh-text.false

pub returns-then-number-text-clause-opens : goal.returns-then-number-text-clause-opens
returns-then-number-text-clause-opens c =
    opens_found (take c.args.text.stop c.args.text.held.now) c.in-Some.begin c.in-Some-tagged_at.size c.in-Some-number_of.number c.in-Some.ensures c.in-Some-tagged_at.ensures.field c.in-Some-number_of.ensures
    (c.if-number-text.true ∙ ap (λ k. k - (c.in-Some-tagged_at.size.to + 1)) (sym (length-take-le c.args.text.stop c.args.text.held.now c.requires.stop)))
