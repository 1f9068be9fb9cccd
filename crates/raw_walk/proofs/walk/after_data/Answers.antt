use Rattle.std.proofs.Common.{sym, ◌∙◌, subst, ◌+◌, ℕ}
use Rattle.tagvalue_codec.specs.Places.{TagAt}
use Rattle.raw_walk.proofs.Passing.{Pairs, no_number_here, no_tag_here, zero_here, other_here, no_data_here, pair_here}
use Rattle.raw_walk.proofs.walk.after_data.Goals as goal

pub returns-in_default-clause-passes : goal.returns-in_default-clause-passes
returns-in_default-clause-passes c = λ tags many role few. no_number_here tags c.args.front.now many c.args.size c.args.tag few c.requires.found c.requires.free role c.in_default.ensures

pub returns-in_default-tag_at-clause-passes : goal.returns-in_default-tag_at-clause-passes
returns-in_default-tag_at-clause-passes c = λ tags many role few. no_tag_here tags c.args.front.now many c.args.size c.args.tag few c.requires.found c.requires.free role c.in_default-tag_at.ensures

pub returns-then-many-eq0-clause-passes : goal.returns-then-many-eq0-clause-passes
returns-then-many-eq0-clause-passes c = λ tags many role few. zero_here tags c.args.front.now many c.args.size c.args.tag c.in-Some.many few c.requires.found c.requires.free role c.in-Some.ensures c.if-many-eq0.true

pub returns-then-next-tag-clause-passes : goal.returns-then-next-tag-clause-passes
returns-then-next-tag-clause-passes c = λ tags many role few.
    other_here tags c.args.front.now many c.args.size c.args.tag c.in-Some-tag_at.next c.in-Some-tag_at.from few c.requires.found c.requires.free role c.in-Some-tag_at.ensures c.if-next-tag.true

pub returns-then-not-ends_at-clause-passes : goal.returns-then-not-ends_at-clause-passes
returns-then-not-ends_at-clause-passes c = λ tags many role few.
    let p : Pairs tags c.args.front.now c.args.size c.args.tag c.in-Some.many c.in-Some-tag_at.from = record {
      found = c.requires.found;
      free = c.requires.free;
      role = role;
      number = c.in-Some.ensures;
      some = c.if-many-eq0.false;
      tagged = subst (λ (t : ℕ). TagAt c.args.front.now (c.args.size.to + 1) t c.in-Some-tag_at.from) c.if-next-tag.false c.in-Some-tag_at.ensures;
    } in
    no_data_here tags c.args.front.now many c.args.size c.args.tag c.in-Some.many c.in-Some-tag_at.from few p (sym c.ends_at.ensures ∙ c.if-not-ends_at.true)

pub returns-clause-passes : goal.returns-clause-passes
returns-clause-passes c = λ tags many role few.
    let p : Pairs tags c.args.front.now c.args.size c.args.tag c.in-Some.many c.in-Some-tag_at.from = record {
      found = c.requires.found;
      free = c.requires.free;
      role = role;
      number = c.in-Some.ensures;
      some = c.if-many-eq0.false;
      tagged = subst (λ (t : ℕ). TagAt c.args.front.now (c.args.size.to + 1) t c.in-Some-tag_at.from) c.if-next-tag.false c.in-Some-tag_at.ensures;
    } in
    pair_here tags c.args.front.now many c.args.size c.args.tag c.in-Some.many c.in-Some-tag_at.from few p (sym c.ends_at.ensures ∙ c.if-not-ends_at.false)
