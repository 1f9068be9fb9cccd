use Rattle.std.proofs.Common.{Err, ap, ◌∙◌}
use Rattle.body_walk.specs.inner.Cursor.{skim, entries_read}
use Rattle.body_walk.specs.inner.Outcomes.{fault_of}
use Rattle.body_walk.proofs.Opens.{steps_more, steps_err, level_within}
use Rattle.body_walk.proofs.flat.walk_blocks.Goals as goal

pub row-row-requires : goal.row-row-requires
row-row-requires c = level_within c.args.layer.now.layout.now c.args.layer.now.number c.args.layer.now.level.now c.requires.layer.level_is

pub returns-in-None-clause-told : goal.returns-in-None-clause-told
returns-in-None-clause-told c =
    let l = c.args.layer.now in
    let step = skim (entries_read l.mode l.level.now c.args.dim.block) l.body.now in
    ap (λ f. Err (fault_of f)) c.under.ensures
    ∙ steps_err step c.loop-i.i c.args.dim.count c.loop-i.at (fault_of c.walk_flat.new.out) c.loop-i-test.true c.in-None.ensures.told
    ∙ c.loop-i.invariant.told

pub loop-i-init : goal.loop-i-init
loop-i-init c = record { near = c.walk_shown-reached.ensures.near; told = c.walk_shown-reached.ensures.told }

pub loop-i-preserved : goal.loop-i-preserved
loop-i-preserved c =
    let l = c.args.layer.now in
    let step = skim (entries_read l.mode l.level.now c.args.dim.block) l.body.now in
    record {
      near = c.in-Some.ensures.within;
      told = steps_more step c.loop-i.i c.args.dim.count c.loop-i.at c.in-Some.next c.loop-i-test.true c.in-Some.ensures.told ∙ c.loop-i.invariant.told;
    }
