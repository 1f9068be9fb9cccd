use Rattle.std.proofs.Common.{arith}
use Rattle.flyweight_view.proofs.GroupSteps.{child_is, next_child, group_read_there, last_stands, last_seen}
use Rattle.body_walk.proofs.LevelsReady.{level_ready}
use Rattle.flyweight_view.proofs.ends.last_group.Goals as goal

pub dim_there-dim-requires-clause-layer : goal.dim_there-dim-requires-clause-layer
dim_there-dim-requires-clause-layer c =
    let child = child_is c.args.layer.now c.args.cursor c.at-group.result.now c.requires.layer c.requires.stand c.at-group.ensures in
    record { ready = c.requires.layer.ready; level_is = child.level_is }

pub dim_there-dim-requires-clause-dim : goal.dim_there-dim-requires-clause-dim
dim_there-dim-requires-clause-dim c = (child_is c.args.layer.now c.args.cursor c.at-group.result.now c.requires.layer c.requires.stand c.at-group.ensures).dim_is

pub dim_there-dim-requires-clause-read : goal.dim_there-dim-requires-clause-read
dim_there-dim-requires-clause-read c = group_read_there c.args.layer.now c.args.cursor c.at-group.result.now c.requires.layer c.requires.stand c.at-group.ensures

pub row-requires : goal.row-requires
row-requires c = (child_is c.args.layer.now c.args.cursor c.at-group.result.now c.requires.layer c.requires.stand c.at-group.ensures).within

pub overflow_add-result : goal.overflow_add-result
overflow_add-result c =
    let l = c.args.layer.now in
    let known = level_ready l.layout.now l.number l.level.now c.requires.layer.ready c.requires.layer.level_is in
    omega (arith, known.few, c.requires.last)

pub returns-clause-inner : goal.returns-clause-inner
returns-clause-inner c =
    let child = child_is c.args.layer.now c.args.cursor c.at-group.result.now c.requires.layer c.requires.stand c.at-group.ensures in
    record { ready = c.requires.layer.ready; level_is = child.level_is }

pub returns-clause-stand : goal.returns-clause-stand
returns-clause-stand c =
    let number = next_child c.args.layer.now c.args.cursor c.at-group.result.now c.requires.layer c.requires.stand c.at-group.ensures c.row.result.now c.row.ensures in
    last_stands c.args.layer.now c.args.cursor c.row.result.now.end c.args.cursor.at (omega (arith, c.requires.last)) c.requires.stand.near number

pub returns-clause-seen : goal.returns-clause-seen
returns-clause-seen c =
    last_seen c.args.layer.now c.args.cursor c.at-group.result.now c.requires.layer c.requires.stand c.at-group.ensures c.dim_there-dim.result c.dim_there-dim.ensures.told
    (omega (arith, c.requires.last)) c.row.result.now.end c.args.cursor.at
