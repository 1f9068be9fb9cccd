use Rattle.std.proofs.Common.{ap, sym, ◌∙◌, take}
use Rattle.std.specs.Prelude.{codes}
use Rattle.body_walk.specs.Heads.{head_number}
use Rattle.body_walk.proofs.Bodies.{root_level}
use Rattle.body_walk.proofs.LevelsReady.{level_ready}
use Rattle.body_walk.proofs.ReadyTold.{ready_schema}
use Rattle.flyweight_view.specs.TypedBlocks.{typed_level}
use Rattle.flyweight_view.proofs.Roots.{BlockPlace, root_at, read_own}
use Rattle.flyweight_view.proofs.view.root_of.Goals as goal

pub new-requires : goal.new-requires
new-requires c =
    let schema = c.args.layout.now in
    let body = c.args.body.now in
    let w = c.args.walked.now in
    let level = w.level.now in
    let is = c.requires in
    let size = is.block_is ∙ ap (λ n. head_number schema (codes "blockLength") (take n body)) (sym c.header_row.ensures.width) in
    let spot : BlockPlace = record { mode = w.mode; at = c.header_row.result.now.width; size = w.start.block } in
    let ready = ready_schema schema c.schema-schema.ensures.order in
    let level_is = root_level schema w.template w.root level is.root_is is.read.level_is in
    let lies = root_at schema level body w.template w.start.version is.read spot is.mode_is c.header_row.ensures.width size in
    let own = read_own _ _ lies.reads.0 lies.reads.1 in
    record {
      plan_is = record { ready = ready; level_is = level_is };
      placed = (level_ready schema w.root level ready level_is).placed;
      reaches = lies.reaches;
      near = lies.near;
      reads = (lies.reads.0, own.0);
    }

pub returns : goal.returns
returns c =
    let schema = c.args.layout.now in
    let body = c.args.body.now in
    let w = c.args.walked.now in
    let level = w.level.now in
    let is = c.requires in
    let size = is.block_is ∙ ap (λ n. head_number schema (codes "blockLength") (take n body)) (sym c.header_row.ensures.width) in
    let spot : BlockPlace = record { mode = w.mode; at = c.header_row.result.now.width; size = w.start.block } in
    let lies = root_at schema level body w.template w.start.version is.read spot is.mode_is c.header_row.ensures.width size in
    c.new.ensures ∙ ap (typed_level level) (read_own _ _ lies.reads.0 lies.reads.1).1
