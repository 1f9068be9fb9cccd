use Rattle.std.proofs.Common.{rules, ◌≡◌, false, ap, ◌∙◌}
use Rattle.sbe_types.specs.declared.message.Block.{out-Block}
use Rattle.sbe_types.specs.declared.schema.Level.{out-Level}
use Rattle.sbe_types.specs.Places.{is_const}
use Rattle.typed_writer.specs.States.{level_of}
use Rattle.tree_codec.proofs.FillSteps.{constant_holds, fits_at, never_refused, own_field, some_none, value_holds}
use Rattle.tree_codec.proofs.fills.set_field.Goals as goal

pub unreachable-requires : goal.unreachable-requires
unreachable-requires c =
    let schema = c.args.layout.now in
    let level = c.args.level.now in
    let block = c.args.block.now in
    let held = c.args.buf.now in
    let f = c.at.result.now in
    let v = c.at-value.result.now in
    let moves : is_const f.kind ≡ false = search rules in
    let fits = fits_at 0 (out-Level level).fields (out-Block block).fields c.args.i f v c.requires.fits c.at.ensures c.at-value.ensures in
    let here = own_field schema level block c.args.i held c.requires.schema c.requires.level f c.at.ensures in
    some_none (c.in-Err.ensures.refused ∙ never_refused schema (level_of held.frames) c.args.i f v here moves fits)

pub returns-in-Const-clause-next : goal.returns-in-Const-clause-next
returns-in-Const-clause-next c =
    let level = c.args.level.now in
    let block = c.args.block.now in
    let f = c.at.result.now in
    let v = c.at-value.result.now in
    let fits = fits_at 0 (out-Level level).fields (out-Block block).fields c.args.i f v c.requires.fits c.at.ensures c.at-value.ensures in
    constant_holds c.args.layout.now level block c.args.i c.args.buf.now c.requires.schema c.requires.level f v c.at.ensures c.at-value.ensures (ap is_const c.in-Const.is) fits

pub returns-in-Ok-clause-next : goal.returns-in-Ok-clause-next
returns-in-Ok-clause-next c =
    value_holds c.args.layout.now c.args.level.now c.args.block.now c.args.i c.args.buf.now c.requires.schema c.requires.level c.at-value.result.now c.set.new.self c.requires.state c.at-value.ensures c.in-Ok.ensures.ok
