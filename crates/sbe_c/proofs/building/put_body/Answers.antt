use Rattle.std.proofs.Common.{◌≡◌, length, rules}
use Rattle.misfit_laws.proofs.Ways.{misfit_way}
use Rattle.tree_codec.specs.Sized.{sized_err}
use Rattle.sbe_c.specs.Outcomes.{outcome}
use Rattle.sbe_c.proofs.Built.{misfit_put}
use Rattle.sbe_c.proofs.building.put_body.Goals as goal

pub tell_misfit-requires : goal.tell_misfit-requires
tell_misfit-requires c =
    misfit_way c.args.layout.now c.args.message.now c.in-Ok.buffer.limit (sized_err c.in-Err.why) c.schema-schema.ensures.order c.requires c.in-Err.ensures.told

pub returns : goal.returns
returns c =
    let room : c.in-Ok.buffer.limit ≡ length c.args.body.now = search rules in
    misfit_put c.tell_misfit.result c.args.layout.now c.args.message.now c.in-Ok.buffer.limit (sized_err c.in-Err.why) (outcome c.args.body.now c.args.body.now c.tell_misfit.new.report)
    (outcome c.args.path.now c.tell_misfit.new.path c.tell_misfit.new.report) c.in-Err.ensures.told room c.tell_misfit.ensures
