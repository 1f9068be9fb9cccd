use Rattle.std.proofs.Common.{subst}
use Rattle.std.specs.Prelude.{length}
use Rattle.build_command.specs.Build.{built_reply}
use Rattle.build_command.proofs.Building.{is_built}
use Rattle.build_command.proofs.Replied.{built_parts}
use Rattle.build_command.specs.Builds.{Building, IsBuildReply}
use Rattle.build_command.proofs.build.BuilderLineCommand.answer.Goals as goal

pub returns-clause-replied : goal.returns-clause-replied
returns-clause-replied g c =
    let building : Building = record { schema = c.self.inside.target; frame = c.self.inside.frame } in
    let reply = built_reply building.schema building.frame c.args.kept.now.items c.args.line.now in (
      reply,
      subst (λ (b : Building). IsBuildReply b c.args.kept.now c.args.line.now reply) c.self.view_is (is_built building.schema building.frame c.args.kept.now.items c.args.line.now c.self.invariant.0),
      built_parts (length c.args.line.now) building.schema building.frame c.args.kept.now.items c.args.line.now,
      c.answer_built.ensures.answers building.frame c.self.invariant.2,
    )
