use Rattle.std.proofs.Common.{◌≡◌, subst}
use Rattle.std.specs.Prelude.{IfOk}
use Rattle.sbe_types.specs.declared.schema.Level.{out-Level}
use Rattle.sbe_wire.specs.Faults.{message_named}
use Rattle.version_project.specs.Sought.{Finds}
use Rattle.version_project.proofs.AddedWalk.{message_below, message_none}
use Rattle.version_project.proofs.added.added_of.Goals as goal

pub returns-in-None : goal.returns-in-None
returns-in-None c =
    message_none c.args.version c.args.new.now c.args.olds.now
    (subst (Finds c.args.olds.now (message_named 0 (out-Level c.args.new.now).id c.args.olds.now)) c.in-None.is c.message_of.ensures)

pub returns-in_ok-path-in-Some : goal.returns-in_ok-path-in-Some
returns-in_ok-path-in-Some c =
    subst (λ w. IfOk c.inside.result (λ d. d ≡ w))
    (message_below c.args.version c.args.new.now c.args.olds.now _ _
    (subst (Finds c.args.olds.now (message_named 0 (out-Level c.args.new.now).id c.args.olds.now)) c.in-Some.is c.message_of.ensures) c.in_ok-path-in-Some.ensures)
    c.inside.ensures
