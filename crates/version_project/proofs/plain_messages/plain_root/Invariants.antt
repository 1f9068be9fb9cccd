use Rattle.std.proofs.Common.{◌≡◌, drop}
use Rattle.sbe_types.specs.declared.message.Block.{out-Block}
use Rattle.sbe_types.specs.declared.schema.Level.{out-Level}
use Rattle.version_project.specs.IsPlain.{root_groups_pass}
use Rattle.version_project.proofs.plain_messages.plain_root.Given as goal

abbrev pub invariant-loop-i : goal.invariant-loop-i
invariant-loop-i l =
    root_groups_pass l.version (out-Level l.level).parts (out-Block l.block).parts (drop l.i (out-Level l.level).groups) (drop l.i (out-Block l.block).groups)
    ≡ root_groups_pass l.version (out-Level l.level).parts (out-Block l.block).parts (out-Level l.level).groups (out-Block l.block).groups
