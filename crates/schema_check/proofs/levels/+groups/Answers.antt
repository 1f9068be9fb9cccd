use Rattle.schema_rules.specs.Resolved.{Within}
use Rattle.schema_check.proofs.LevelRows.{pushed_group}
use Rattle.schema_check.proofs.levels.+groups.Goals as goal

pub push_group-returns-in_ok-resolve_group-in-Group : goal.push_group-returns-in_ok-resolve_group-in-Group
push_group-returns-in_ok-resolve_group-in-Group t c = λ rest.
    let within : Within = record { types = c.args.resolver.now; since = c.args.since } in
    pushed_group c.push.result c.push.new.self c.args.groups.now rest c.in_ok-resolve_group-in-Group.field-0 within c.args.part.now c.in-Group.g
    c.push.ensures.ok c.in-Group.is c.in_ok-resolve_group-in-Group.ensures
