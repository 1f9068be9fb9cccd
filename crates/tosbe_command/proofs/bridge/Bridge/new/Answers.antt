use Rattle.tosbe_command.proofs.bridge.Bridge.new.Goals as goal

pub returns-in-Ok-clause-good : goal.returns-in-Ok-clause-good
returns-in-Ok-clause-good c = record { checked = c.schema-schema.ensures.order; kept = c.requires.kept; short = c.requires.short }
