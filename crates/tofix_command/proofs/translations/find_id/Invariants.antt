use Rattle.std.proofs.Common.{◌≡◌, drop, find}
use Rattle.dump_lines.specs.Chosen.{has_id}
use Rattle.tofix_command.specs.Planned.{layouts_of}
use Rattle.tofix_command.proofs.translations.find_id.Given as goal

-- none of the schemas so far has the id
abbrev pub invariant-loop-translation : goal.invariant-loop-translation
invariant-loop-translation l = find (has_id l.id) (layouts_of (drop l.translation-index l.translations)) ≡ find (has_id l.id) (layouts_of l.translations)
