use Rattle.std.proofs.Common.{◌∙◌}
use Rattle.back_levels.proofs.Grouped.{begins, without_first}
use Rattle.back_levels.proofs.groups.delimiter_of.Goals as goal

pub returns-in-len1-up : goal.returns-in-len1-up
returns-in-len1-up c = λ s h. c.plain_tag.ensures ∙ begins _ s c.args.places.now h c.in-len1-up.len_at_least

pub returns-in-empty : goal.returns-in-empty
returns-in-empty c = λ s h. without_first s c.args.places.now h c.in-empty.len_below
