use Rattle.std.proofs.Common.{sym, ◌∙◌}
use Rattle.std.specs.Prelude.{slice_get}
use Rattle.field_lookup.proofs.NumberThere.{number_there}
use Rattle.field_lookup.proofs.values.has_number.Goals as goal

pub returns-in-Here : goal.returns-in-Here
returns-in-Here c =
    c.is_number_kind.ensures ∙ sym (number_there c.in-Some.field (slice_get c.args.block.now.block.fields c.args.i) c.in-Some.ensures.shows c.in-Here.ensures)
