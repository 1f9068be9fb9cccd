use Rattle.std.proofs.Common.{sym, ◌∙◌}
use Rattle.std.specs.Prelude.{slice_get}
use Rattle.field_lookup.proofs.TextThere.{text_there}
use Rattle.field_lookup.proofs.values.has_text.Goals as goal

pub returns-in-Here : goal.returns-in-Here
returns-in-Here c =
    c.is_text_kind.ensures ∙ sym (text_there c.in-Some.field (slice_get c.args.block.now.block.fields c.args.i) c.in-Some.ensures.shows c.in-Here.ensures)
