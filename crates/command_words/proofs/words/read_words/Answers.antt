use Rattle.std.proofs.Common.{map, string_bytes, sym, ◌∙◌}
use Rattle.command_words.specs.Words.{fits, rows}
use Rattle.command_words.proofs.WordForms.{passed_over}
use Rattle.command_words.proofs.words.read_words.Goals as goal

pub loop-place-preserved : goal.loop-place-preserved
loop-place-preserved c =
    passed_over (λ row. fits row (map (λ word. string_bytes word) c.args.words.now)) rows c.loop-place.place c.row_at-row.result c.row_at-row.ensures (sym c.fits.ensures ∙ c.if-fits.false)
    ∙ c.loop-place.invariant
