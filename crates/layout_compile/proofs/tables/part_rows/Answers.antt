use Rattle.std.proofs.Common.{◌++◌, ◌∷◌, [], sym, ap, ◌∙◌, arith}
use Rattle.layout_tables.specs.Rowed.{part_row}
use Rattle.layout_tables.proofs.Items.{map_more}
use Rattle.layout_compile.proofs.tables.part_rows.Goals as goal

pub loop-part-preserved : goal.loop-part-preserved
loop-part-preserved c =
    c.in_ok-push.ensures.items ∙ ap (λ l. l ++ part_row c.part-item.result ∷ []) c.loop-part.invariant
    ∙ sym (map_more part_row c.args.parts.now c.loop-part.part-index c.part-item.result (omega arith) c.part-item.is)
