use Rattle.std.proofs.Common.{sym, ap, ◌∙◌}
use Rattle.std.specs.Prelude.{slice_get}
use Rattle.std.proofs.lemmas.Option.{slice_get_past}
use Rattle.printers.proofs.Printing.{prints_nothing, reprinted}
use Rattle.way_texts.specs.WayTexts.{data_name}
use Rattle.way_texts.proofs.put.put_data_name.Goals as goal

pub returns-in-None : goal.returns-in-None
returns-in-None g c =
    let none = ap (λ xs. slice_get xs c.args.i) (sym c.as_slice.ensures) ∙ slice_get_past c.as_slice.result.now c.args.i c.in-None.ensures.lookup.3 in
    reprinted (ap data_name (sym none)) prints_nothing
