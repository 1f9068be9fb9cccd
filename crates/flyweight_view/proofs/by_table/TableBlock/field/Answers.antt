use Rattle.std.proofs.Common.{length, refl}
use Rattle.std.proofs.lemmas.Option.{slice_get_read}
use Rattle.flyweight_view.proofs.by_table.TableBlock.field.Goals as goal

pub slice_bounds-bytes-end : goal.slice_bounds-bytes-end
slice_bounds-bytes-end c =
    let row = c.in_ok-row.row.now in
    let rows = c.args.self.now.fields.now in
    let got = c.in_ok-row.ensures.lookup in
    let at = slice_get_read rows (length rows) c.args.i row refl got.3.0 got.1 in
    (c.requires c.args.i row at c.if-row.false).near

pub returns : goal.returns
returns c = λ s is.
    let row = c.in_ok-row.row.now in
    let rows = c.args.self.now.fields.now in
    let got = c.in_ok-row.ensures.lookup in
    let at = slice_get_read rows (length rows) c.args.i row refl got.3.0 got.1 in
    (is.fields_at c.args.i row at c.if-row.false).shows
