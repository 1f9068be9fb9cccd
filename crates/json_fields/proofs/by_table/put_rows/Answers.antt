use Rattle.std.proofs.Common.{◌≡◌, ◌-◌, ◌+◌, ◌∷◌, ◌++◌, [], map, refl, sym, ap, ◌∙◌, arith, length, drop, take, get_or}
use Rattle.std.proofs.lemmas.List.{drop_all, take_rest}
use Rattle.printers.proofs.Printing.{reprinted}
use Rattle.json_rows.specs.Pieces.{Slot}
use Rattle.json_rows.specs.Tables.{slots_of, value_of}
use Rattle.json_fields.proofs.RowsText.{goes_first, goes_next, goes_over, row_here}
use Rattle.json_fields.proofs.by_table.put_rows.Goals as goal

pub loop-row-init : goal.loop-row-init
loop-row-init g c = record { are = c.requires.table.rows; fit = c.requires.fits; goes = goes_first refl }

pub put_lead-requires : goal.put_lead-requires
put_lead-requires g c =
    let here = row_here (length c.args.table.now.bytes.items) (length c.args.block.now) c.loop-row.row-index c.args.table.now.rows.items c.row-item.result
    (omega (arith, ap length c.as_slice-row-items.ensures.value)) (c.row-item.is ∙ ap (λ rs. get_or rs c.loop-row.row-index c.row-item.result) c.as_slice-row-items.ensures.value)
    c.loop-row.invariant.are c.loop-row.invariant.fit in
    omega (arith, here.text.ordered, here.text.within, ap length c.as_slice.ensures.value)

pub put_row-requires-clause-row : goal.put_row-requires-clause-row
put_row-requires-clause-row g c = (row_here (length c.args.table.now.bytes.items) (length c.args.block.now) c.loop-row.row-index c.args.table.now.rows.items c.row-item.result
    (omega (arith, ap length c.as_slice-row-items.ensures.value)) (c.row-item.is ∙ ap (λ rs. get_or rs c.loop-row.row-index c.row-item.result) c.as_slice-row-items.ensures.value)
    c.loop-row.invariant.are c.loop-row.invariant.fit).text.row

pub put_row-requires-clause-codes : goal.put_row-requires-clause-codes
put_row-requires-clause-codes g c = (row_here (length c.args.table.now.bytes.items) (length c.args.block.now) c.loop-row.row-index c.args.table.now.rows.items c.row-item.result
    (omega (arith, ap length c.as_slice-row-items.ensures.value)) (c.row-item.is ∙ ap (λ rs. get_or rs c.loop-row.row-index c.row-item.result) c.as_slice-row-items.ensures.value)
    c.loop-row.invariant.are c.loop-row.invariant.fit).text.codes

pub put_row-requires-clause-fits : goal.put_row-requires-clause-fits
put_row-requires-clause-fits g c = (row_here (length c.args.table.now.bytes.items) (length c.args.block.now) c.loop-row.row-index c.args.table.now.rows.items c.row-item.result
    (omega (arith, ap length c.as_slice-row-items.ensures.value)) (c.row-item.is ∙ ap (λ rs. get_or rs c.loop-row.row-index c.row-item.result) c.as_slice-row-items.ensures.value)
    c.loop-row.invariant.are c.loop-row.invariant.fit).fits

pub loop-row-preserved : goal.loop-row-preserved
loop-row-preserved g c =
    let bytes = c.args.table.now.bytes.items in
    let rows = c.args.table.now.rows.items in
    let i = c.loop-row.row-index in
    let r = c.row-item.result in
    let rest = drop (i + 1) rows in
    let here = row_here (length c.args.table.now.bytes.items) (length c.args.block.now) c.loop-row.row-index c.args.table.now.rows.items c.row-item.result
    (omega (arith, ap length c.as_slice-row-items.ensures.value)) (c.row-item.is ∙ ap (λ rs. get_or rs c.loop-row.row-index c.row-item.result) c.as_slice-row-items.ensures.value)
    c.loop-row.invariant.are c.loop-row.invariant.fit in
    let slot : Slot = record { before = take (r.end - r.start) (drop r.start bytes); kind = r.value.kind; place = r.value.place } in
    let literal = reprinted (ap (λ b. take (r.end - r.start) (drop r.start b)) c.as_slice.ensures.value) c.put_lead.ensures in
    record {
      are = here.are;
      fit = here.fit;
      goes = goes_next (slots_of bytes (map value_of (drop i rows)) (drop i rows)) (slots_of bytes (map value_of rest) rest) slot (ap (λ rs. slots_of bytes (map value_of rs) rs) here.next)
          c.loop-row.invariant.goes literal c.put_row.ensures;
    }

pub returns : goal.returns
returns g c = λ known text h.
    let bytes = c.args.table.now.bytes.items in
    let rows = c.args.table.now.rows.items in
    let i = c.loop-row.row-index in
    let done : drop i rows ≡ [] = drop_all i rows (omega (arith, ap length c.as_slice-row-items.ensures.value)) in
    let written = reprinted (take_rest c.deref.result.now c.args.table.now.last ∙ ap (drop c.args.table.now.last) c.deref.ensures.value) c.put.ensures in
    goes_over (slots_of bytes (map value_of (drop i rows)) (drop i rows)) (drop c.args.table.now.last bytes) (ap (λ rs. slots_of bytes (map value_of rs) rs) done) c.loop-row.invariant.goes written known text h.0 h.1 h.2
