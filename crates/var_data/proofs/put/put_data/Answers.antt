use Rattle.std.proofs.Common.{subst}
use Rattle.field_bytes.specs.Laid.{IsPut}
use Rattle.var_data.specs.Laid.{counted_bytes}
use Rattle.var_data.proofs.Parts.{part_ready, end_told, piece_put, on_ok}
use Rattle.var_data.proofs.put.put_data.Goals as goal

pub put_data_of-requires-clause-ready : goal.put_data_of-requires-clause-ready
put_data_of-requires-clause-ready c =
    part_ready c.args.layout.now c.args.part c.part_place-place.result c.row-row.result.now c.part_place-place.ensures c.row-row.ensures c.index.result.now c.requires.checked c.index.ensures

pub returns-clause-told : goal.returns-clause-told
returns-clause-told c =
    end_told c.args.layout.now c.args.part c.part_place-place.result c.row-row.result.now c.part_place-place.ensures c.row-row.ensures c.index.result.now _ _ c.args.at _ c.index.ensures c.put_data_of.ensures.told

pub returns-clause-put : goal.returns-clause-put
returns-clause-put c =
    on_ok c.put_data_of.result
    (λ put. piece_put c.args.layout.now c.args.part c.part_place-place.result c.row-row.result.now c.part_place-place.ensures c.row-row.ensures c.index.result.now c.args.bytes.now c.args.out.now _ c.args.at c.index.ensures
    (subst (λ o. IsPut (counted_bytes o c.index.result.now.length.prim c.args.bytes.now) c.args.at c.args.out.now c.put_data_of.new.out) c.order.ensures put))
    c.put_data_of.ensures.put
