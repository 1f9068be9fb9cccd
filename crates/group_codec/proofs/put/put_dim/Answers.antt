use Rattle.std.proofs.Common.{◌≡◌, subst}
use Rattle.std.specs.Prelude.{Some}
use Rattle.sbe_wire.specs.Canonical.{dimension_numbers, named_bytes}
use Rattle.group_codec.proofs.DimPuts.{row_says}
use Rattle.group_codec.proofs.put.put_dim.Goals as goal

pub put_dim_row-requires-clause-block : goal.put_dim_row-requires-clause-block
put_dim_row-requires-clause-block c =
    (row_says c.args.layout.now c.args.group c.row.result.now c.in-Some.row c.args.block c.args.count _ c.requires.checked c.row.ensures c.in-Some.is c.requires.group).block_is

pub put_dim_row-requires-clause-count : goal.put_dim_row-requires-clause-count
put_dim_row-requires-clause-count c =
    (row_says c.args.layout.now c.args.group c.row.result.now c.in-Some.row c.args.block c.args.count _ c.requires.checked c.row.ensures c.in-Some.is c.requires.group).count_is

pub returns : goal.returns
returns c = λ dim at.
    let says = row_says c.args.layout.now c.args.group c.row.result.now c.in-Some.row c.args.block c.args.count _ c.requires.checked c.row.ensures c.in-Some.is c.requires.group in
    let both = says.is dim at in
    subst (λ o. named_bytes o (dimension_numbers c.args.block c.args.count) 0 dim ≡ Some c.put_dim_row.new.out) c.order.ensures (c.put_dim_row.ensures dim both.0 both.1)
