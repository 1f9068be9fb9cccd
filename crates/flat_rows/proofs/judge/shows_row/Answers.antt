use Rattle.std.proofs.Common.{◌≡◌, ◌-◌, arith, take, drop, subst}
use Rattle.sbe_types.specs.declared.kind.Order.TheVariants.{Little}
use Rattle.sbe_types.specs.Places.{width}
use Rattle.flat_rows.specs.BlockChecks.{ShowsSome}
use Rattle.flat_rows.proofs.judge.shows_row.Goals as goal

pub returns : goal.returns
returns c = λ yes.
    let row = c.args.row.now in
    let wide : row.end - row.place ≡ width row.kind = omega (arith, c.requires.row.end) in
    subst (λ w. ShowsSome Little c.args.known row.kind (take w (drop row.place c.args.block.now))) wide (c.shows_value.ensures yes)
