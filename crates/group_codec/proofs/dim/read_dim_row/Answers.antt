use Rattle.std.proofs.Common.{◌≡◌, ◌+◌, ◌-◌, false, true, take, drop, pos, sym, ap, ◌∙◌, arith, rules, FitsSigned}
use mir.Syntax.{w128}
use Rattle.std.proofs.lemmas.Int.{to_z-of_z}
use Rattle.sbe_types.specs.Shown.{admits}
use Rattle.layout_tables.specs.Heads.{number_at}
use Rattle.layout_tables.specs.Rowed.{as_spot}
use Rattle.group_codec.proofs.DimRows.{refused, admitted}
use Rattle.group_codec.proofs.dim.read_dim_row.Goals as goal

pub returns-then-not-admits-clause-told : goal.returns-then-not-admits-clause-told
returns-then-not-admits-clause-told c dim is =
    let row = c.args.row.now in
    let bytes = c.args.bytes.now in
    let count = c.number_at-count.result in
    let same : c.args.at + row.width - c.args.at ≡ row.width = omega arith in
    let out : c.admits.result ≡ false = search rules in
    let fits : FitsSigned w128 (pos count) = search rules in
    refused c.args.order row dim is bytes c.args.at count (omega arith)
    (c.number_at-count.ensures ∙ ap (λ w. number_at c.args.order (as_spot row.count) (take w (drop c.args.at bytes))) same)
    (sym out ∙ c.admits.ensures ∙ ap (admits row.count.leaf) (to_z-of_z w128 (pos count) fits))

pub returns-clause-told : goal.returns-clause-told
returns-clause-told c dim is =
    let row = c.args.row.now in
    let bytes = c.args.bytes.now in
    let block = c.number_at-block.result in
    let count = c.number_at-count.result in
    let same : c.args.at + row.width - c.args.at ≡ row.width = omega arith in
    let within : c.admits.result ≡ true = search rules in
    let fits : FitsSigned w128 (pos count) = search rules in
    admitted c.args.order row dim is bytes c.args.at block count (omega arith)
    (c.number_at-block.ensures ∙ ap (λ w. number_at c.args.order (as_spot row.block) (take w (drop c.args.at bytes))) same)
    (c.number_at-count.ensures ∙ ap (λ w. number_at c.args.order (as_spot row.count) (take w (drop c.args.at bytes))) same)
    (sym within ∙ c.admits.ensures ∙ ap (admits row.count.leaf) (to_z-of_z w128 (pos count) fits))
