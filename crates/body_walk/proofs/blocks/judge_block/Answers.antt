use Rattle.std.proofs.Common.{refl, subst, sym, ap, ◌∙◌, arith, length}
use Rattle.sbe_types.specs.declared.schema.Level.{out-Level}
use Rattle.body_walk.specs.inner.Fields.{fields_check, AreFieldRows}
use Rattle.body_walk.specs.inner.Outcomes.{piece}
use Rattle.body_walk.proofs.BlockRows.{block_fits, block_good}
use Rattle.body_walk.proofs.blocks.judge_block.Goals as goal

pub shows_each-requires-clause-table : goal.shows_each-requires-clause-table
shows_each-requires-clause-table c = c.requires.row.flat_is.table_is

pub shows_each-requires-clause-fits : goal.shows_each-requires-clause-fits
shows_each-requires-clause-fits c = block_fits c.args.mode.version (length c.args.block.now) c.args.level.now c.args.row.now c.requires.row

pub returns-then-shows_each-clause-told : goal.returns-then-shows_each-clause-told
returns-then-shows_each-clause-told c = sym (block_good c.args.mode c.args.level.now c.args.row.now c.args.at c.args.block.now c.requires.row (c.if-shows_each.ensures refl))

pub judge_fields-requires-clause-rows : goal.judge_fields-requires-clause-rows
judge_fields-requires-clause-rows c =
    let k = length c.args.block.now in
    subst (λ fs. AreFieldRows c.args.mode.version k fs c.as_slice-rows.result.now) (sym c.as_slice.ensures)
    (subst (λ rs. AreFieldRows c.args.mode.version k (out-Level c.args.level.now).fields rs) (sym c.as_slice-rows.ensures.value) c.requires.row.rows)

pub judge_fields-requires-clause-few : goal.judge_fields-requires-clause-few
judge_fields-requires-clause-few c = omega (arith, c.requires.row.few, ap length c.as_slice.ensures)

pub returns-clause-told : goal.returns-clause-told
returns-clause-told c =
    let b = piece c.args.at c.args.block.now in
    c.judge_fields.ensures.told
    ∙ ap (λ fs. fields_check c.args.mode b 0 fs c.as_slice-rows.result.now) c.as_slice.ensures
    ∙ ap (λ rs. fields_check c.args.mode b 0 (out-Level c.args.level.now).fields rs) c.as_slice-rows.ensures.value
