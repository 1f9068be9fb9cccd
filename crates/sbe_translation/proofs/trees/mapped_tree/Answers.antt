use Rattle.std.proofs.Common.{◌≡◌, Some, sym, ◌∙◌}
use Rattle.structure_rows.specs.Rows.{rows_of}
use Rattle.bridge_rules.proofs.OptionLemmas.{none_some, some_is}
use Rattle.plan_rows.proofs.Ruling.{turned_ok}
use Rattle.sbe_translation.proofs.Planning.{rows_there}
use Rattle.sbe_translation.proofs.trees.mapped_tree.Goals as goal

pub returns-in_default : goal.returns-in_default
returns-in_default c = λ m s tables messages mapped covered p at.
    none_some (sym c.in_default.is ∙ rows_there m c.args.level.now c.as_slice.result.now s c.in_ok-places.field-0 c.as_slice.ensures (c.in_ok-places.ensures m messages) mapped)

pub returns : goal.returns
returns c = turned_ok c.tree_by.result c.tree_by.ensures (λ tree own m s tables messages mapped covered.
    let there = rows_there m c.args.level.now c.as_slice.result.now s c.in_ok-places.field-0 c.as_slice.ensures (c.in_ok-places.ensures m messages) mapped in
    let rows : c.in-Some.places ≡ rows_of s = some_is (sym c.in-Some.is ∙ there) in
    own m s tables (c.as_slice-2.ensures ∙ rows) mapped covered)
