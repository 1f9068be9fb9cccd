use Rattle.std.proofs.Common.{[], Some, refl, ap, sym, ◌∙◌, subst, arith}
use Rattle.flyweight_view.specs.Deep.{deepest_in}
use Rattle.json_rows.proofs.Growing.{own_table}
use Rattle.tree_json.specs.Texts.{block_pieces, AreTextsOfAll}
use Rattle.tree_json.proofs.HeadText.{texts_fit}
use Rattle.tree_json.specs.Lines.{items_by}
use Rattle.json_values.specs.Plain.{plain_items}
use Rattle.tree_json.specs.Views.{block_object}
use Rattle.json_values.proofs.Entries.{goes_on, item_next}
use Rattle.printers.proofs.Printing.{then_prints, prints_nothing}
use Rattle.tree_json.proofs.block.put_flat_entries.Goals as goal

pub entries-init : goal.entries-init
entries-init g c = record { low = omega arith; texts = c.requires; goes = record { done = []; printed = prints_nothing; whole = refl } }

pub put_flat_entry-requires-clause-table : goal.put_flat_entry-requires-clause-table
put_flat_entry-requires-clause-table g c =
    let taken = c.in-Some.ensures.taken in
    let texts = (subst (AreTextsOfAll (Some c.args.texts.now)) taken.first c.entries.invariant.texts).0 in
    own_table (block_pieces taken.entry) _ texts.fields

pub put_flat_entry-requires-clause-fits : goal.put_flat_entry-requires-clause-fits
put_flat_entry-requires-clause-fits g c =
    let taken = c.in-Some.ensures.taken in
    let texts = (subst (AreTextsOfAll (Some c.args.texts.now)) taken.first c.entries.invariant.texts).0 in
    texts_fit c.in-Some.block taken.entry taken.table _ texts.fields

pub entries-preserved : goal.entries-preserved
entries-preserved g c =
    let so_far = c.entries.invariant in
    let later = c.entries.later in
    let taken = c.in-Some.ensures.taken in
    let rest = c.next_table.new.self in
    let next = sym (ap (λ es. plain_items later (items_by block_object es)) taken.first ∙ item_next later (block_object taken.entry) (items_by block_object rest)) in
    let texts = subst (AreTextsOfAll (Some c.args.texts.now)) taken.first so_far.texts in
    let one = c.put_flat_entry.ensures c.in-Some.block taken.entry refl taken.table texts.0.fields taken.groups taken.parts in
    record {
      low = omega (arith, so_far.low, ap deepest_in taken.first);
      texts = texts.1;
      goes = record {
        done = _;
        printed = then_prints so_far.goes.printed one;
        whole = goes_on so_far.goes.done _ _ _ _ next so_far.goes.whole;
      };
    }
