use Rattle.std.proofs.Common.{◌≡◌, length, sym, subst, ap, ◌∙◌}
use Rattle.std.specs.BTreeMap.{get}
use Rattle.std.specs.Ordering.{nat_cmp}
use Rattle.schema_facts.specs.Levels.{nodes_from, all_nodes}
use Rattle.layout_tables.specs.Parts.{part_counts, firsts_from, places_from}
use Rattle.layout_compile.proofs.DataParts.{counts_of, grown_counts}
use Rattle.layout_tables.specs.Rowed.{roots_from}
use Rattle.layout_compile.specs.inner.Grown.{Grown, AreOrdered}
use Rattle.layout_tables.specs.Tables.{AreIds}
use Rattle.layout_compile.proofs.Grows.{are_rows, levels_ordered}
use Rattle.layout_compile.proofs.tables.tables_of.Goals as goal

pub push_roots-requires : goal.push_roots-requires
push_roots-requires c = subst (λ ms. AreOrdered (nodes_from 0 ms)) (sym c.as_slice.ensures) (levels_ordered c.args.schema.now c.requires)

pub returns : goal.returns
returns c =
    let schema = c.args.schema.now in
    let levels = c.push_roots.new.levels.items in
    let grown = subst (λ ls. Grown ls levels (nodes_from 0 schema.messages)) c.new-levels.ensures.items
    (subst (λ ms. Grown c.new-levels.result.items levels (nodes_from 0 ms)) c.as_slice.ensures c.in_ok-roots.ensures.rows) in
    let counts : counts_of levels ≡ part_counts (all_nodes schema) = grown_counts schema levels grown in
    record {
      checked = c.requires;
      header_is = c.header_row-header.ensures;
      rows = are_rows schema levels grown;
      roots_are = c.in_ok-roots.ensures.roots
          ∙ ap (λ ls. roots_from (length ls) 0 c.as_slice.result.now) c.new-levels.ensures.items
          ∙ ap (roots_from 0 0) c.as_slice.ensures;
      ids_are = subst (λ ms. AreIds ms (get nat_cmp c.in_ok-ids.ids)) c.as_slice-2.ensures c.in_ok-ids.ensures;
      firsts_are = c.in_ok-firsts.ensures ∙ ap (λ rows. firsts_from 0 (counts_of rows)) c.as_slice-3.ensures.value ∙ ap (firsts_from 0) counts;
      places_are = c.in_ok-places.ensures ∙ ap (λ rows. places_from 0 (counts_of rows)) c.as_slice-4.ensures.value ∙ ap (places_from 0) counts;
    }
