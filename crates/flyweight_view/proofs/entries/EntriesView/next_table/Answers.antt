use Rattle.std.proofs.Common.{sym, subst, ◌∙◌}
use Rattle.std.proofs.Common.{drop}
use Rattle.body_walk.specs.inner.Cursor.{entries_read}
use Rattle.flyweight_view.specs.inner.Planned.{block_of}
use Rattle.flyweight_view.specs.TypedBlocks.{typed_level}
use Rattle.flyweight_view.specs.ByTable.{IsTableBlock}
use Rattle.flyweight_view.proofs.Nexts.{flat_is}
use Rattle.flyweight_view.proofs.entries.EntriesView.next_table.Goals as goal

pub returns-in-Some-clause-taken : goal.returns-in-Some-clause-taken
returns-in-Some-clause-taken c =
    let l = c.self.inside.layer in
    let d = c.self.inside.left in
    let flat = flat_is l.mode l.level.now (sym c.if-not-is_flat.ensures) in
    let entry = typed_level l.level.now (block_of (entries_read l.mode l.level.now d.block (drop d.after l.body.now))) in
    record {
      entry = entry;
      table = subst (IsTableBlock c.in-Some.block) c.first_entry-entry.ensures c.in-Some.ensures;
      groups = flat.groups;
      parts = flat.parts;
      first = sym c.self.view_is ∙ c.flat_behind-self-inside.ensures.seen;
    }
