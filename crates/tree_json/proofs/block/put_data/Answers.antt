use Rattle.std.proofs.Common.{[], refl, ap, sym, ◌∙◌, arith, length}
use Rattle.std.specs.Prelude.{codes}
use Rattle.std.specs.Prelude.{false, slice_get}
use Rattle.std.specs.Option.{option_map}
use Rattle.sbe_types.specs.declared.message.Block.{out-Block}
use Rattle.sbe_types.specs.declared.schema.DataField.{DataField}
use Rattle.json_values.specs.Values.{text_data, zipped}
use Rattle.json_values.specs.Plain.{entry_text, entries_text}
use Rattle.tree_json.specs.Views.{bytes_entry}
use Rattle.printers.proofs.Printing.{then_prints, reprinted, prints_nothing}
use Rattle.json_values.proofs.Entries.{goes_on, ends_so}
use Rattle.tree_json.proofs.Views.{parts_are}
use Rattle.tree_json.proofs.ViewSteps.{part_of, view_next, view_over}
use Rattle.tree_json.proofs.block.put_data.Goals as goal

pub loop-i-init : goal.loop-i-init
loop-i-init g c = record { count = omega (arith, c.parts-parts.ensures.count); written = ([], prints_nothing, refl) }

pub loop-i-preserved : goal.loop-i-preserved
loop-i-preserved g c =
    let so_far = c.loop-i.invariant in
    let later = c.loop-i.later in
    let parts = c.args.block.now.parts in
    let part = part_of (λ (p : DataField). p.name) (slice_get parts c.loop-i.i) c.data_name.result.now c.data_name.ensures in
    let bytes = option_map (λ b. b.now) c.next_part.result in
    let next = view_next bytes_entry later c.loop-i.i parts part.0 bytes c.next_part.new.self c.loop-i.parts part.1 c.next_part.ensures in
    let one = reprinted (ap (λ name. entry_text later (name, option_map text_data bytes)) (sym part.2)) c.put_part-later.ensures.text in
    record {
      count = omega (arith, so_far.count, ap length c.next_part.ensures);
      written = (_, then_prints so_far.written.1 one, rw c.put_part-later.ensures.later (goes_on so_far.written.0 _ _ _ _ next so_far.written.2));
    }

pub returns : goal.returns
returns g c =
    let so_far = c.loop-i.invariant.written in
    let parts = c.args.block.now.parts in
    let none = view_over bytes_entry c.loop-i.later c.loop-i.i parts c.loop-i.parts (omega (arith, ap (λ r. r.2) c.counts-count.ensures)) in
    let whole = ap (λ vs. entries_text false (zipped bytes_entry parts vs)) c.parts-parts.ensures.seen ∙ ap (entries_text false) (parts_are parts (out-Block c.args.block.now.block).parts) in
    then_prints c.put.ensures (reprinted (ends_so so_far.0 (codes "}") _ _ none so_far.2 ∙ whole) (then_prints so_far.1 c.put-2.ensures))
