use Rattle.std.proofs.Common.{[], refl, ap, arith, drop}
use Rattle.sbe_types.specs.declared.message.Block.{out-Block}
use Rattle.tree_json.specs.Lines.{field_entry}
use Rattle.printers.proofs.Printing.{then_prints, reprinted, prints_nothing}
use Rattle.json_values.proofs.Entries.{goes_on, ends_so}
use Rattle.tree_json.proofs.ViewSteps.{part_at, there_at, value_next, view_over}
use Rattle.tree_json.proofs.block.put_fields.Goals as goal

pub loop-i-init : goal.loop-i-init
loop-i-init g c = ([], prints_nothing, refl)

pub loop-i-preserved : goal.loop-i-preserved
loop-i-preserved g c =
    let so_far = c.loop-i.invariant in
    let fields = c.args.block.now.fields in
    let values = (out-Block c.args.block.now.block).fields in
    let f = part_at fields c.loop-i.i (omega (arith, ap (λ r. r.0) c.counts-count.ensures)) in
    let v = there_at values c.loop-i.i c.put_field-later.ensures.there in
    let next = value_next field_entry c.loop-i.later c.loop-i.i fields values f.0 v.0 f.1 v.1 in
    (_, then_prints so_far.1 (c.put_field-later.ensures.text f.0 v.0 f.1 v.1), rw (c.put_field-later.ensures.later f.0 v.0 f.1 v.1) (goes_on so_far.0 _ _ _ _ next so_far.2))

pub returns : goal.returns
returns g c =
    let so_far = c.loop-i.invariant in
    let fields = c.args.block.now.fields in
    let values = (out-Block c.args.block.now.block).fields in
    let none = view_over field_entry c.loop-i.later c.loop-i.i fields (drop c.loop-i.i values) (omega (arith, ap (λ r. r.0) c.counts-count.ensures)) in
    reprinted (ends_so so_far.0 _ _ _ none so_far.2) (then_prints so_far.1 c.put.ensures)
