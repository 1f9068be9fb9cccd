use Rattle.std.proofs.Common.{◌≡◌, None, FitsSigned, length, rules, sym, ap, subst, ◌∙◌}
use mir.Syntax.{w128}
use Rattle.std.proofs.lemmas.Int.{to_z-of_z}
use Rattle.sbe_types.specs.declared.message.Value.TheVariants as value
use Rattle.schema_facts.specs.Levels.{root_of}
use Rattle.body_walk.proofs.ReadyTold.{ready_schema}
use Rattle.typed_writer.specs.declared.stack.Frame.TheVariants.{Tail}
use Rattle.typed_writer.specs.States.{SetsFields, level_of}
use Rattle.typed_writer.specs.Steps.{Adds, DataRefused, SetsField, misfit_at}
use Rattle.library_examples.specs.Orders.{IsOrderSchema}
use Rattle.library_examples.proofs.OrderBytes.{order_written}
use Rattle.tree_codec.proofs.FillSteps.{some_none}
use Rattle.library_examples.proofs.OrderFits.{order_fits}
use Rattle.library_examples.proofs.OrderRoom.{if_err, legs_have_room, note_never_refused, number_never_refused, order_all_set, order_never_refused}
use Rattle.library_examples.proofs.orders.write_order.Goals as goal

pub write_legs-requires-clause-ready : goal.write_legs-requires-clause-ready
write_legs-requires-clause-ready c = ready_schema c.args.layout.now c.schema-schema.ensures.order

pub returns-in-Ok-data-clause-body : goal.returns-in-Ok-data-clause-body
returns-in-Ok-data-clause-body c =
    let schema = c.args.layout.now in
    let number = c.args.order.now.number in
    let note = c.args.order.now.note.now in
    let begun = c.in-Ok.fields.buf.now in
    let filled = c.set.new.self.buf.now in
    let mid = c.write_legs.new.tail.buf.now in
    let last = c.data.new.self.buf.now in
    let is : IsOrderSchema schema = search rules in
    let same = c.in-Ok.ensures.layout in
    let now = subst (λ s. SetsFields s filled) same c.in-Ok-set.ensures.ready in
    let fits : FitsSigned w128 number = search rules in
    let back = to_z-of_z w128 number fits in
    let told = subst (λ q. SetsField c.in-Ok.fields.layout.now (level_of begun.frames) 0 (value.Num q) begun filled) back c.in-Ok-set.ensures.ok in
    let sets = subst (λ s. SetsField s (level_of begun.frames) 0 (value.Num number) begun filled) same told in
    let layout : c.write_legs.new.tail.layout.now ≡ schema = search rules in
    let adds = subst (λ s. Adds s note mid last) layout c.in-Ok-data.ensures.ok in
    order_written schema (ready_schema schema c.schema-schema.ensures.order) is number c.args.order.now.legs.now note (Tail (level_of filled.frames) 0) c.args.buffer.now begun filled c.in-Ok-done.tail.buf.now mid last
    c.in-Ok.ensures.ok c.in-Ok.ensures.ready now sets c.in-Ok-done.ensures.ok c.in_ok-write_legs-in-Ok-done.ensures.bytes c.in_ok-write_legs-in-Ok-done.ensures.after adds
    ∙ search rules

pub returns-in-Ok-data-clause-fits : goal.returns-in-Ok-data-clause-fits
returns-in-Ok-data-clause-fits c =
    let schema = c.args.layout.now in
    let number = c.args.order.now.number in
    let note = c.args.order.now.note.now in
    let begun = c.in-Ok.fields.buf.now in
    let mid = c.write_legs.new.tail.buf.now in
    let last = c.data.new.self.buf.now in
    let is : IsOrderSchema schema = search rules in
    let fits : FitsSigned w128 number = search rules in
    let back = to_z-of_z w128 number fits in
    let given = subst (λ q. misfit_at c.in-Ok.fields.layout.now (level_of begun.frames) 0 (value.Num q) ≡ None) back (sym c.in-Ok-set.ensures.refused) in
    let own = subst (λ s. misfit_at s (level_of begun.frames) 0 (value.Num number) ≡ None) c.in-Ok.ensures.layout given in
    let none : misfit_at schema (root_of schema 0) 0 (value.Num number) ≡ None = subst (λ n. misfit_at schema n 0 (value.Num number) ≡ None) (ap level_of c.in-Ok.ensures.ok.frames) own in
    let layout : c.write_legs.new.tail.layout.now ≡ schema = search rules in
    let adds = subst (λ s. Adds s note mid last) layout c.in-Ok-data.ensures.ok in
    order_fits schema (ready_schema schema c.schema-schema.ensures.order) is number c.args.order.now.legs.now note mid.frames none c.in_ok-write_legs-in-Ok-done.ensures.fits c.in_ok-write_legs-in-Ok-done.ensures.after adds.admitted

pub returns-in-Err-clause-refused : goal.returns-in-Err-clause-refused
returns-in-Err-clause-refused c =
    let schema = c.args.layout.now in
    let ready = ready_schema schema c.schema-schema.ensures.order in
    let number = c.args.order.now.number in
    let legs = c.args.order.now.legs.now in
    let note = c.args.order.now.note.now in
    let old = c.args.buffer.now in
    λ order fits. order_never_refused schema ready order number legs note old fits c.in-Err.e c.in-Err.ensures.refused

pub returns-in-Err-set-clause-refused : goal.returns-in-Err-set-clause-refused
returns-in-Err-set-clause-refused c =
    let schema = c.args.layout.now in
    let ready = ready_schema schema c.schema-schema.ensures.order in
    let number = c.args.order.now.number in
    let legs = c.args.order.now.legs.now in
    let note = c.args.order.now.note.now in
    let old = c.args.buffer.now in
    let begun = c.in-Ok.fields.buf.now in
    let wide : FitsSigned w128 number = search rules in
    let back = to_z-of_z w128 number wide in
    λ order fits.
    let none = number_never_refused schema ready order number legs note old fits begun c.in-Ok.ensures.ok in
    let own = subst (λ s. misfit_at s (level_of begun.frames) 0 (value.Num number) ≡ None) (sym c.in-Ok.ensures.layout) none in
    some_none (c.in-Err-set.ensures.refused ∙ subst (λ q. misfit_at c.in-Ok.fields.layout.now (level_of begun.frames) 0 (value.Num q) ≡ None) (sym back) own)

pub returns-in-Err-done-clause-refused : goal.returns-in-Err-done-clause-refused
returns-in-Err-done-clause-refused c =
    let schema = c.args.layout.now in
    let ready = ready_schema schema c.schema-schema.ensures.order in
    let number = c.args.order.now.number in
    let legs = c.args.order.now.legs.now in
    let note = c.args.order.now.note.now in
    let old = c.args.buffer.now in
    let begun = c.in-Ok.fields.buf.now in
    let wide : FitsSigned w128 number = search rules in
    let back = to_z-of_z w128 number wide in
    let filled = c.set.new.self.buf.now in
    let same = c.in-Ok.ensures.layout in
    let now = subst (λ s. SetsFields s filled) same c.in-Ok-set.ensures.ready in
    let told = subst (λ q. SetsField c.in-Ok.fields.layout.now (level_of begun.frames) 0 (value.Num q) begun filled) back c.in-Ok-set.ensures.ok in
    let sets = subst (λ s. SetsField s (level_of begun.frames) 0 (value.Num number) begun filled) same told in
    λ order fits. some_none (sym c.in-Err-done.ensures.unset ∙ order_all_set schema ready order number legs note old fits begun c.in-Ok.ensures.ok filled c.in-Ok.ensures.ready now sets)

pub returns-in_err-write_legs-in-Ok-done-clause-refused : goal.returns-in_err-write_legs-in-Ok-done-clause-refused
returns-in_err-write_legs-in-Ok-done-clause-refused c =
    let schema = c.args.layout.now in
    let ready = ready_schema schema c.schema-schema.ensures.order in
    let number = c.args.order.now.number in
    let legs = c.args.order.now.legs.now in
    let note = c.args.order.now.note.now in
    let old = c.args.buffer.now in
    let begun = c.in-Ok.fields.buf.now in
    let wide : FitsSigned w128 number = search rules in
    let back = to_z-of_z w128 number wide in
    let filled = c.set.new.self.buf.now in
    let same = c.in-Ok.ensures.layout in
    let now = subst (λ s. SetsFields s filled) same c.in-Ok-set.ensures.ready in
    let told = subst (λ q. SetsField c.in-Ok.fields.layout.now (level_of begun.frames) 0 (value.Num q) begun filled) back c.in-Ok-set.ensures.ok in
    let sets = subst (λ s. SetsField s (level_of begun.frames) 0 (value.Num number) begun filled) same told in
    let tailed = c.in-Ok-done.tail.buf.now in
    if_err c.from_residual.result (λ order fits.
    c.in_err-write_legs-in-Ok-done.ensures.refused (legs_have_room schema ready order number legs note old fits begun c.in-Ok.ensures.ok filled c.in-Ok.ensures.ready now sets tailed c.in-Ok-done.ensures.ok))

pub returns-in-Err-data-clause-refused : goal.returns-in-Err-data-clause-refused
returns-in-Err-data-clause-refused c =
    let schema = c.args.layout.now in
    let ready = ready_schema schema c.schema-schema.ensures.order in
    let number = c.args.order.now.number in
    let legs = c.args.order.now.legs.now in
    let note = c.args.order.now.note.now in
    let old = c.args.buffer.now in
    let begun = c.in-Ok.fields.buf.now in
    let wide : FitsSigned w128 number = search rules in
    let back = to_z-of_z w128 number wide in
    let filled = c.set.new.self.buf.now in
    let same = c.in-Ok.ensures.layout in
    let now = subst (λ s. SetsFields s filled) same c.in-Ok-set.ensures.ready in
    let told = subst (λ q. SetsField c.in-Ok.fields.layout.now (level_of begun.frames) 0 (value.Num q) begun filled) back c.in-Ok-set.ensures.ok in
    let sets = subst (λ s. SetsField s (level_of begun.frames) 0 (value.Num number) begun filled) same told in
    let tailed = c.in-Ok-done.tail.buf.now in
    let mid = c.write_legs.new.tail.buf.now in
    let layout : c.write_legs.new.tail.layout.now ≡ schema = search rules in
    let refused = subst (λ s. DataRefused s (length note) mid c.in-Err-data.e) layout c.in-Err-data.ensures.refused in
    λ order fits.
    note_never_refused schema ready order number legs note old fits begun c.in-Ok.ensures.ok filled c.in-Ok.ensures.ready now sets tailed c.in-Ok-done.ensures.ok mid
    c.in_ok-write_legs-in-Ok-done.ensures.puts c.in_ok-write_legs-in-Ok-done.ensures.after c.in-Err-data.e refused
