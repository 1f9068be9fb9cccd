use Rattle.std.proofs.Common.{◌≡◌, None, rules, refl, sym, subst, ◌∙◌}
use mir.Syntax.{w128}
use Rattle.std.proofs.lemmas.Int.{to_z-of_z}
use Rattle.sbe_types.specs.declared.message.Value.TheVariants as value
use Rattle.typed_writer.specs.declared.stack.Frame.TheVariants.{Tail}
use Rattle.typed_writer.specs.States.{SetsFields, level_of}
use Rattle.typed_writer.specs.Steps.{SetsField, ends, misfit_at}
use Rattle.library_examples.proofs.OrderBytes.{leg_written}
use Rattle.tree_codec.proofs.FillSteps.{some_none}
use Rattle.library_examples.proofs.OrderFits.{leg_set}
use Rattle.library_examples.proofs.OrderRoom.{leg_all_set, leg_never_refused, leg_puts}
use Rattle.library_examples.proofs.orders.write_leg.Goals as goal

pub returns-in-Ok-done-clause-bytes : goal.returns-in-Ok-done-clause-bytes
returns-in-Ok-done-clause-bytes c =
    let schema = c.args.layout.now in
    let quantity = c.args.quantity in
    let opened = c.in-Ok.fields.buf.now in
    let filled = c.set.new.self.buf.now in
    let tailed = c.in-Ok-done.tail.buf.now in
    let same = c.in-Ok.ensures.layout in
    let back = to_z-of_z w128 quantity c.ranges.quantity in
    let now = subst (λ s. SetsFields s filled) same c.in-Ok-set.ensures.ready in
    let told = subst (λ q. SetsField c.in-Ok.fields.layout.now (level_of opened.frames) 0 (value.Num q) opened filled) back c.in-Ok-set.ensures.ok in
    let sets = subst (λ s. SetsField s (level_of opened.frames) 0 (value.Num quantity) opened filled) same told in
    leg_written schema c.requires.ready c.requires.schema quantity (Tail (level_of filled.frames) 0) c.args.entries.now.buf.now opened filled tailed (ends tailed) c.requires.legs c.in-Ok.ensures.ok
    c.in-Ok.ensures.ready now sets c.in-Ok-done.ensures.ok refl
    ∙ search rules

pub returns-in-Ok-done-clause-fits : goal.returns-in-Ok-done-clause-fits
returns-in-Ok-done-clause-fits c =
    let schema = c.args.layout.now in
    let quantity = c.args.quantity in
    let opened = c.in-Ok.fields.buf.now in
    let back = to_z-of_z w128 quantity c.ranges.quantity in
    let none = subst (λ q. misfit_at c.in-Ok.fields.layout.now (level_of opened.frames) 0 (value.Num q) ≡ None) back (sym c.in-Ok-set.ensures.refused) in
    leg_set schema quantity c.args.entries.now.buf.now opened c.requires.legs c.in-Ok.ensures.ok (subst (λ s. misfit_at s (level_of opened.frames) 0 (value.Num quantity) ≡ None) c.in-Ok.ensures.layout none)

pub returns-in-Err-set-clause-refused : goal.returns-in-Err-set-clause-refused
returns-in-Err-set-clause-refused c =
    let schema = c.args.layout.now in
    let quantity = c.args.quantity in
    let opened = c.in-Ok.fields.buf.now in
    let back = to_z-of_z w128 quantity c.ranges.quantity in
    λ has.
    let none = leg_never_refused schema c.requires.ready c.requires.schema quantity c.args.entries.now.buf.now c.requires.legs has opened c.in-Ok.ensures.ok in
    let own = subst (λ s. misfit_at s (level_of opened.frames) 0 (value.Num quantity) ≡ None) (sym c.in-Ok.ensures.layout) none in
    some_none (c.in-Err-set.ensures.refused ∙ subst (λ q. misfit_at c.in-Ok.fields.layout.now (level_of opened.frames) 0 (value.Num q) ≡ None) (sym back) own)

pub returns-in-Err-done-clause-refused : goal.returns-in-Err-done-clause-refused
returns-in-Err-done-clause-refused c =
    let schema = c.args.layout.now in
    let quantity = c.args.quantity in
    let opened = c.in-Ok.fields.buf.now in
    let filled = c.set.new.self.buf.now in
    let same = c.in-Ok.ensures.layout in
    let back = to_z-of_z w128 quantity c.ranges.quantity in
    let now = subst (λ s. SetsFields s filled) same c.in-Ok-set.ensures.ready in
    let told = subst (λ q. SetsField c.in-Ok.fields.layout.now (level_of opened.frames) 0 (value.Num q) opened filled) back c.in-Ok-set.ensures.ok in
    let sets = subst (λ s. SetsField s (level_of opened.frames) 0 (value.Num quantity) opened filled) same told in
    λ has.
    some_none (sym c.in-Err-done.ensures.unset
    ∙ leg_all_set schema c.requires.ready c.requires.schema quantity c.args.entries.now.buf.now c.requires.legs has opened c.in-Ok.ensures.ok filled c.in-Ok.ensures.ready now sets)

pub returns-in-Ok-done-clause-puts : goal.returns-in-Ok-done-clause-puts
returns-in-Ok-done-clause-puts c =
    let schema = c.args.layout.now in
    let quantity = c.args.quantity in
    let opened = c.in-Ok.fields.buf.now in
    let filled = c.set.new.self.buf.now in
    let tailed = c.in-Ok-done.tail.buf.now in
    let same = c.in-Ok.ensures.layout in
    let back = to_z-of_z w128 quantity c.ranges.quantity in
    let now = subst (λ s. SetsFields s filled) same c.in-Ok-set.ensures.ready in
    let told = subst (λ q. SetsField c.in-Ok.fields.layout.now (level_of opened.frames) 0 (value.Num q) opened filled) back c.in-Ok-set.ensures.ok in
    let sets = subst (λ s. SetsField s (level_of opened.frames) 0 (value.Num quantity) opened filled) same told in
    λ has.
    let puts = leg_puts schema c.requires.ready c.requires.schema quantity c.args.entries.now.buf.now c.requires.legs has opened c.in-Ok.ensures.ok filled c.in-Ok.ensures.ready now sets tailed (ends tailed) c.in-Ok-done.ensures.ok refl in
    search rules
