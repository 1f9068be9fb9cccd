use Rattle.std.proofs.Common.{◌≡◌, ◌≤◌, ◌<◌, length, rules, refl, sym, subst, ◌∙◌, arith}
use Rattle.typed_writer.specs.States.{AppendsEntries}
use Rattle.typed_writer.specs.Steps.{GroupRefused, Groups, ends, next_group}
use Rattle.library_examples.specs.Orders.{PutsLegs}
use Rattle.library_examples.proofs.OrderBytes.{legs_next, legs_written}
use Rattle.library_examples.proofs.OrderFits.{legs_fit, legs_on}
use Rattle.library_examples.proofs.OrderRoom.{if_err, legs_few, legs_never_refused, next_has_room, walk_ends, walk_goes_on}
use Rattle.library_examples.proofs.orders.write_legs.Goals as goal

pub end-requires-clause-state : goal.end-requires-clause-state
end-requires-clause-state c = subst (λ s. AppendsEntries s c.loop-quantity.entries.buf.now) (sym c.loop-quantity.invariant.layout) c.loop-quantity.invariant.state

pub returns-after-loop-quantity-clause-bytes : goal.returns-after-loop-quantity-clause-bytes
returns-after-loop-quantity-clause-bytes c =
    let schema = c.args.layout.now in
    let legs = c.args.legs.now in
    let old = c.args.tail.now.buf.now in
    let opened = c.in-Ok-group.entries.buf.now in
    let i = c.loop-quantity.quantity-index in
    let many : c.in-Ok.count ≡ length legs = search rules in
    let groups = subst (λ k. Groups schema k old opened) many c.in-Ok-group.ensures.ok in
    let over : length legs ≤ i = omega (arith, c.loop-quantity-test.false, c.loop-quantity.auto.quantity-index-end) in
    let last = c.loop-quantity.entries.buf.now in
    legs_written schema c.requires.ready c.requires.schema legs i old opened last (ends last) c.requires.at groups over c.loop-quantity.invariant.left refl
    ∙ search rules

pub returns-after-loop-quantity-clause-fits : goal.returns-after-loop-quantity-clause-fits
returns-after-loop-quantity-clause-fits c =
    let schema = c.args.layout.now in
    let legs = c.args.legs.now in
    let old = c.args.tail.now.buf.now in
    let opened = c.in-Ok-group.entries.buf.now in
    let i = c.loop-quantity.quantity-index in
    let many : c.in-Ok.count ≡ length legs = search rules in
    let groups = subst (λ k. Groups schema k old opened) many c.in-Ok-group.ensures.ok in
    let over : length legs ≤ i = omega (arith, c.loop-quantity-test.false, c.loop-quantity.auto.quantity-index-end) in
    legs_fit schema legs i old opened c.requires.at groups over c.loop-quantity.invariant.fits

pub loop-quantity-preserved : goal.loop-quantity-preserved
loop-quantity-preserved c =
    let schema = c.args.layout.now in
    let legs = c.args.legs.now in
    let i = c.loop-quantity.quantity-index in
    let now = c.loop-quantity.entries.buf.now in
    let new = c.write_leg.new.entries.buf.now in
    let is = c.in_ok-write_leg-in-Ok-group.ensures in
    let low : i < length legs = omega (arith, c.loop-quantity-test.true, c.loop-quantity.auto.quantity-index-end) in
    let many : c.in-Ok.count ≡ length legs = search rules in
    let groups = subst (λ k. Groups schema k c.args.tail.now.buf.now c.in-Ok-group.entries.buf.now) many c.in-Ok-group.ensures.ok in
    record {
      same = search rules;
      layout = search rules;
      state = search rules;
      at = search rules;
      left = legs_next schema c.requires.ready c.requires.schema legs i _ c.in-Ok-group.entries.buf.now.bytes now.bytes new.bytes low (search rules) is.bytes c.loop-quantity.invariant.left;
      walk = λ has. walk_goes_on schema c.requires.ready c.requires.schema legs c.args.tail.now.buf.now c.requires.at has c.in-Ok-group.entries.buf.now groups i now (c.loop-quantity.invariant.walk has) _ new low (search rules) (search rules) is.puts;
      fits = legs_on schema legs i _ low (search rules) is.fits c.loop-quantity.invariant.fits;
    }

pub returns-in_default-clause-refused : goal.returns-in_default-clause-refused
returns-in_default-clause-refused c = λ has. c.in_default.ensures (legs_few c.args.layout.now c.requires.ready c.requires.schema c.args.legs.now c.args.tail.now.buf.now c.requires.at has)

pub returns-in_err-write_leg-in-Ok-group-clause-refused : goal.returns-in_err-write_leg-in-Ok-group-clause-refused
returns-in_err-write_leg-in-Ok-group-clause-refused c =
    let schema = c.args.layout.now in
    let legs = c.args.legs.now in
    let old = c.args.tail.now.buf.now in
    let opened = c.in-Ok-group.entries.buf.now in
    let i = c.loop-quantity.quantity-index in
    let many : c.in-Ok.count ≡ length legs = search rules in
    let groups = subst (λ k. Groups schema k old opened) many c.in-Ok-group.ensures.ok in
    let low : i < length legs = omega (arith, c.loop-quantity-test.true, c.loop-quantity.auto.quantity-index-end) in
    if_err c.from_residual.result (λ has.
    c.in_err-write_leg-in-Ok-group.ensures.refused (next_has_room schema c.requires.ready c.requires.schema legs old c.requires.at has opened groups i c.loop-quantity.entries.buf.now (c.loop-quantity.invariant.walk has) _ low (search rules)))

pub returns-after-loop-quantity-clause-puts : goal.returns-after-loop-quantity-clause-puts
returns-after-loop-quantity-clause-puts c =
    let schema = c.args.layout.now in
    let legs = c.args.legs.now in
    let old = c.args.tail.now.buf.now in
    let opened = c.in-Ok-group.entries.buf.now in
    let i = c.loop-quantity.quantity-index in
    let many : c.in-Ok.count ≡ length legs = search rules in
    let groups = subst (λ k. Groups schema k old opened) many c.in-Ok-group.ensures.ok in
    let over : length legs ≤ i = omega (arith, c.loop-quantity-test.false, c.loop-quantity.auto.quantity-index-end) in
    let all : length legs ≡ i = omega (arith, over, c.loop-quantity.auto.quantity-index-end) in
    let last = c.loop-quantity.entries.buf.now in
    λ has.
    let puts = walk_ends schema c.requires.ready c.requires.schema legs old c.requires.at has opened groups i last (c.loop-quantity.invariant.walk has) (ends last) all refl in
    subst (PutsLegs schema legs old) (search rules) puts

pub returns-in-Err-clause-refused : goal.returns-in-Err-clause-refused
returns-in-Err-clause-refused c =
    let schema = c.args.layout.now in
    let legs = c.args.legs.now in
    let old = c.args.tail.now.buf.now in
    let many : c.in-Ok.count ≡ length legs = search rules in
    λ has.
    legs_never_refused schema c.requires.ready c.requires.schema legs old c.requires.at has c.in-Err.e (subst (λ k. GroupRefused schema (next_group schema old.frames) k old c.in-Err.e) many c.in-Err.ensures.refused)
