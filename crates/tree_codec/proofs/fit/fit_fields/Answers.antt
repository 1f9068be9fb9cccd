use Rattle.std.proofs.Common.{Some, length, ap, ◌∙◌, arith}
use Rattle.tree_codec.proofs.FieldMisfits.{field_ready, field_refused, field_passed, no_field}
use Rattle.tree_codec.proofs.fit.fit_fields.Goals as goal

pub fits_kind-requires : goal.fits_kind-requires
fits_kind-requires c = record { ready = (field_ready c.args.fields.now c.loop-i.i c.at.result.now c.requires.ready c.at.ensures).order }

pub under-requires : goal.under-requires
under-requires c =
    let ready = field_ready c.args.fields.now c.loop-i.i c.at.result.now c.requires.ready c.at.ensures in
    omega (arith, ready.order.within.height, c.if-not-fits_kind.ensures.low, ap length c.take.ensures.path)

pub returns-then-not-fits_kind-clause-told : goal.returns-then-not-fits_kind-clause-told
returns-then-not-fits_kind-clause-told c =
    field_refused c.loop-i.i c.args.fields.now c.args.values.now c.at.result.now c.at-in-loop-i.result.now c.at.ensures c.at-in-loop-i.ensures c.take.new.self c.under.new.self
    (ap Some c.take.ensures.told ∙ c.if-not-fits_kind.ensures.told) c.under.ensures
    ∙ c.loop-i.invariant

pub returns-then-not-fits_kind-clause-low : goal.returns-then-not-fits_kind-clause-low
returns-then-not-fits_kind-clause-low c = λ no.
    let ready = field_ready c.args.fields.now c.loop-i.i c.at.result.now c.requires.ready c.at.ensures in
    omega (arith, ready.order.within.height, c.if-not-fits_kind.ensures.low, ap length c.take.ensures.path, ap (λ u. length u.path) c.under.ensures)

pub loop-i-preserved : goal.loop-i-preserved
loop-i-preserved c =
    field_passed c.loop-i.i c.args.fields.now c.args.values.now c.at.result.now c.at-in-loop-i.result.now c.at.ensures c.at-in-loop-i.ensures c.if-not-fits_kind.ensures.told ∙ c.loop-i.invariant

pub returns-clause-told : goal.returns-clause-told
returns-clause-told c =
    no_field c.loop-i.i c.args.fields.now c.args.values.now (omega (arith, c.loop-i-test.false, c.shorter-i-end.ensures, c.len.ensures, c.len-2.ensures)) ∙ c.loop-i.invariant
