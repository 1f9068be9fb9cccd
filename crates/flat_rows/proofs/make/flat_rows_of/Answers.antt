use Rattle.std.proofs.Common.{◌≡◌, ◌∷◌, ◌+◌, [], sym, ap, ◌∙◌, subst, arith, drop}
use Rattle.std.proofs.lemmas.List.{drop_all}
use Rattle.sbe_types.specs.Places.{begin_of, end_past}
use Rattle.schema_facts.specs.Measured.{AreNarrowFields}
use Rattle.flat_rows.specs.Scalars.{kind_scalars, field_scalars, scalars_of}
use Rattle.flat_rows.proofs.Growing.{goes_first, goes_next, goes_over, still_goes, regrown, from_nothing, is_table}
use Rattle.flat_rows.proofs.RowsJudged.{there, first_of}
use Rattle.flat_rows.proofs.make.flat_rows_of.Goals as goal

pub loop-field-init : goal.loop-field-init
loop-field-init c = record { order = c.requires.order; narrow = c.requires.narrow; goes = goes_first _ }

pub loop-field-preserved : goal.loop-field-preserved
loop-field-preserved c =
    let all = c.args.fields.now in
    let i = c.loop-field.field-index in
    let f = c.field-item.result in
    let end = c.loop-field.end in
    let so_far = c.loop-field.invariant in
    let next : drop i all ≡ f ∷ drop (i + 1) all = there all i f (omega arith) c.field-item.is in
    let narrow = subst (AreNarrowFields end) next so_far.narrow in
    let from_front : 0 + c.begin_of-begin.result ≡ c.begin_of-begin.result = omega arith in
    let value = regrown (ap (kind_scalars f.kind) (from_front ∙ c.begin_of-begin.ensures)) c.in_ok-add_kind.ensures in
    let on = goes_next (kind_scalars f.kind (begin_of end f.offset)) (field_scalars (end_past end f.offset f.kind) (drop (i + 1) all)) _ _
    (ap (field_scalars end) next) so_far.goes value in
    record {
      order = (first_of _ all i f (omega arith) c.field-item.is so_far.order).1;
      narrow = subst (λ e. AreNarrowFields e (drop (i + 1) all)) (sym c.end_after-past.ensures) narrow.2;
      goes = still_goes (ap (λ e. field_scalars e (drop (i + 1) all)) (sym c.end_after-past.ensures)) on;
    }

pub returns-clause-table : goal.returns-clause-table
returns-clause-table c =
    let all = c.args.fields.now in
    let done : drop c.loop-field.field-index all ≡ [] = drop_all c.loop-field.field-index all (omega arith) in
    is_table _ _ (scalars_of all) c.new.ensures.items (goes_over _ _ (ap (field_scalars c.loop-field.end) done) c.loop-field.invariant.goes)

pub returns-clause-values : goal.returns-clause-values
returns-clause-values c =
    let all = c.args.fields.now in
    let done : drop c.loop-field.field-index all ≡ [] = drop_all c.loop-field.field-index all (omega arith) in
    from_nothing _ _ (scalars_of all) c.new.ensures.items (goes_over _ _ (ap (field_scalars c.loop-field.end) done) c.loop-field.invariant.goes)
