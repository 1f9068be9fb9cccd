use Rattle.std.proofs.Common.{◌≡◌, ◌∷◌, ◌+◌, [], true, refl, sym, ap, ◌∙◌, subst, arith, drop}
use Rattle.std.proofs.lemmas.List.{drop_all}
use Rattle.std.specs.Prelude.{codes}
use Rattle.sbe_types.specs.Places.{begin_of, end_past}
use Rattle.schema_facts.specs.Measured.{AreNarrowFields}
use Rattle.json_rows.specs.Texts.{key_of}
use Rattle.json_rows.specs.Pieces.{literal, kind_pieces, field_pieces, pieces_between}
use Rattle.json_rows.proofs.Growing.{still_goes, goes_first, goes_next, goes_over, regrown, grows_then, from_nothing}
use Rattle.flat_rows.proofs.RowsJudged.{there, first_of}
use Rattle.json_rows.proofs.make.text_rows_of.Goals as goal

pub loop-field-init : goal.loop-field-init
loop-field-init c = record { order = c.requires.order; narrow = c.requires.narrow; goes = goes_first _ }

pub loop-field-preserved : goal.loop-field-preserved
loop-field-preserved c =
    let all = c.args.fields.now in
    let i = c.loop-field.field-index in
    let f = c.field-item.result in
    let end = c.loop-field.end in
    let so_far = c.loop-field.invariant in
    let next : drop i all ≡ f ∷ drop (i + 1) all = there all i f (omega arith) c.field-item.is in
    let narrow = subst (AreNarrowFields end) next so_far.narrow in
    let key = regrown (ap (λ name. literal (key_of c.loop-field.later name) ∷ []) c.as_slice.ensures) c.in_ok-add_key.ensures in
    let from_front : 0 + c.begin_of.result ≡ c.begin_of.result = omega arith in
    let value = regrown (ap (kind_pieces f.kind) (from_front ∙ c.begin_of.ensures)) c.in_ok-add_kind.ensures in
    let on = goes_next (literal (key_of c.loop-field.later f.name)) (kind_pieces f.kind (begin_of end f.offset)) (field_pieces true (end_past end f.offset f.kind) (drop (i + 1) all)) _ _
    (ap (field_pieces c.loop-field.later end) next) so_far.goes key value in
    record {
      order = (first_of _ all i f (omega arith) c.field-item.is so_far.order).1;
      narrow = subst (λ e. AreNarrowFields e (drop (i + 1) all)) (sym c.end_after-past.ensures) narrow.2;
      goes = still_goes (ap (λ e. field_pieces true e (drop (i + 1) all)) (sym c.end_after-past.ensures)) on;
    }

pub returns : goal.returns
returns c =
    let all = c.args.fields.now in
    let done : drop c.loop-field.field-index all ≡ [] = drop_all c.loop-field.field-index all (omega arith) in
    let fields = goes_over (literal (codes "}")) _ _ (ap (field_pieces c.loop-field.later c.loop-field.end) done) c.loop-field.invariant.goes c.in_ok-add_bytes-2.ensures in
    let grows = grows_then c.in_ok-add_bytes.ensures (grows_then fields c.in_ok-add_bytes-3.ensures) in
    from_nothing _ _ (pieces_between c.args.before.now c.args.after.now all) c.new.ensures.items c.new-2.ensures.items grows refl
