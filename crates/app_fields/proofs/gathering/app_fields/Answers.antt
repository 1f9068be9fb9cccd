use Rattle.std.proofs.Common.{◌++◌, [], slice_get, sym, ap, arith, ◌∙◌}
use Rattle.bridge_terms.specs.Parts.{application_fields}
use Rattle.field_judge.specs.Fields.{fields_of}
use Rattle.app_fields.proofs.Values.{all_kept, held, kept_on}
use Rattle.app_fields.proofs.gathering.app_fields.Goals as goal

pub keep-requires-clause-order : goal.keep-requires-clause-order
keep-requires-clause-order c =
    (held c.args.text.now [] c.requires.fields c.loop-i.i c.field.result c.requires.text_is (ap (λ t. slice_get t c.loop-i.i) (sym c.requires.table_is) ∙ c.field.ensures)).order

pub keep-requires-clause-within : goal.keep-requires-clause-within
keep-requires-clause-within c =
    (held c.args.text.now [] c.requires.fields c.loop-i.i c.field.result c.requires.text_is (ap (λ t. slice_get t c.loop-i.i) (sym c.requires.table_is) ∙ c.field.ensures)).within

pub loop-i-init : goal.loop-i-init
loop-i-init c = λ fields lists text_is table_is passed. ap (λ xs. fields_of xs ++ application_fields lists fields) c.new-own.ensures.items

pub loop-i-preserved : goal.loop-i-preserved
loop-i-preserved c = λ fields lists text_is table_is passed.
    let h = held c.args.text.now [] fields c.loop-i.i c.field.result text_is (ap (λ t. slice_get t c.loop-i.i) (sym table_is) ∙ c.field.ensures) in
    kept_on lists fields c.loop-i.i h.field (fields_of c.loop-i.own.items) (fields_of c.keep.new.own.items) (application_fields lists fields) h.there
    (c.in_ok-keep.ensures h.field lists h.tag h.value passed) (c.loop-i.invariant fields lists text_is table_is passed)

pub returns : goal.returns
returns c = λ fields lists text_is table_is passed.
    all_kept lists c.args.table.now fields c.loop-i.i (fields_of c.loop-i.own.items) (application_fields lists fields) table_is (omega (arith, c.len-i-end.ensures.same, c.loop-i-test.false))
    (c.loop-i.invariant fields lists text_is table_is passed)
