use Rattle.std.proofs.Common.{◌++◌, ◌∷◌, [], ◌+◌, take, drop, subst, sym, ap, ◌∙◌, arith}
use Rattle.sbe_types.specs.Places.{fields_end}
use Rattle.schema_facts.specs.Measured.{AreNarrowFields}
use Rattle.layout_tables.specs.Rowed.{FieldsAre, FieldIs}
use Rattle.layout_compile.proofs.Grows.{fields_snoc, end_snoc, field_narrow}
use Rattle.layout_tables.proofs.Items.{take_one}
use Rattle.layout_compile.proofs.tables.field_rows.Goals as goal

pub loop-field-preserved : goal.loop-field-preserved
loop-field-preserved c =
    let fields = c.args.fields.now in
    let i = c.loop-field.field-index in
    let f = c.field-item.result in
    let row = c.field_row-row.result in
    let one = take_one fields i f (omega arith) c.field-item.is in
    let is = subst (λ e. FieldIs e f row) c.loop-field.invariant.ends c.field_row-row.ensures in
    let more = fields_snoc 0 (take i fields) c.loop-field.rows.items f row c.loop-field.invariant.are is in
    let narrow = field_narrow c.loop-field.end fields i f (omega arith) c.field-item.is c.loop-field.invariant.narrow in
    record {
      ends = is.end ∙ sym (ap (fields_end 0) one ∙ end_snoc 0 (take i fields) f);
      are = subst (λ fs. FieldsAre 0 fs c.push.new.self.items) (sym one) (subst (λ rs. FieldsAre 0 (take i fields ++ f ∷ []) rs) (sym c.in_ok-push.ensures.items) more);
      narrow = subst (λ e. AreNarrowFields e (drop (i + 1) fields)) (sym c.field_row-row.ensures.end) narrow.2;
    }
