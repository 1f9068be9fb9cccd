use Rattle.std.proofs.Common.{◌+◌, drop, get_or, option_map, sym, ap, arith, ◌∙◌}
use Rattle.bridge_terms.specs.Parts.{parts_of}
use Rattle.bridge_terms.specs.Plans.{owns}
use Rattle.bridge_terms.specs.WayBack.{first}
use Rattle.field_judge.specs.Fields.{fields_of}
use Rattle.field_judge.specs.Heads.{heads, located}
use Rattle.field_judge.specs.Refusals.{refusal_of}
use Rattle.field_judge.proofs.Judging.{if_ok, told_none, told_some}
use Rattle.field_judge.proofs.Lacking.{count_lacks, group_lacks}
use Rattle.field_judge.proofs.Locating.{head_row, heads_many, heads_step, missing_first, told_at}
use Rattle.field_judge.proofs.Rows.{as_many}
use Rattle.field_judge.proofs.SliceLemmas.{dropped, got}
use Rattle.field_judge.proofs.missing.+missing.Goals as goal

pub missing_field-returns-in-Some : goal.missing_field-returns-in-Some
missing_field-returns-in-Some t c = λ p level numbered.
    let fields = c.args.fields.now in
    let i = c.loop-i.i in
    let rows = as_many c.args.levels.now p c.args.level.now.rows level.rows in
    let h = got (heads p) i (omega (arith, heads_many p, rows, c.len-i-end.ensures, c.loop-i-test.true)) in
    let row = head_row c.args.levels.now p c.args.level.now.rows i h.0 c.at-row.result.now numbered level.rows h.1 c.at-row.ensures in
    let at = ap (located h.0 fields) (c.place_at.ensures ∙ ap (λ ps. get_or ps i 0) c.as_slice.ensures.value) ∙ c.in_ok-places.ensures.located c.args.levels.now p level numbered i h.0 h.1 in
    let step = heads_step p fields i c.place_at.result h.0 (option_map refusal_of c.in_ok-refused.field-0) h.1 (c.in_ok-refused.ensures h.0 row) at in
    sym (told_some c.in_ok-refused.field-0 c.in-Some.refused (first (told_at p fields) (drop (i + 1) (heads p))) c.in-Some.is) ∙ sym step ∙ c.loop-i.invariant p level numbered
    ∙ sym (missing_first p (parts_of (owns p) (fields_of fields)))

pub missing_field-loop-i-preserved : goal.missing_field-loop-i-preserved
missing_field-loop-i-preserved t c = λ p level numbered.
    let fields = c.args.fields.now in
    let i = c.loop-i.i in
    let rows = as_many c.args.levels.now p c.args.level.now.rows level.rows in
    let h = got (heads p) i (omega (arith, heads_many p, rows, c.len-i-end.ensures, c.loop-i-test.true)) in
    let row = head_row c.args.levels.now p c.args.level.now.rows i h.0 c.at-row.result.now numbered level.rows h.1 c.at-row.ensures in
    let at = ap (located h.0 fields) (c.place_at.ensures ∙ ap (λ ps. get_or ps i 0) c.as_slice.ensures.value) ∙ c.in_ok-places.ensures.located c.args.levels.now p level numbered i h.0 h.1 in
    let step = heads_step p fields i c.place_at.result h.0 (option_map refusal_of c.in_ok-refused.field-0) h.1 (c.in_ok-refused.ensures h.0 row) at in
    sym (told_none c.in_ok-refused.field-0 (first (told_at p fields) (drop (i + 1) (heads p))) c.in_default.is) ∙ sym step ∙ c.loop-i.invariant p level numbered

pub missing_field-returns : goal.missing_field-returns
missing_field-returns t c = λ p level numbered.
    let fields = c.args.fields.now in
    let rows = as_many c.args.levels.now p c.args.level.now.rows level.rows in
    sym (ap (first (told_at p fields)) (dropped (heads p) c.loop-i.i (omega (arith, heads_many p, rows, c.len-i-end.ensures, c.loop-i-test.false)))) ∙ c.loop-i.invariant p level numbered
    ∙ sym (missing_first p (parts_of (owns p) (fields_of fields)))

pub missing_row-returns-then-place-eq0 : goal.missing_row-returns-then-place-eq0
missing_row-returns-then-place-eq0 t c = λ h is.
    count_lacks c.args.levels.now c.args.row.now c.in-Group.group c.args.fields.now c.args.place (option_map refusal_of c.missing_count.result) h c.in-Group.is is c.if-place-eq0.true c.missing_count.ensures

pub missing_row-returns-else-place-eq0 : goal.missing_row-returns-else-place-eq0
missing_row-returns-else-place-eq0 t c = if_ok c.missing_pieces.result _ _ (λ told tells h is.
    group_lacks c.args.levels.now c.args.row.now c.in-Group.group c.args.fields.now c.rest_from-rest.result.now c.front.result.now c.args.place c.owned_len-many.result (option_map refusal_of told) h c.in-Group.is is
    (omega (arith, c.if-place-eq0.false)) c.requires.within c.rest_from-rest.ensures c.front.ensures c.owned_len-many.ensures.run tells) c.missing_pieces.ensures
