use Rattle.std.proofs.Common.{◌≡◌, ◌+◌, [], ◌∷◌, false, true, length, drop, get_or, option_map, Some, None, refl, sym, ap, subst, arith, length-drop, length-set, ◌∙◌}
use Rattle.id_tables.specs.Places.{place_of}
use Rattle.bridge_terms.specs.Parts.{pieces_of}
use Rattle.bridge_terms.specs.Plans.{tags}
use Rattle.bridge_terms.specs.WayBack.{first}
use Rattle.field_judge.specs.Fields.{fields_of}
use Rattle.field_judge.specs.Levels.{piece_wrong, IsLevel}
use Rattle.field_judge.specs.Marked.{Marked}
use Rattle.field_judge.specs.Refusals.{refusal_of}
use Rattle.field_judge.proofs.Cutting.{IsFront}
use Rattle.field_judge.proofs.Finding.{not_there}
use Rattle.field_judge.proofs.SliceLemmas.{got}
use Rattle.field_judge.proofs.Judging.{count_refused, drop_both, group_told, if_ok, pieces_step, run_refused, told_none, told_some, value_told}
use Rattle.field_judge.proofs.Marks.{as_many_marks, mark_more, mark_of, none_marked, unplaced}
use Rattle.field_judge.proofs.Rows.{as_many, row_found}
use Rattle.field_judge.proofs.Telling.{told_repeated, told_row, told_unknown, wrong_after}
use Rattle.field_judge.proofs.judge.+judge.Goals as goal

-- ---- parts

pub judge_part-returns-in-Value : goal.judge_part-returns-in-Value
judge_part-returns-in-Value t c = λ p is.
    value_told c.args.levels.now p c.args.row.now c.in-Value.value c.args.text.now (fields_of c.args.run.now) _ is c.in-Value.is c.text_wrong.ensures

pub judge_part-returns-in-Group : goal.judge_part-returns-in-Group
judge_part-returns-in-Group t c = if_ok c.judge_group.result _ _
    (λ told h p is. group_told c.args.levels.now p c.args.row.now c.in-Group.group c.args.text.now (fields_of c.args.run.now) (option_map refusal_of told) is c.in-Group.is h) c.judge_group.ensures

pub judge_group-returns-in-Err : goal.judge_group-returns-in-Err
judge_group-returns-in-Err t c = λ g inner own begins counts there level numbered.
    count_refused g (piece_wrong inner) c.args.group.now.count c.args.tag c.args.text.now (fields_of c.args.run.now) c.read_count.result c.in-Err.why counts c.read_count.ensures c.in-Err.is

pub judge_group-returns-then-not-is_run : goal.judge_group-returns-then-not-is_run
judge_group-returns-then-not-is_run t c = λ g inner own begins counts there level numbered.
    run_refused g (piece_wrong inner) c.args.group.now.count c.args.group.now.delimiter c.args.tag c.args.text.now (fields_of c.args.run.now) c.read_count.result c.in-Ok.n counts begins
    c.read_count.ensures c.in-Ok.is (sym c.is_run.ensures ∙ c.if-not-is_run.true)

-- ---- fields

pub judge_fields-fields-init : goal.judge_fields-fields-init
judge_fields-fields-init t c = record {
  shorter = omega arith;
  size = ap length c.in_ok-marks.ensures ∙ as_many_marks c.len.result ∙ c.len.ensures;
  told = λ p level numbered. ([], subst (λ m. Marked (tags p) m []) (sym c.in_ok-marks.ensures) (none_marked (tags p) c.len.result), refl);
}

pub judge_fields-returns-in_default : goal.judge_fields-returns-in_default
judge_fields-returns-in_default t c = λ p level numbered.
    let so_far = c.fields.invariant.told p level numbered in
    let field = c.first-field.result in
    let many = ap length level.tags ∙ as_many c.args.levels.now p c.args.level.now.rows level.rows in
    let none : place_of field.tag (tags p) ≡ None = ap (place_of field.tag) (sym level.tags) ∙ sym (c.place_in.ensures.place many) ∙ c.in_default.is in
    sym (told_unknown p so_far.0 c.fields.left.now field numbered c.first-field.ensures (unplaced (tags p) c.fields.marks.items so_far.0 field.tag so_far.1 none) (not_there field.tag (tags p) 0 none)) ∙ so_far.2

pub judge_fields-returns-then-is_marked : goal.judge_fields-returns-then-is_marked
judge_fields-returns-then-is_marked t c = λ p level numbered.
    let so_far = c.fields.invariant.told p level numbered in
    let field = c.first-field.result in
    let many = ap length level.tags ∙ as_many c.args.levels.now p c.args.level.now.rows level.rows in
    let place : place_of field.tag (tags p) ≡ Some c.in-Some.place = ap (place_of field.tag) (sym level.tags) ∙ sym (c.place_in.ensures.place many) ∙ c.in-Some.is in
    sym (told_repeated p so_far.0 c.fields.left.now field numbered c.first-field.ensures
    (mark_of (tags p) c.fields.marks.items so_far.0 field.tag c.in-Some.place true so_far.1 place (ap (λ ms. get_or ms c.in-Some.place false) (sym c.as_slice.ensures.value) ∙ sym c.is_marked.ensures ∙ c.if-is_marked.true)))
    ∙ so_far.2

pub judge_fields-returns-in-Some-2 : goal.judge_fields-returns-in-Some-2
judge_fields-returns-in-Some-2 t c = λ p level numbered.
    let so_far = c.fields.invariant.told p level numbered in
    let field = c.first-field.result in
    let rest = c.rest_from-rest.result.now in
    let n = c.run_len-many.result in
    let row = c.at-row.result.now in
    let many = ap length level.tags ∙ as_many c.args.levels.now p c.args.level.now.rows level.rows in
    let place : place_of field.tag (tags p) ≡ Some c.in-Some.place = ap (place_of field.tag) (sym level.tags) ∙ sym (c.place_in.ensures.place many) ∙ c.in-Some.is in
    let new = mark_of (tags p) c.fields.marks.items so_far.0 field.tag c.in-Some.place false so_far.1 place (ap (λ ms. get_or ms c.in-Some.place false) (sym c.as_slice.ensures.value) ∙ sym c.is_marked.ensures ∙ c.if-is_marked.false) in
    let found = row_found c.args.levels.now p c.args.level.now.rows field.tag c.in-Some.place row numbered level.rows place c.at-row.ensures in
    let step = told_row p so_far.0 c.fields.left.now field n row.tag rest c.front.result.now (option_map refusal_of c.in_ok-refused.field-0) numbered c.first-field.ensures new c.rest_from-rest.ensures c.front.ensures found.0
    (c.run_len-many.ensures.run c.args.levels.now p found.1) (c.run_len-many.ensures.rest c.args.levels.now p found.1) (c.in_ok-refused.ensures p found.1) in
    sym (told_some c.in_ok-refused.field-0 c.in-Some-2.refused (wrong_after p (field.tag ∷ so_far.0) (drop n rest)) c.in-Some-2.is) ∙ sym step ∙ so_far.2

pub judge_fields-fields-preserved : goal.judge_fields-fields-preserved
judge_fields-fields-preserved t c =
    let rest = c.rest_from-rest.result.now in
    let n = c.run_len-many.result in
    let within = c.in-Some.ensures.within in
    record {
      shorter = omega (arith, c.fields.invariant.shorter, ap length c.rest_from-left.ensures, length-drop n rest, ap length c.rest_from-rest.ensures, length-drop 1 c.fields.left.now);
      size = length-set c.fields.marks.items c.in-Some.place true ∙ c.fields.invariant.size;
      told = λ p level numbered.
          let so_far = c.fields.invariant.told p level numbered in
          let field = c.first-field.result in
          let row = c.at-row.result.now in
          let many = ap length level.tags ∙ as_many c.args.levels.now p c.args.level.now.rows level.rows in
          let place : place_of field.tag (tags p) ≡ Some c.in-Some.place = ap (place_of field.tag) (sym level.tags) ∙ sym (c.place_in.ensures.place many) ∙ c.in-Some.is in
          let new = mark_of (tags p) c.fields.marks.items so_far.0 field.tag c.in-Some.place false so_far.1 place (ap (λ ms. get_or ms c.in-Some.place false) (sym c.as_slice.ensures.value) ∙ sym c.is_marked.ensures ∙ c.if-is_marked.false) in
          let found = row_found c.args.levels.now p c.args.level.now.rows field.tag c.in-Some.place row numbered level.rows place c.at-row.ensures in
          let step = told_row p so_far.0 c.fields.left.now field n row.tag rest c.front.result.now (option_map refusal_of c.in_ok-refused.field-0) numbered c.first-field.ensures new c.rest_from-rest.ensures c.front.ensures found.0
          (c.run_len-many.ensures.run c.args.levels.now p found.1) (c.run_len-many.ensures.rest c.args.levels.now p found.1) (c.in_ok-refused.ensures p found.1) in (
            field.tag ∷ so_far.0,
            mark_more (tags p) c.fields.marks.items so_far.0 field.tag c.in-Some.place so_far.1 place (omega (arith, c.fields.invariant.size, within)),
            ap (wrong_after p (field.tag ∷ so_far.0)) c.rest_from-left.ensures
                ∙ sym (told_none c.in_ok-refused.field-0 (wrong_after p (field.tag ∷ so_far.0) (drop n rest)) c.in_default-2.is) ∙ sym step ∙ so_far.2,
          );
    }

-- ---- pieces

pub judge_pieces-pieces-preserved : goal.judge_pieces-pieces-preserved
judge_pieces-pieces-preserved t c =
    let d = c.args.group.now.delimiter in
    let left = c.pieces.left.now in
    let n = c.piece_len-many.result in
    let is : IsFront d (drop 1 left) n = subst (λ r. IsFront d r n) c.rest_from.ensures (c.piece_len-many.ensures.front, c.piece_len-many.ensures.pieces, c.piece_len-many.ensures.next) in
    record {
      shorter = omega (arith, c.pieces.invariant.shorter, ap length c.rest_from-left.ensures, length-drop (1 + n) left);
      front = ap (λ r. (pieces_of d (fields_of r)).front) (c.rest_from-left.ensures ∙ sym (drop_both n left)) ∙ is.2;
      told = λ inner own there level numbered.
          let x = got left 0 (omega (arith, c.pieces-test.true)) in
          let same = c.in-Some.ensures own there in
          let told = c.in_ok-refused.ensures inner (subst (IsLevel c.args.levels.now inner) (sym same) level) numbered ∙ ap (λ r. piece_wrong inner (fields_of r)) c.front.ensures in
          let step = pieces_step d (piece_wrong inner) left x.0 n (option_map refusal_of c.in_ok-refused.field-0) x.1 c.pieces.invariant.front is told in
          ap (λ r. first (piece_wrong inner) (pieces_of d (fields_of r)).pieces) c.rest_from-left.ensures
          ∙ sym (told_none c.in_ok-refused.field-0 (first (piece_wrong inner) (pieces_of d (fields_of (drop (1 + n) left))).pieces) c.in_default-2.is) ∙ sym step
          ∙ c.pieces.invariant.told inner own there level numbered;
    }
