use Rattle.std.proofs.Common.{◌≡◌, ◌+◌, Some, None, suc, drop, length, sym, ap, subst, arith, length-drop, ◌∙◌}
use Rattle.id_tables.specs.Places.{place_of}
use Rattle.bridge_terms.specs.Parts.{rest_of}
use Rattle.bridge_terms.specs.Plans.{owns, tags}
use Rattle.field_judge.specs.Fields.{fields_of}
use Rattle.field_judge.specs.Heads.{placed}
use Rattle.field_judge.proofs.Locating.{all_located, locate_next, locate_passed, places_within, LocatesSoFar}
use Rattle.field_judge.proofs.Rows.{as_many, row_found}
use Rattle.field_judge.proofs.SliceLemmas.{dropped}
use Rattle.field_judge.proofs.missing.part_places.Goals as goal

pub fields-preserved-in-None : goal.fields-preserved-in-None
fields-preserved-in-None c = record {
  near = omega (arith, c.fields-test.true);
  size = c.fields.invariant.size;
  within = c.fields.invariant.within;
  located = λ levels p level numbered.
      let many = ap length level.tags ∙ as_many levels p c.args.level.now.rows level.rows in
      let tag = c.field_at.result.tag in
      let none : place_of tag (tags p) ≡ None = ap (place_of tag) (sym level.tags) ∙ sym (c.place_in.ensures.place many) ∙ c.in-None.is in
      locate_passed p c.fields.places.items c.args.fields.now c.fields.i c.field_at.result numbered c.field_at.ensures none (c.fields.invariant.located levels p level numbered);
}

pub fields-preserved : goal.fields-preserved
fields-preserved c =
    let next : c.fields.i + 1 ≡ suc c.fields.i = omega arith in
    let n = c.run_len.result in
    let i = c.fields.i in
    let far : i + 1 + n ≡ i + (1 + n) = omega arith in
    let rest = c.rest_from-after.result.now in
    let own = c.place_first.ensures.own ∙ ap (placed _) next in
    record {
      near = omega (arith, c.fields-test.true, c.run_len.ensures.within, ap length c.rest_from-after.ensures, length-drop (i + 1) c.args.fields.now);
      size = c.place_first.ensures.size ∙ c.fields.invariant.size;
      within = places_within c.fields.places.items c.place_first.new.places.items c.in-Some.place (suc i) (length c.args.fields.now) own c.place_first.ensures.others c.fields.invariant.within (omega (arith, c.fields-test.true));
      located = λ levels p level numbered.
          let many = ap length level.tags ∙ as_many levels p c.args.level.now.rows level.rows in
          let tag = c.field_at.result.tag in
          let place : place_of tag (tags p) ≡ Some c.in-Some.place = ap (place_of tag) (sym level.tags) ∙ sym (c.place_in.ensures.place many) ∙ c.in-Some.is in
          let found = row_found levels p c.args.level.now.rows tag c.in-Some.place c.at.result.now numbered level.rows place c.at.ensures in
          let rests = ap (λ ys. fields_of (drop n ys)) (sym c.rest_from-after.ensures) ∙ c.run_len.ensures.rest levels p found.1
          ∙ ap (λ t. rest_of (owns p) t (fields_of rest)) found.0 ∙ ap (λ ys. rest_of (owns p) tag (fields_of ys)) c.rest_from-after.ensures in
          subst (LocatesSoFar p c.place_first.new.places.items c.args.fields.now) far
          (locate_next p c.fields.places.items c.place_first.new.places.items c.args.fields.now i n c.in-Some.place c.field_at.result numbered c.field_at.ensures place rests
          own c.place_first.ensures.others (c.fields.invariant.located levels p level numbered));
    }

pub returns-clause-located : goal.returns-clause-located
returns-clause-located c = λ levels p level numbered.
    all_located p c.fields.places.items c.args.fields.now c.fields.i (dropped c.args.fields.now c.fields.i (omega (arith, c.fields-test.false))) (c.fields.invariant.located levels p level numbered)
