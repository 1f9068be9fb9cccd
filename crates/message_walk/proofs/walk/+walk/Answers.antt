use Rattle.std.proofs.Common.{◌≡◌, ◌≤◌, inl, inr, length, drop, take, ◌∷◌, false, suc, sym, ap, subst, arith, length-drop, ◌∙◌}
use Rattle.std.specs.Prelude.{map, ◌+◌}
use Rattle.std.specs.Fmt.{decimal}
use Rattle.sbe_types.specs.declared.schema.Group.{out-Group}
use Rattle.sbe_types.specs.declared.message.Block.{out-Block}
use Rattle.sbe_types.specs.declared.message.GroupVal.TheVariants as groupval
use Rattle.flyweight_view.specs.TypedBlocks.{typed_level}
use Rattle.bridge_rules.specs.Texts.{text_by}
use Rattle.bridge_terms.specs.Blocks.{values_of, value_at, entries_of, nth_or}
use Rattle.bridge_terms.specs.Places.{to_part, places_of, place_of, entries_places, run_places, slot_places}
use Rattle.message_walk.specs.Ways.{pushed}
use Rattle.bridge_terms.specs.Plans.{Each}
use Rattle.message_walk.specs.Rows.{entries_shown, entry_places, run_inside, size_of, AreRows, FitsBlock}
use Rattle.message_walk.specs.States.{after, outcome, IsPut}
use Rattle.message_walk.proofs.Steps.{step_on, step_off, in_on, in_off, entry_on, entry_off, run_in, run_on}
use Rattle.message_walk.proofs.RowLemmas.{left_slot, left_group, left_none, at_front, each_fits, first_fits}
use Rattle.message_walk.proofs.Entries.{entry_on_slot, entry_off_slot, entry_bare_slot, unbegun, nothing_written, nothing_refused}
use Rattle.message_walk.proofs.walk.+walk.Goals as goal

pub put_entries-returns-then-not-put_entry-clause-put : goal.put_entries-returns-then-not-put_entry-clause-put
put_entries-returns-then-not-put_entry-clause-put g t c = λ lists p rows fits.
    let so_far = c.loop-entry.invariant.put lists p rows fits in
    let steps : c.loop-entry.entry-iterator ≡ c.in-Some.entry ∷ c.next.new.self = c.in-Some.ensures.steps in
    let own = first_fits p c.in-Some.entry c.next.new.self c.loop-entry.entry-iterator steps so_far.0 in
    let d = c.loop-entry.out in
    let e = c.put_entry.new.out in
    let put = c.put_entry.ensures.put lists p rows own.0 in
    entry_off lists d e c.put_entry.new.halt c.under.new.self (entry_places p) c.loop-entry.number c.in-Some.entry c.next.new.self
    (subst (λ b. outcome b e c.put_entry.new.halt ≡ after lists d (entry_places p c.in-Some.entry)) c.if-not-put_entry.true put) c.under.ensures
    ∙ ap (λ es. after lists d (entries_places (entry_places p) c.loop-entry.number es)) (sym steps) ∙ so_far.1

pub put_entries-loop-entry-preserved : goal.put_entries-loop-entry-preserved
put_entries-loop-entry-preserved g t c =
    let steps : c.loop-entry.entry-iterator ≡ c.in-Some.entry ∷ c.next.new.self = c.in-Some.ensures.steps in
    let number : c.next_number-number.result ≡ c.loop-entry.number + 1 = c.next_number-number.ensures (omega (arith, c.loop-entry.invariant.numbered, ap length steps)) in
    record {
      begun = c.put_entry.ensures.open;
      numbered = omega (arith, c.loop-entry.invariant.numbered, ap length steps, number);
      put = λ lists p rows fits.
          let so_far = c.loop-entry.invariant.put lists p rows fits in
          let own = first_fits p c.in-Some.entry c.next.new.self c.loop-entry.entry-iterator steps so_far.0 in
          let d = c.loop-entry.out in
          let e = c.put_entry.new.out in
          let put = c.put_entry.ensures.put lists p rows own.0 in
          let next : c.next_number-number.result ≡ suc c.loop-entry.number = omega (arith, number) in (
            own.1,
            ap (λ n. after lists e (entries_places (entry_places p) n c.next.new.self)) next
                ∙ entry_on lists d e c.put_entry.new.halt (entry_places p) c.loop-entry.number c.in-Some.entry c.next.new.self
                (subst (λ b. outcome b e c.put_entry.new.halt ≡ after lists d (entry_places p c.in-Some.entry)) c.if-not-put_entry.false put)
                ∙ ap (λ es. after lists d (entries_places (entry_places p) c.loop-entry.number es)) (sym steps) ∙ so_far.1,
          );
    }

pub put_run-returns-clause-put : goal.put_run-returns-clause-put
put_run-returns-clause-put g t c = λ lists p unpaired rows fits.
    let es = c.args.entries in
    let d = c.args.out.now in
    let e = c.put_count.new.out in
    let many : c.len-count.result ≡ length es = c.len-count.ensures in
    let counted = subst (λ b. outcome b e c.put_count.new.halt ≡ after lists d (place_of c.args.lead.now (decimal (length es)))) c.if-not-put_count.false
    (c.put_count.ensures.put lists unpaired ∙ ap (λ n. after lists d (place_of c.args.lead.now (decimal n))) many) in
    run_on lists d e c.put_count.new.halt c.args.lead.now (entry_places p) es _ (omega (arith, many, c.if-count-eq0.false)) counted
    (c.put_entries.ensures.put lists p rows fits)

pub put_left-returns-then-not-goes_on-clause-put : goal.put_left-returns-then-not-goes_on-clause-put
put_left-returns-then-not-goes_on-clause-put g t c = λ lists p rows fits.
    let seen = c.args.block.now in
    let q = c.loop-left.invariant.put lists p rows fits in
    let row = c.first-row.result.now in
    let at = left_slot g.R.PutValue.spells lists q.0 c.loop-left.left.now row seen q.1 c.first-row.ensures (ap size_of c.in-Field.is) q.2 in
    let d = c.loop-left.out in
    let e = c.put_field-put.new.out in
    let text = text_by at.slot.rule (value_at at.slot.place seen.block) in
    let slot = slot_places row.lead text in
    step_off lists d e c.goes_on.new.halt slot (places_of at.rest (values_of at.rest seen.block))
    (subst (λ b. outcome b e c.goes_on.new.halt ≡ after lists d slot) c.if-not-goes_on.true (c.goes_on.ensures lists d e text (c.put_field-put.ensures.put lists at.slot at.is at.there)))
    ∙ ap (after lists d) (sym at.places) ∙ q.3

pub put_left-loop-left-preserved : goal.put_left-loop-left-preserved
put_left-loop-left-preserved g t c = record {
  shorter = omega (arith, c.loop-left.invariant.shorter, ap length c.rest_from-left.ensures, length-drop 1 c.loop-left.left.now);
  begun = c.put_field-put.ensures.open;
  put = λ lists p rows fits.
      let seen = c.args.block.now in
      let q = c.loop-left.invariant.put lists p rows fits in
      let row = c.first-row.result.now in
      let at = left_slot g.R.PutValue.spells lists q.0 c.loop-left.left.now row seen q.1 c.first-row.ensures (ap size_of c.in-Field.is) q.2 in
      let d = c.loop-left.out in
      let e = c.put_field-put.new.out in
      let text = text_by at.slot.rule (value_at at.slot.place seen.block) in
      let slot = slot_places row.lead text in (
        at.rest,
        subst (AreRows g.R.PutValue.spells lists at.rest) (sym c.rest_from-left.ensures) at.rows,
        at.fits,
        sym (step_on lists d e c.goes_on.new.halt slot (places_of at.rest (values_of at.rest seen.block))
            (subst (λ b. outcome b e c.goes_on.new.halt ≡ after lists d slot) c.if-not-goes_on.false (c.goes_on.ensures lists d e text (c.put_field-put.ensures.put lists at.slot at.is at.there))))
            ∙ ap (after lists d) (sym at.places) ∙ q.3,
      );
}

pub put_left-returns-in-Data-clause-put : goal.put_left-returns-in-Data-clause-put
put_left-returns-in-Data-clause-put g t c = λ lists p rows fits.
    let q = c.loop-left.invariant.put lists p rows fits in
    c.put_tail.ensures.put lists q.0 q.1 q.2 ∙ q.3

pub put_left-returns-in-Group-clause-put : goal.put_left-returns-in-Group-clause-put
put_left-returns-in-Group-clause-put g t c = λ lists p rows fits.
    let q = c.loop-left.invariant.put lists p rows fits in
    c.put_tail-in-Group.ensures.put lists q.0 q.1 q.2 ∙ q.3

pub put_left-returns-clause-put : goal.put_left-returns-clause-put
put_left-returns-clause-put g t c = λ lists p rows fits.
    let seen = c.args.block.now in
    let q = c.loop-left.invariant.put lists p rows fits in
    let none = left_none g.R.PutValue.spells lists q.0 c.loop-left.left.now seen.block q.1 (omega (arith, c.loop-left-test.false)) in
    sym (ap (after lists c.loop-left.out) none.0) ∙ q.3

pub put_rest-returns-then-not-goes_on-clause-put : goal.put_rest-returns-then-not-goes_on-clause-put
put_rest-returns-then-not-goes_on-clause-put g t c = λ lists p rows fits.
    let seen = c.args.block.now in
    let q = c.loop-left.invariant.put lists p rows fits in
    let row = c.first-row.result.now in
    let at = left_slot g.R.PutValue.spells lists q.0 c.loop-left.left.now row seen q.1 c.first-row.ensures (ap size_of c.in-Field.is) q.2 in
    let d = c.loop-left.out in
    let e = c.put_field-put.new.out in
    let text = text_by at.slot.rule (value_at at.slot.place seen.block) in
    let slot = slot_places row.lead text in
    step_off lists d e c.goes_on.new.halt slot (places_of at.rest (values_of at.rest seen.block))
    (subst (λ b. outcome b e c.goes_on.new.halt ≡ after lists d slot) c.if-not-goes_on.true (c.goes_on.ensures lists d e text (c.put_field-put.ensures.put lists at.slot at.is at.there)))
    ∙ ap (after lists d) (sym at.places) ∙ q.3

pub put_rest-loop-left-preserved-in-Field : goal.put_rest-loop-left-preserved-in-Field
put_rest-loop-left-preserved-in-Field g t c = record {
  shorter = omega (arith, c.loop-left.invariant.shorter, ap length c.rest_from-rest.ensures, length-drop 1 c.loop-left.left.now);
  reached = c.loop-left.invariant.reached;
  begun = c.put_field-put.ensures.open;
  put = λ lists p rows fits.
      let seen = c.args.block.now in
      let q = c.loop-left.invariant.put lists p rows fits in
      let row = c.first-row.result.now in
      let at = left_slot g.R.PutValue.spells lists q.0 c.loop-left.left.now row seen q.1 c.first-row.ensures (ap size_of c.in-Field.is) q.2 in
      let d = c.loop-left.out in
      let e = c.put_field-put.new.out in
      let text = text_by at.slot.rule (value_at at.slot.place seen.block) in
      let slot = slot_places row.lead text in (
        at.rest,
        subst (AreRows g.R.PutValue.spells lists at.rest) (sym c.rest_from-rest.ensures) at.rows,
        at.fits,
        sym (step_on lists d e c.goes_on.new.halt slot (places_of at.rest (values_of at.rest seen.block))
            (subst (λ b. outcome b e c.goes_on.new.halt ≡ after lists d slot) c.if-not-goes_on.false (c.goes_on.ensures lists d e text (c.put_field-put.ensures.put lists at.slot at.is at.there))))
            ∙ ap (after lists d) (sym at.places) ∙ q.3,
      );
}

pub put_rest-returns-then-not-goes_on-2-clause-put : goal.put_rest-returns-then-not-goes_on-2-clause-put
put_rest-returns-then-not-goes_on-2-clause-put g t c = λ lists p rows fits.
    let seen = c.args.block.now in
    let q = c.loop-left.invariant.put lists p rows fits in
    let row = c.first-row.result.now in
    let at = left_slot g.R.PutValue.spells lists q.0 c.loop-left.left.now row seen q.1 c.first-row.ensures (ap size_of c.in-Data.is) q.2 in
    let d = c.loop-left.out in
    let e = c.put_part-put.new.out in
    let text = text_by at.slot.rule (value_at at.slot.place seen.block) in
    let slot = slot_places row.lead text in
    step_off lists d e c.goes_on-in-Data.new.halt slot (places_of at.rest (values_of at.rest seen.block))
    (subst (λ b. outcome b e c.goes_on-in-Data.new.halt ≡ after lists d slot) c.if-not-goes_on-2.true (c.goes_on-in-Data.ensures lists d e text (c.put_part-put.ensures.put lists at.slot at.is at.there)))
    ∙ ap (after lists d) (sym at.places) ∙ q.3

pub put_rest-loop-left-preserved-in-Data : goal.put_rest-loop-left-preserved-in-Data
put_rest-loop-left-preserved-in-Data g t c = record {
  shorter = omega (arith, c.loop-left.invariant.shorter, ap length c.rest_from-rest.ensures, length-drop 1 c.loop-left.left.now);
  reached = c.put_part-put.ensures.reached;
  begun = c.put_part-put.ensures.open;
  put = λ lists p rows fits.
      let seen = c.args.block.now in
      let q = c.loop-left.invariant.put lists p rows fits in
      let row = c.first-row.result.now in
      let at = left_slot g.R.PutValue.spells lists q.0 c.loop-left.left.now row seen q.1 c.first-row.ensures (ap size_of c.in-Data.is) q.2 in
      let d = c.loop-left.out in
      let e = c.put_part-put.new.out in
      let text = text_by at.slot.rule (value_at at.slot.place seen.block) in
      let slot = slot_places row.lead text in (
        at.rest,
        subst (AreRows g.R.PutValue.spells lists at.rest) (sym c.rest_from-rest.ensures) at.rows,
        at.fits,
        sym (step_on lists d e c.goes_on-in-Data.new.halt slot (places_of at.rest (values_of at.rest seen.block))
            (subst (λ b. outcome b e c.goes_on-in-Data.new.halt ≡ after lists d slot) c.if-not-goes_on-2.false (c.goes_on-in-Data.ensures lists d e text (c.put_part-put.ensures.put lists at.slot at.is at.there))))
            ∙ ap (after lists d) (sym at.places) ∙ q.3,
      );
}

pub put_rest-returns-then-not-put_group-clause-put : goal.put_rest-returns-then-not-put_group-clause-put
put_rest-returns-then-not-put_group-clause-put g t c = λ lists p rows fits.
    let seen = c.args.block.now in
    let q = c.loop-left.invariant.put lists p rows fits in
    let row = c.first-row.result.now in
    let size = c.in-Group.size in
    let at = left_group g.R.PutValue.spells lists q.0 c.loop-left.left.now row size seen q.1 c.first-row.ensures (ap size_of c.in-Group.is) q.2 in
    let d = c.loop-left.out in
    let e = c.put_group.new.out in
    let level = (out-Group at.found).level in
    let blocks = entries_of (nth_or groupval.Absent row.number (out-Block seen.block).groups) in
    let es = map (typed_level level) blocks in
    let same : entries_shown c.entries_at-entries.result ≡ es = c.entries_at-entries.ensures.entries at.found at.there in
    let size_is : c.at_most-size.result ≡ size = c.at_most-size.ensures.same (subst (λ xs. size ≤ length xs) (sym c.rest_from-rest.ensures) at.within) in
    let own : c.front.result.now ≡ take size (drop 1 c.loop-left.left.now) = c.front.ensures ∙ ap (λ n. take n c.rest_from-rest.result.now) size_is ∙ ap (take size) c.rest_from-rest.ensures in
    let put = c.put_group.ensures.put lists at.inner at.unpaired (subst (AreRows g.R.PutValue.spells lists at.inner) (sym own) at.own_rows)
    (subst (Each (FitsBlock at.inner)) (sym same) (each_fits at.inner level blocks at.own_fits)) in
    step_off lists d e c.put_group.new.halt (run_places row.lead (entry_places at.inner) es) (places_of at.rest (values_of at.rest seen.block))
    (subst (λ b. outcome b e c.put_group.new.halt ≡ after lists d (run_places row.lead (entry_places at.inner) es)) c.if-not-put_group.true
    (put ∙ ap (λ es. after lists d (run_places row.lead (entry_places at.inner) es)) same))
    ∙ ap (after lists d) (sym at.places) ∙ q.3

pub put_rest-loop-left-preserved : goal.put_rest-loop-left-preserved
put_rest-loop-left-preserved g t c = record {
  shorter = omega (arith, c.loop-left.invariant.shorter, ap length c.rest_from-rest.ensures, ap length c.rest_from-left.ensures, length-drop 1 c.loop-left.left.now, length-drop c.at_most-size.result c.rest_from-rest.result.now);
  reached = c.entries_at-entries.ensures.reached;
  begun = c.put_group.ensures.open;
  put = λ lists p rows fits.
      let seen = c.args.block.now in
      let q = c.loop-left.invariant.put lists p rows fits in
      let row = c.first-row.result.now in
      let size = c.in-Group.size in
      let at = left_group g.R.PutValue.spells lists q.0 c.loop-left.left.now row size seen q.1 c.first-row.ensures (ap size_of c.in-Group.is) q.2 in
      let d = c.loop-left.out in
      let e = c.put_group.new.out in
      let level = (out-Group at.found).level in
      let blocks = entries_of (nth_or groupval.Absent row.number (out-Block seen.block).groups) in
      let es = map (typed_level level) blocks in
      let same : entries_shown c.entries_at-entries.result ≡ es = c.entries_at-entries.ensures.entries at.found at.there in
      let size_is : c.at_most-size.result ≡ size = c.at_most-size.ensures.same (subst (λ xs. size ≤ length xs) (sym c.rest_from-rest.ensures) at.within) in
      let own : c.front.result.now ≡ take size (drop 1 c.loop-left.left.now) = c.front.ensures ∙ ap (λ n. take n c.rest_from-rest.result.now) size_is ∙ ap (take size) c.rest_from-rest.ensures in
      let left : c.rest_from-left.result.now ≡ drop size (drop 1 c.loop-left.left.now) = c.rest_from-left.ensures ∙ ap (λ n. drop n c.rest_from-rest.result.now) size_is ∙ ap (drop size) c.rest_from-rest.ensures in
      let put = c.put_group.ensures.put lists at.inner at.unpaired (subst (AreRows g.R.PutValue.spells lists at.inner) (sym own) at.own_rows)
      (subst (Each (FitsBlock at.inner)) (sym same) (each_fits at.inner level blocks at.own_fits)) in (
        at.rest,
        subst (AreRows g.R.PutValue.spells lists at.rest) (sym left) at.rows,
        at.fits,
        sym (step_on lists d e c.put_group.new.halt (run_places row.lead (entry_places at.inner) es) (places_of at.rest (values_of at.rest seen.block))
            (subst (λ b. outcome b e c.put_group.new.halt ≡ after lists d (run_places row.lead (entry_places at.inner) es)) c.if-not-put_group.false
            (put ∙ ap (λ es. after lists d (run_places row.lead (entry_places at.inner) es)) same)))
            ∙ ap (after lists d) (sym at.places) ∙ q.3,
      );
}

pub put_rest-returns-clause-put : goal.put_rest-returns-clause-put
put_rest-returns-clause-put g t c = λ lists p rows fits.
    let seen = c.args.block.now in
    let q = c.loop-left.invariant.put lists p rows fits in
    let none = left_none g.R.PutValue.spells lists q.0 c.loop-left.left.now seen.block q.1 (omega (arith, c.loop-left-test.false)) in
    sym (ap (after lists c.loop-left.out) none.0) ∙ q.3

pub put_entry-returns-in-Written-clause-put : goal.put_entry-returns-in-Written-clause-put
put_entry-returns-in-Written-clause-put g t c = λ lists p rows fits.
    let seen = c.args.entry.now in
    let row = c.first-row.result.now in
    let d = c.args.out.now in
    let e = c.put_slot.new.out in
    let h = c.put_slot.new.halt in
    elim (at_front g.R.PutValue.spells lists p c.args.rows.now row seen rows c.first-row.ensures fits) [
      | inl at ↦
          entry_on_slot g.R.PutValue.spells lists d e h _ p row (drop 1 c.args.rows.now) seen at
          (subst (λ r. IsPut lists d row.lead (text_by at.slot.rule (value_at at.slot.place seen.block)) (record { put = r; draft = e; halt = h })) c.in-Written.is
          (c.put_slot.ensures.put lists at.slot at.is at.there))
          (c.put_left.ensures.put lists at.rest (subst (AreRows g.R.PutValue.spells lists at.rest) (sym c.rest_from.ensures) at.rows) at.fits)
      | inr bare ↦ absurd (nothing_written (sym (c.put_slot.ensures.group bare.0 bare.1).0 ∙ c.in-Written.is))
    ]

pub put_entry-returns-in-Nothing-clause-put : goal.put_entry-returns-in-Nothing-clause-put
put_entry-returns-in-Nothing-clause-put g t c = λ lists p rows fits.
    let seen = c.args.entry.now in
    let row = c.first-row.result.now in
    let d = c.args.out.now in
    let e = c.put_slot.new.out in
    let h = c.put_slot.new.halt in
    let answer = ap (λ b. outcome b e c.undelimited-in-Nothing.new.halt) c.undelimited-in-Nothing.ensures.refused in
    elim (at_front g.R.PutValue.spells lists p c.args.rows.now row seen rows c.first-row.ensures fits) [
      | inl at ↦
          answer
          ∙ entry_bare_slot g.R.PutValue.spells lists d e h c.undelimited-in-Nothing.new.halt p row (drop 1 c.args.rows.now) seen at
          (subst (λ r. IsPut lists d row.lead (text_by at.slot.rule (value_at at.slot.place seen.block)) (record { put = r; draft = e; halt = h })) c.in-Nothing.is
          (c.put_slot.ensures.put lists at.slot at.is at.there)) c.undelimited-in-Nothing.ensures.halt
      | inr bare ↦
          answer
          ∙ ap (λ e. outcome false e c.undelimited-in-Nothing.new.halt) (c.put_slot.ensures.group bare.0 bare.1).1
          ∙ unbegun lists d c.undelimited-in-Nothing.new.halt p seen c.undelimited-in-Nothing.ensures.halt bare.2
    ]

pub put_entry-returns-in-Refused-clause-put : goal.put_entry-returns-in-Refused-clause-put
put_entry-returns-in-Refused-clause-put g t c = λ lists p rows fits.
    let seen = c.args.entry.now in
    let row = c.first-row.result.now in
    let d = c.args.out.now in
    let e = c.put_slot.new.out in
    let h = c.put_slot.new.halt in
    elim (at_front g.R.PutValue.spells lists p c.args.rows.now row seen rows c.first-row.ensures fits) [
      | inl at ↦
          entry_off_slot g.R.PutValue.spells lists d e h c.under.new.self p row (drop 1 c.args.rows.now) seen at
          (subst (λ r. IsPut lists d row.lead (text_by at.slot.rule (value_at at.slot.place seen.block)) (record { put = r; draft = e; halt = h })) c.in-Refused.is
          (c.put_slot.ensures.put lists at.slot at.is at.there))
          (c.under.ensures ∙ ap (λ n. record { cause = h.cause; way = pushed (to_part n) h.way }) c.tag.ensures)
      | inr bare ↦ absurd (nothing_refused (sym (c.put_slot.ensures.group bare.0 bare.1).0 ∙ c.in-Refused.is))
    ]

pub put_group-returns-then-put_run-clause-put : goal.put_group-returns-then-put_run-clause-put
put_group-returns-then-put_run-clause-put g t c = λ lists p unpaired rows fits.
    let es = c.in-Some.entries in
    let same : entries_shown c.args.entries ≡ es = ap entries_shown c.in-Some.is in
    let d = c.args.out.now in
    let e = c.put_run.new.out in
    let h = c.put_run.new.halt in
    let inner = run_inside c.args.lead.now (entry_places p) es in
    in_on lists d e h h (to_part c.args.lead.now) inner
    (subst (λ b. outcome b e h ≡ after lists d inner) c.if-put_run.true (c.put_run.ensures.put lists p unpaired rows (subst (Each (FitsBlock p)) same fits)))
    ∙ ap (after lists d) (sym (run_in c.args.lead.now (entry_places p) es)) ∙ ap (λ es. after lists d (run_places c.args.lead.now (entry_places p) es)) (sym same)

pub put_group-returns-clause-put : goal.put_group-returns-clause-put
put_group-returns-clause-put g t c = λ lists p unpaired rows fits.
    let es = c.in-Some.entries in
    let same : entries_shown c.args.entries ≡ es = ap entries_shown c.in-Some.is in
    let d = c.args.out.now in
    let e = c.put_run.new.out in
    let h = c.put_run.new.halt in
    let inner = run_inside c.args.lead.now (entry_places p) es in
    in_off lists d e h c.under.new.self (to_part c.args.lead.now) inner
    (subst (λ b. outcome b e h ≡ after lists d inner) c.if-put_run.false (c.put_run.ensures.put lists p unpaired rows (subst (Each (FitsBlock p)) same fits)))
    (c.under.ensures ∙ ap (λ n. record { cause = h.cause; way = pushed (to_part n) h.way }) c.tag.ensures)
    ∙ ap (after lists d) (sym (run_in c.args.lead.now (entry_places p) es)) ∙ ap (λ es. after lists d (run_places c.args.lead.now (entry_places p) es)) (sym same)
