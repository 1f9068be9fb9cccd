-- What is left after the first row of an entry.
use Rattle.std.proofs.Common.{◌≡◌, ℕ, Bool, true, false, List, Option, Some, None, Result, Ok, Err, refl, sym, ap, ◌∙◌}
use Rattle.fix_values.specs.declared.rule.V.{V}
use Rattle.tagvalue_codec.specs.Drafts.{Draft}
use Rattle.flyweight_view.specs.TypedBlocks.{TypedBlock}
use Rattle.bridge_rules.specs.Rules.{Rule}
use Rattle.bridge_rules.specs.Texts.{text_by}
use Rattle.bridge_terms.specs.Parts.{TagLists}
use Rattle.bridge_terms.specs.Plans.{Plan}
use Rattle.bridge_terms.specs.Blocks.{values_of, value_at}
use Rattle.bridge_terms.specs.MessageFields.{begins}
use Rattle.bridge_terms.specs.Places.{to_part, begun_places, places_of, slot_places, text_places}
use Rattle.message_walk.specs.declared.halt.Halt.{Halt}
use Rattle.message_walk.specs.declared.put.Put.{Put}
use Rattle.message_walk.specs.declared.put.Put.TheVariants as put
use Rattle.message_walk.specs.declared.plan.PlanRow.{PlanRow}
use Rattle.message_walk.specs.Halts.{undelimited_here}
use Rattle.message_walk.specs.Ways.{pushed}
use Rattle.message_walk.specs.Rows.{entry_places}
use Rattle.message_walk.specs.States.{State, after, outcome, IsPut}
use Rattle.message_walk.proofs.RowLemmas.{AtSlot}
use Rattle.message_walk.proofs.Steps.{step_on, step_off, in_on, in_off, put_on, put_off}

pub slot_on : (lists : TagLists) (p : Put) (d e : Draft) (h g : Halt) (tag : ℕ) (text : Result (Option (List ℕ)) V)
    → IsPut lists d tag text (record { put = p; draft = e; halt = h }) → (p ≡ put.Refused → ⊥) → outcome true e g ≡ after lists d (slot_places tag text)
slot_on lists p d e h g tag text is good = in_on lists d e h g (to_part tag) (text_places tag text) (put_on lists p d e h h tag text is good)

pub slot_off : (lists : TagLists) (p : Put) (d e : Draft) (h g : Halt) (tag : ℕ) (text : Result (Option (List ℕ)) V)
    → IsPut lists d tag text (record { put = p; draft = e; halt = h }) → p ≡ put.Refused → g ≡ record { cause = h.cause; way = pushed (to_part tag) h.way }
    → outcome false e g ≡ after lists d (slot_places tag text)
slot_off lists p d e h g tag text is bad same = in_off lists d e h g (to_part tag) (text_places tag text) (put_off lists p d e h tag text is bad) same

false_true : ◌≡◌ {A = Bool} false true → ⊥
false_true h = cc

-- a draft that nothing was written to
unchanged : (lists : TagLists) (d e : Draft) (h : Halt) (tag : ℕ) (text : Result (Option (List ℕ)) V)
    → IsPut lists d tag text (record { put = put.Nothing; draft = e; halt = h }) → e ≡ d
unchanged lists d e h tag (Ok None) is = ap (λ s. s.draft) is.0
unchanged lists d e h tag (Ok (Some t)) is = absurd (false_true is.1)
unchanged lists d e h tag (Err v) is = absurd (false_true is.1)

pub unbegun : (lists : TagLists) (d : Draft) (g : Halt) (p : Plan) (seen : TypedBlock) → g ≡ undelimited_here → begins p (values_of p seen.block) ≡ false
    → outcome false d g ≡ after lists d (entry_places p seen)
unbegun lists d g p seen is bare =
    ap (λ h. record { draft = d; halt = Some h }) is ∙ sym (ap (λ b. after lists d (begun_places b (places_of p (values_of p seen.block)))) bare)

begun_true : (lists : TagLists) (d : Draft) (p : Plan) (seen : TypedBlock) → begins p (values_of p seen.block) ≡ true
    → after lists d (places_of p (values_of p seen.block)) ≡ after lists d (entry_places p seen)
begun_true lists d p seen gives = sym (ap (λ b. after lists d (begun_places b (places_of p (values_of p seen.block)))) gives)

pub entry_on_slot : {R : Type 0} (spells : R → Rule → Type 0) (lists : TagLists) (d e : Draft) (h : Halt) (s : State) (p : Plan) (row : PlanRow R) (others : List (PlanRow R)) (seen : TypedBlock)
    (at : AtSlot spells lists p row others seen) → IsPut lists d row.lead (text_by at.slot.rule (value_at at.slot.place seen.block)) (record { put = put.Written; draft = e; halt = h })
    → s ≡ after lists e (places_of at.rest (values_of at.rest seen.block)) → s ≡ after lists d (entry_places p seen)
entry_on_slot spells lists d e h s p row others seen at is more =
    more
    ∙ sym (step_on lists d e h (slot_places row.lead (text_by at.slot.rule (value_at at.slot.place seen.block))) (places_of at.rest (values_of at.rest seen.block))
    (slot_on lists put.Written d e h h row.lead (text_by at.slot.rule (value_at at.slot.place seen.block)) is (λ same. cc)))
    ∙ ap (after lists d) (sym at.places)
    ∙ begun_true lists d p seen (at.begun ∙ sym is.1)

pub entry_off_slot : {R : Type 0} (spells : R → Rule → Type 0) (lists : TagLists) (d e : Draft) (h g : Halt) (p : Plan) (row : PlanRow R) (others : List (PlanRow R)) (seen : TypedBlock)
    (at : AtSlot spells lists p row others seen) → IsPut lists d row.lead (text_by at.slot.rule (value_at at.slot.place seen.block)) (record { put = put.Refused; draft = e; halt = h })
    → g ≡ record { cause = h.cause; way = pushed (to_part row.lead) h.way } → outcome false e g ≡ after lists d (entry_places p seen)
entry_off_slot spells lists d e h g p row others seen at is same =
    step_off lists d e g (slot_places row.lead (text_by at.slot.rule (value_at at.slot.place seen.block))) (places_of at.rest (values_of at.rest seen.block))
    (slot_off lists put.Refused d e h g row.lead (text_by at.slot.rule (value_at at.slot.place seen.block)) is refl same)
    ∙ ap (after lists d) (sym at.places)
    ∙ begun_true lists d p seen (at.begun ∙ sym is.1)

pub entry_bare_slot : {R : Type 0} (spells : R → Rule → Type 0) (lists : TagLists) (d e : Draft) (h g : Halt) (p : Plan) (row : PlanRow R) (others : List (PlanRow R)) (seen : TypedBlock)
    (at : AtSlot spells lists p row others seen) → IsPut lists d row.lead (text_by at.slot.rule (value_at at.slot.place seen.block)) (record { put = put.Nothing; draft = e; halt = h })
    → g ≡ undelimited_here → outcome false e g ≡ after lists d (entry_places p seen)
entry_bare_slot spells lists d e h g p row others seen at is bare =
    ap (λ d. outcome false d g) (unchanged lists d e h row.lead (text_by at.slot.rule (value_at at.slot.place seen.block)) is)
    ∙ unbegun lists d g p seen bare (at.begun ∙ sym is.1)

pub nothing_written : ◌≡◌ {A = Put} put.Nothing put.Written → ⊥
nothing_written h = cc

pub nothing_refused : ◌≡◌ {A = Put} put.Nothing put.Refused → ⊥
nothing_refused h = cc

pub written_refused : ◌≡◌ {A = Put} put.Written put.Refused → ⊥
written_refused h = cc
