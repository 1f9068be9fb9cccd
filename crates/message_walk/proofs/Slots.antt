-- The field or data of a slot, by what is at its row.
use Rattle.std.proofs.Common.{◌≡◌, ◌<◌, ℕ, List, length, Option, Some, None, refl, sym, subst}
use Rattle.sbe_types.specs.declared.kind.Leaf.{Leaf as LeafOf}
use Rattle.sbe_types.specs.declared.message.Block.{out-Block}
use Rattle.sbe_types.specs.declared.message.DataVal.TheVariants as dataval
use Rattle.tagvalue_codec.specs.Drafts.{Draft}
use Rattle.flyweight_view.specs.TypedBlocks.{TypedBlock}
use Rattle.bridge_rules.specs.Rules.{Rule, raw_data, text_data}
use Rattle.bridge_rules.specs.Texts.{text_by}
use Rattle.bridge_terms.specs.Parts.{TagLists}
use Rattle.bridge_terms.specs.Plans.{Slot}
use Rattle.bridge_terms.specs.Blocks.{value_at, nth_or, data_value}
use Rattle.bridge_terms.specs.MessageFields.{length_in}
use Rattle.message_walk.specs.declared.plan.PlanRow.{PlanRow}
use Rattle.message_walk.specs.declared.plan.Part.TheVariants as part
use Rattle.message_walk.specs.Rows.{field_of, IsForField, IsSlotAt, IsThere, value_of_bytes}
use Rattle.message_walk.specs.States.{IsPut, PutResult}
use Rattle.message_walk.proofs.Nth.{in_range}

-- the field at a slot's place
pub field_slot : {R : Type 0} (spells : R → Rule → Type 0) (lists : TagLists) (d : Draft) (r : PutResult) (row : PlanRow R) (by : R) (s : Slot) (seen : TypedBlock)
    → row.part ≡ part.Field by → IsSlotAt spells (length_in row.lead lists.lengths) s row.number row.part → IsThere s.rule s.place seen.fields seen.parts
    → ((rule : Rule) → length_in row.lead lists.lengths ≡ None → spells by rule → IsForField rule row.number seen.fields → IsPut lists d row.lead (text_by rule (field_of seen row.number)) r)
    → IsPut lists d row.lead (text_by s.rule (value_at s.place seen.block)) r
field_slot spells lists d r row by s seen is at there puts =
    let own = subst (IsSlotAt spells (length_in row.lead lists.lengths) s row.number) is at in
    let near : IsForField s.rule row.number seen.fields = subst (λ place. IsThere s.rule place seen.fields seen.parts) own.0 there in
    subst (λ place. IsPut lists d row.lead (text_by s.rule (value_at place seen.block)) r) (sym own.0) (puts s.rule own.1 own.2 near)

-- no field has a number that isn't in range
pub field_far : {R : Type 0} (spells : R → Rule → Type 0) (lists : TagLists) (d : Draft) (r : PutResult) (row : PlanRow R) (by : R) (s : Slot) (seen : TypedBlock)
    → row.part ≡ part.Field by → ¬ (row.number < length seen.fields) → IsSlotAt spells (length_in row.lead lists.lengths) s row.number row.part
    → IsThere s.rule s.place seen.fields seen.parts → IsPut lists d row.lead (text_by s.rule (value_at s.place seen.block)) r
field_far spells lists d r row by s seen is far at there =
    let own = subst (IsSlotAt spells (length_in row.lead lists.lengths) s row.number) is at in
    let near : IsForField s.rule row.number seen.fields = subst (λ place. IsThere s.rule place seen.fields seen.parts) own.0 there in
    absurd (far (in_range row.number seen.fields near.field near.there))

-- data with a length field
pub raw_slot : {R : Type 0} (spells : R → Rule → Type 0) (lists : TagLists) (d : Draft) (r : PutResult) (row : PlanRow R) (own : ℕ) (s : Slot) (seen : TypedBlock) (found : Option (List ℕ))
    → row.part ≡ part.Data (Some own) → IsSlotAt spells (length_in row.lead lists.lengths) s row.number row.part → IsThere s.rule s.place seen.fields seen.parts
    → (row.number < length seen.parts → value_of_bytes found ≡ data_value (nth_or dataval.Absent row.number (out-Block seen.block).parts))
    → ((leaf : LeafOf) → length_in row.lead lists.lengths ≡ Some own → IsPut lists d row.lead (text_by (raw_data leaf) (value_of_bytes found)) r)
    → IsPut lists d row.lead (text_by s.rule (value_at s.place seen.block)) r
raw_slot spells lists d r row own s seen found is at there shows puts =
    let slot = subst (IsSlotAt spells (length_in row.lead lists.lengths) s row.number) is at in
    let near : row.number < length seen.parts = subst (λ place. IsThere s.rule place seen.fields seen.parts) slot.0 there in
    subst (λ place. IsPut lists d row.lead (text_by s.rule (value_at place seen.block)) r) (sym slot.0)
    (subst (λ rule. IsPut lists d row.lead (text_by rule (data_value (nth_or dataval.Absent row.number (out-Block seen.block).parts))) r) (sym slot.2.is)
    (subst (λ v. IsPut lists d row.lead (text_by (raw_data slot.2.leaf) v) r) (shows near) (puts slot.2.leaf slot.1)))

-- data without one
pub passage_slot : {R : Type 0} (spells : R → Rule → Type 0) (lists : TagLists) (d : Draft) (r : PutResult) (row : PlanRow R) (s : Slot) (seen : TypedBlock) (found : Option (List ℕ))
    → row.part ≡ part.Data None → IsSlotAt spells (length_in row.lead lists.lengths) s row.number row.part → IsThere s.rule s.place seen.fields seen.parts
    → (row.number < length seen.parts → value_of_bytes found ≡ data_value (nth_or dataval.Absent row.number (out-Block seen.block).parts))
    → ((leaf : LeafOf) → length_in row.lead lists.lengths ≡ None → IsPut lists d row.lead (text_by (text_data leaf) (value_of_bytes found)) r)
    → IsPut lists d row.lead (text_by s.rule (value_at s.place seen.block)) r
passage_slot spells lists d r row s seen found is at there shows puts =
    let slot = subst (IsSlotAt spells (length_in row.lead lists.lengths) s row.number) is at in
    let near : row.number < length seen.parts = subst (λ place. IsThere s.rule place seen.fields seen.parts) slot.0 there in
    subst (λ place. IsPut lists d row.lead (text_by s.rule (value_at place seen.block)) r) (sym slot.0)
    (subst (λ rule. IsPut lists d row.lead (text_by rule (data_value (nth_or dataval.Absent row.number (out-Block seen.block).parts))) r) (sym slot.2.is)
    (subst (λ v. IsPut lists d row.lead (text_by (text_data slot.2.leaf) v) r) (shows near) (puts slot.2.leaf slot.1)))

-- data, by whether it has a length field
pub data_slot : {R : Type 0} (spells : R → Rule → Type 0) (lists : TagLists) (d : Draft) (r : PutResult) (row : PlanRow R) (lead : Option ℕ) (s : Slot) (seen : TypedBlock) (found : Option (List ℕ))
    → row.part ≡ part.Data lead → IsSlotAt spells (length_in row.lead lists.lengths) s row.number row.part → IsThere s.rule s.place seen.fields seen.parts
    → (row.number < length seen.parts → value_of_bytes found ≡ data_value (nth_or dataval.Absent row.number (out-Block seen.block).parts))
    → ((own : ℕ) (leaf : LeafOf) → lead ≡ Some own → length_in row.lead lists.lengths ≡ Some own → IsPut lists d row.lead (text_by (raw_data leaf) (value_of_bytes found)) r)
    → ((leaf : LeafOf) → lead ≡ None → length_in row.lead lists.lengths ≡ None → IsPut lists d row.lead (text_by (text_data leaf) (value_of_bytes found)) r)
    → IsPut lists d row.lead (text_by s.rule (value_at s.place seen.block)) r
data_slot spells lists d r row (Some own) s seen found is at there shows raw passage =
    raw_slot spells lists d r row own s seen found is at there shows (λ leaf paired. raw own leaf refl paired)
data_slot spells lists d r row None s seen found is at there shows raw passage =
    passage_slot spells lists d r row s seen found is at there shows (λ leaf unpaired. passage leaf refl unpaired)
