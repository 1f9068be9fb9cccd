-- Messages of any version and tag-value texts, there and back.
use Rattle.std.proofs.Common.{◌≡◌, ℕ, ◌<◌, ◌^◌, true, false, List, [], ◌∷◌, ◌++◌, length, Option, Some, None, Ok, refl, sym, ap, ◌∙◌, subst, pos}
use Rattle.std.specs.Fmt.{decimal}
use Rattle.byte_digits.specs.Digits.{IsBytes}
use Rattle.byte_digits.proofs.Bytes.{IsBytes-front, IsBytes-back}
use Rattle.sbe_types.specs.declared.kind.Leaf.{Leaf as LeafOf}
use Rattle.sbe_types.specs.declared.message.Value.{Value}
use Rattle.sbe_types.specs.declared.message.Msg.{Msg}
use Rattle.sbe_types.specs.declared.schema.Level.{Level}
use Rattle.sbe_types.specs.declared.schema.WireSchema.{WireSchema}
use Rattle.sbe_wire.specs.Versions.{mode_of}
use Rattle.value_laws.proofs.ReadBack.{numeral_of, spelled_back}
use Rattle.fix_values.specs.Numerals.{integer_of}
use Rattle.reference_graph.specs.Expansion.{Structure}
use Rattle.bridge_rules.specs.Rules.{Rule}
use Rattle.bridge_rules.specs.Texts.{text_by}
use Rattle.bridge_rules.specs.Items.{Item, item_by, item_in}
use Rattle.bridge_rules.specs.Members.{and_then}
use Rattle.bridge_rules.specs.Sound.{IsShown}
use Rattle.bridge_rules.proofs.OptionLemmas.{some_is, and_then_some}
use Rattle.bridge_terms.specs.Plans.{Plan, Tree, Each, done, single, group}
use Rattle.bridge_terms.specs.PlanFacts.{EachValue}
use Rattle.bridge_terms.specs.Parts.{application_fields}
use Rattle.bridge_terms.specs.Gathering.{item_look, items_of, item_found, count_found, spelled_count, items_of_fields, application_view, message_application_items, field_application_items}
use Rattle.bridge_terms.specs.MessageFields.{fields_of}
use Rattle.bridge_terms.specs.WayBack.{back_refused}
use Rattle.bridge_terms.specs.Blocks.{values_of}
use Rattle.bridge_terms.proofs.Writing.{Tells, count_text, written_told}
use Rattle.bridge_plan.specs.Mappings.{Mapping}
use Rattle.bridge_plan.specs.Covers.{plan_of}
use Rattle.bridge_plan.specs.CheckedLevels.{IsCovered}
use Rattle.bridge_plan.specs.StructureFacts.{HasCount}
use Rattle.bridge_plan.specs.Translation.{Draft, IsHead, ComesBack, whole_text}
use Rattle.bridge_plan.proofs.Covered.{each_both}
use Rattle.bridge_plan.proofs.PlanParts.{plan_by}
use Rattle.bridge_plan.proofs.SchemaGives.{HaveFieldKinds, checked_kinds}
use Rattle.bridge_plan.proofs.BackFits.{KindsAreWritable}
use Rattle.bridge_plan.proofs.Translating.{covered_plan, covered_root, covered_sound, passed, some_message}
use Rattle.bridge_versions.specs.Needed.{has_needed}
use Rattle.bridge_versions.specs.Received.{IsReceived}
use Rattle.bridge_versions.proofs.LyingLevels.{LevelLies}
use Rattle.bridge_versions.proofs.OnlyNeeded.{HasFrom, had_steps, level_has}
use Rattle.bridge_versions.proofs.VersionParts.{AreShort, AreShown, AreRead, IsKnown, IsShownFrom, IsReadFrom, shown_steps, read_steps}

-- ---- the root of a message

received_lies : (schema : WireSchema) (level : Level) (message : Msg) (body : List ℕ) → IsReceived schema level message body → LevelLies (mode_of schema message.version) level message.block
received_lies schema level message body is =
    let h = is.lies in
    let header = h.1 in
    let block = h.2 in
    let tail = h.3 in
    let rest = h.4 in
    let mode = mode_of schema message.version in
    let whole : IsBytes (header ++ block ++ tail ++ rest) = subst IsBytes h.6 is.bytes in
    let front : IsBytes (header ++ block ++ tail) = IsBytes-front (header ++ block ++ tail) rest whole in
    subst (λ l. LevelLies mode l message.block) (some_is (sym h.5 ∙ is.template)) (record {
      front = block;
      front_good = IsBytes-back header block (IsBytes-front (header ++ block) tail front);
      fields = h.8.1;
      back = tail;
      back_good = IsBytes-back (header ++ block) tail front;
      tail = h.9;
    })

-- ---- items of values that are shown

count_spelled : (n : ℕ) → n < 10 ^ 64 → spelled_count (integer_of (decimal n)) ≡ Some n
count_spelled n few =
    let numeral = numeral_of n few in
    ap spelled_count (spelled_back (decimal n) (pos n) (record { negative = false; digits = decimal n; spelled = refl; numeral = numeral.0; number = ap pos (sym numeral.1) }))

count_told : {X : Type 0} (leaf : LeafOf) (es : List X) → length es < 10 ^ 64 → count_found leaf (count_text es) ≡ Some (length es)
count_told leaf [] few = refl
count_told leaf (e ∷ es) few = count_spelled (length (e ∷ es)) few

item_told : (rule : Rule) (v : Value) → IsShown rule v → (o : Option (List ℕ)) → text_by rule v ≡ Ok o → item_found rule o ≡ Some (item_by rule v)
item_told rule v shown None h = ap Some (sym (shown.unwritten h))
item_told rule v shown (Some t) h =
    let is = shown.written t h in
    and_then_some (item_in rule t) (λ item. Some (Some item)) is.0 is.1 ∙ ap Some (sym is.2)

each_kept : {X : Type 0} (P Q R : X → Type 0) → ((x : X) → P x → Q x → R x) → (xs : List X) → Each P xs → Each Q xs → Each R xs
each_kept P Q R turn [] a b = tt
each_kept P Q R turn (x ∷ xs) a b = (turn x a.0 b.0, each_kept P Q R turn xs a.1 b.1)

items_told : (p : Plan) (t : Tree Value p) → EachValue IsShown p t → AreShort p t → Tells item_look item_by p t
items_told done t shown short = tt
items_told (single s rest) t shown short = (item_told s.rule t.0 shown.0, items_told rest t.1 shown.1 short)
items_told (group g inner rest) t shown short = (
  count_told g.count t.0 short.0,
  each_kept (λ e. EachValue IsShown inner e) (λ e. AreShort inner e) (λ e. Tells item_look item_by inner e) (λ e a b. items_told inner e a b) t.0 shown.0 short.1,
  items_told rest t.1 shown.1 short.2,
)

-- ---- a message of a covered template

module _ (writable : KindsAreWritable) (schema : WireSchema) (level : Level) (message : Msg) (body : List ℕ) (received : IsReceived schema level message body) where
  values_shown : (m : Mapping) (s : Structure) → IsCovered m s level → AreShown (plan_of m s level) (values_of (plan_of m s level) message.block)
  values_shown m s is =
      let mode = mode_of schema message.version in
      let kinds = checked_kinds schema s message.template level received.checked received.template in
      plan_by m IsKnown (IsShownFrom mode) (shown_steps writable mode m is.ordered.mapped) s level (each_both HaveFieldKinds HasCount s level kinds.1 is.counts) kinds.0 message.block
      (received_lies schema level message body received)

  values_read : (m : Mapping) (s : Structure) → IsCovered m s level → has_needed level message.block ≡ true → AreRead (plan_of m s level) (values_of (plan_of m s level) message.block)
  values_read m s is needed =
      let mode = mode_of schema message.version in
      let kinds = checked_kinds schema s message.template level received.checked received.template in
      plan_by m IsKnown (IsReadFrom mode) (read_steps writable mode m is.ordered.mapped) s level (each_both HaveFieldKinds HasCount s level kinds.1 is.counts) kinds.0 message.block
      (received_lies schema level message body received) needed

  -- the text of the message has its items
  pub received_items : (m : Mapping) (s : Structure) (draft : Draft) → IsCovered m s level → IsHead m draft.head → fields_of (plan_of m s level) (values_of (plan_of m s level) message.block) ≡ Ok draft.fields →
      items_of_fields (plan_of m s level) (application_fields m.lists (whole_text m draft)) ≡ Some (items_of (plan_of m s level) (values_of (plan_of m s level) message.block))
  received_items m s draft is headed written =
      let p = plan_of m s level in
      let values = values_of p message.block in
      let all = values_shown m s is in
      ap (items_of_fields p) (passed m s level draft values is headed written)
      ∙ written_told item_look item_by p (covered_root m s level is) values (items_told p values all.shown all.short) draft.fields written

  pub received_application : (m : Mapping) (s : Structure) (draft : Draft) → IsCovered m s level → IsHead m draft.head → fields_of (plan_of m s level) (values_of (plan_of m s level) message.block) ≡ Ok draft.fields →
      field_application_items (plan_of m s level) (application_fields m.lists (whole_text m draft)) ≡ Some (message_application_items (plan_of m s level) (values_of (plan_of m s level) message.block))
  received_application m s draft is headed written =
      ap (λ (o : Option (Tree (Option Item) (plan_of m s level))). and_then o (λ t. Some (application_view (plan_of m s level) t))) (received_items m s draft is headed written)

  -- and the message comes back, if it lacks no part that a text needs
  pub received_back : (m : Mapping) (s : Structure) (draft : Draft) → IsCovered m s level → IsHead m draft.head → fields_of (plan_of m s level) (values_of (plan_of m s level) message.block) ≡ Ok draft.fields →
      has_needed level message.block ≡ true → ComesBack m s level (values_of (plan_of m s level) message.block) draft
  received_back m s draft is headed written needed =
      let shown = values_shown m s is in
      let read = values_read m s is needed in
      record { there = record { covered = is; headed = headed; written = written; shown = shown.shown; counted = read.counted }; readable = read.read }

  -- and comes back only then
  pub received_only : (m : Mapping) (s : Structure) (draft : Draft) → IsCovered m s level → IsHead m draft.head → fields_of (plan_of m s level) (values_of (plan_of m s level) message.block) ≡ Ok draft.fields →
      back_refused (plan_of m s level) (application_fields m.lists (whole_text m draft)) ≡ None → has_needed level message.block ≡ true
  received_only m s draft is headed written unrefused =
      let mode = mode_of schema message.version in
      let p = plan_of m s level in
      let plan = covered_plan m s level is in
      let lies = received_lies schema level message body received in
      let back = (some_message m s level (whole_text m draft) is unrefused).1.back in
      let u = values_of p (some_message m s level (whole_text m draft) is unrefused).0 in
      let same : items_of p u ≡ items_of p (values_of p message.block) = some_is (sym back.same ∙ received_items m s draft is headed written) in
      level_has mode level p message.block lies plan.complete
      (plan_by m HasCount (HasFrom mode) (had_steps mode m) s level is.counts plan.all_complete (covered_sound m s level is) message.block lies u back.good same)
