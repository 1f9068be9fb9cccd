-- The message of a text has fields again, unless a decimal's exponent is outside the range that is shown.
use Rattle.std.proofs.Common.{◌≡◌, ◌⊎◌, inl, inr, ℕ, Bool, true, false, List, [], ◌∷◌, length, Option, Some, None, Result, Ok, Err, sym, ap, ◌∙◌}
use Rattle.sbe_types.specs.declared.message.Value.{Value}
use Rattle.sbe_types.specs.declared.message.Block.{Block}
use Rattle.sbe_types.specs.declared.schema.Level.{Level}
use Rattle.fix_values.specs.declared.rule.V.{V}
use Rattle.fix_values.specs.declared.rule.V.TheVariants as why
use Rattle.tagvalue_codec.specs.Fields.{Field}
use Rattle.reference_graph.specs.Expansion.{Structure}
use Rattle.bridge_rules.specs.Rules.{Rule}
use Rattle.bridge_rules.specs.Texts.{text_by}
use Rattle.bridge_rules.specs.Values.{value_by}
use Rattle.bridge_rules.specs.Again.{IsOfText, HasText}
use Rattle.bridge_rules.proofs.OptionLemmas.{if_some}
use Rattle.bridge_terms.specs.Plans.{Plan, Tree, Each, done, single, group, owns}
use Rattle.bridge_terms.specs.PlanFacts.{EachRule, EachValue}
use Rattle.bridge_terms.specs.Parts.{Part, application_fields, parts_of, part_at}
use Rattle.bridge_terms.specs.Gathering.{in_level, group_in, gather, text_at, count_admitted, value_found, value_look}
use Rattle.bridge_terms.specs.MessageFields.{Unwritable, no_text_at, no_delimiter_at, join_answers, slot_part, begins, entry_fields, count_part, group_part, answer_fields, if_begun, message_parts, fields_of}
use Rattle.bridge_terms.specs.Blocks.{values_of}
use Rattle.bridge_terms.proofs.AnswerLemmas.{both_is}
use Rattle.bridge_terms.proofs.Turning.{value_read_is, group_turned, level_turned, back_so}
use Rattle.bridge_terms.proofs.Writing.{err_ok}
use Rattle.bridge_plan.specs.Mappings.{Mapping}
use Rattle.bridge_plan.specs.Covers.{plan_of}
use Rattle.bridge_plan.specs.CheckedLevels.{IsCovered}
use Rattle.bridge_plan.specs.Translation.{IsMessageOf}
use Rattle.bridge_plan.proofs.Translating.{covered_sound, covered_again, again_written}
use Rattle.bridge_versions.specs.Received.{AnyOf, SomeValue, IsFarAt}

-- ---- values of texts

found_of_text : (rule : Rule) (t : Option (List ℕ)) (v : Value) → value_found rule t ≡ Some v → IsOfText rule v
found_of_text rule None v h = inr h
found_of_text rule (Some t) v h = inl (t, value_read_is (value_by rule t) v h)

-- each value that is gathered is that of a text, or of a part without a field
all_of_texts : (p : Plan) (parts : List Part) (t : Tree Value p) → gather value_look p parts ≡ Some t → EachValue IsOfText p t
all_of_texts done parts t h = tt
all_of_texts (single s rest) parts t h =
    let is = both_is (value_found s.rule (text_at s.tag parts)) (gather value_look rest parts) t h in
    (found_of_text s.rule (text_at s.tag parts) t.0 is.0, all_of_texts rest parts t.1 is.1)
all_of_texts (group g inner rest) parts t h =
    let one = in_level inner (λ piece. gather value_look inner piece) in
    let is = both_is (group_in (count_admitted g.count) g.delimiter one (part_at g.tag parts)) (gather value_look rest parts) t h in
    let entry = level_turned inner (λ piece. gather value_look inner piece) (λ piece. gather value_look inner piece) (λ e. e) (λ e. EachValue IsOfText inner e)
    (λ piece e k. (k, all_of_texts inner piece e k)) in
    let here = group_turned g.count g.delimiter one one (λ e. e) (λ e. EachValue IsOfText inner e) entry (part_at g.tag parts) t.0 is.0 in
    (here.1.1, all_of_texts rest parts t.1 is.1)

-- ---- where a message is refused

ok_err : {X Z : Type 0} {x : X} {u : Unwritable} → ◌≡◌ {A = Result X Unwritable} (Ok x) (Err u) → Z
ok_err h = err_ok (sym h)

joined_err : {X : Type 0} (a b : Result (List X) Unwritable) (u : Unwritable) → join_answers a b ≡ Err u → (a ≡ Err u) ⊎ (b ≡ Err u)
joined_err (Err w) b u h = inl h
joined_err (Ok xs) (Err w) u h = inr h
joined_err (Ok xs) (Ok ys) u h = ok_err h

same_tag : {X : Type 0} {a b : ℕ} {v w : V} → ◌≡◌ {A = Result X Unwritable} (Err (no_text_at a v)) (Err (no_text_at b w)) → a ≡ b
same_tag h = cc

same_reason : {X : Type 0} {a b : ℕ} {v w : V} → ◌≡◌ {A = Result X Unwritable} (Err (no_text_at a v)) (Err (no_text_at b w)) → v ≡ w
same_reason h = cc

other_reason : {X Z : Type 0} {a b : ℕ} {v : V} → ◌≡◌ {A = Result X Unwritable} (Err (no_delimiter_at a)) (Err (no_text_at b v)) → Z
other_reason h = cc

slot_err : (own tag : ℕ) (r : Result (Option (List ℕ)) V) (v : V) → slot_part own r ≡ Err (no_text_at tag v) → (own ≡ tag) × (r ≡ Err v)
slot_err own tag (Err w) v h = (same_tag h, ap Err (same_reason h))
slot_err own tag (Ok None) v h = ok_err h
slot_err own tag (Ok (Some t)) v h = ok_err h

answer_err : (r : Result (List Part) Unwritable) (u : Unwritable) → answer_fields r ≡ Err u → r ≡ Err u
answer_err (Err w) u h = ap Err (same_err h)
  where
    same_err : {X : Type 0} {a b : Unwritable} → ◌≡◌ {A = Result X Unwritable} (Err a) (Err b) → a ≡ b
    same_err k = cc
answer_err (Ok parts) u h = ok_err h

count_err : (tag n : ℕ) (r : Result (List Field) Unwritable) (u : Unwritable) → count_part tag n r ≡ Err u → r ≡ Err u
count_err tag n (Err w) u h = ap Err (same_err h)
  where
    same_err : {X : Type 0} {a b : Unwritable} → ◌≡◌ {A = Result X Unwritable} (Err a) (Err b) → a ≡ b
    same_err k = cc
count_err tag n (Ok run) u h = ok_err h

begun_err : (own tag : ℕ) (v : V) (begun : Bool) (r : Result (List Field) Unwritable) → if_begun own begun r ≡ Err (no_text_at tag v) → r ≡ Err (no_text_at tag v)
begun_err own tag v true r h = h
begun_err own tag v false r h = other_reason h

entries_err : {X : Type 0} (entry : X → Result (List Field) Unwritable) (es : List X) (u : Unwritable) → entry_fields entry es ≡ Err u → AnyOf (λ e. entry e ≡ Err u) es
entries_err entry [] u h = ok_err h
entries_err entry (e ∷ es) u h = elim (joined_err (entry e) (entry_fields entry es) u h) [
  | inl here ↦ inl here
  | inr later ↦ inr (entries_err entry es u later)
]

group_err : {X : Type 0} (tag : ℕ) (entry : X → Result (List Field) Unwritable) (es : List X) (u : Unwritable) → group_part tag entry es ≡ Err u → AnyOf (λ e. entry e ≡ Err u) es
group_err tag entry [] u h = ok_err h
group_err tag entry (e ∷ es) u h = entries_err entry (e ∷ es) u (count_err tag (length (e ∷ es)) (entry_fields entry (e ∷ es)) u h)

any_turned : {X : Type 0} (P Q : X → Type 0) → ((x : X) → P x → Q x) → (xs : List X) → AnyOf P xs → AnyOf Q xs
any_turned P Q turn [] h = absurd h
any_turned P Q turn (x ∷ xs) (inl here) = inl (turn x here)
any_turned P Q turn (x ∷ xs) (inr later) = inr (any_turned P Q turn xs later)

-- the value with this tag has no text, as it is out of range
abbrev IsRefusedAt : ℕ → ℕ → Rule → Value → Type 0
IsRefusedAt tag own rule v = (own ≡ tag) × (text_by rule v ≡ Err why.Range)

refused_at : (tag : ℕ) (p : Plan) (t : Tree Value p) → message_parts p t ≡ Err (no_text_at tag why.Range) → SomeValue (IsRefusedAt tag) p t
refused_at tag done t h = ok_err h
refused_at tag (single s rest) t h = elim (joined_err (slot_part s.tag (text_by s.rule t.0)) (message_parts rest t.1) (no_text_at tag why.Range) h) [
  | inl here ↦ inl (slot_err s.tag tag (text_by s.rule t.0) why.Range here)
  | inr later ↦ inr (refused_at tag rest t.1 later)
]
refused_at tag (group g inner rest) t h =
    let entry = λ (e : Tree Value inner). if_begun g.tag (begins inner e) (answer_fields (message_parts inner e)) in
    let u = no_text_at tag why.Range in
    elim (joined_err (group_part g.tag entry t.0) (message_parts rest t.1) u h) [
      | inl here ↦ inl (any_turned (λ e. entry e ≡ Err u) (λ e. SomeValue (IsRefusedAt tag) inner e)
          (λ e k. refused_at tag inner e (answer_err (message_parts inner e) u (begun_err g.tag tag why.Range (begins inner e) (answer_fields (message_parts inner e)) k))) t.0 (group_err g.tag entry t.0 u here))
      | inr later ↦ inr (refused_at tag rest t.1 later)
    ]

-- ---- the value that is refused

any_with : {X : Type 0} (P Q R : X → Type 0) → ((x : X) → P x → Q x → R x) → (xs : List X) → Each P xs → AnyOf Q xs → AnyOf R xs
any_with P Q R turn [] all h = absurd h
any_with P Q R turn (x ∷ xs) all (inl here) = inl (turn x all.0 here)
any_with P Q R turn (x ∷ xs) all (inr later) = inr (any_with P Q R turn xs all.1 later)

text_far : (tag own : ℕ) (rule : Rule) (v : Value) → HasText rule → IsOfText rule v → IsRefusedAt tag own rule v → IsFarAt tag own rule v
text_far tag own rule v texts read refused = elim (texts v read) [
  | inl is ↦ absurd (never (sym refused.1 ∙ is.1))
  | inr far ↦ (refused.0, far.0)
]
  where
    never : {X : Type 0} {w : V} {x : X} → ◌≡◌ {A = Result X V} (Err w) (Ok x) → ⊥
    never k = cc

values_far : (tag : ℕ) (p : Plan) → EachRule HasText p → (t : Tree Value p) → EachValue IsOfText p t → SomeValue (IsRefusedAt tag) p t → SomeValue (IsFarAt tag) p t
values_far tag done texts t read h = absurd h
values_far tag (single s rest) texts t read (inl here) = inl (text_far tag s.tag s.rule t.0 texts.0 read.0 here)
values_far tag (single s rest) texts t read (inr later) = inr (values_far tag rest texts.1 t.1 read.1 later)
values_far tag (group g inner rest) texts t read (inl here) =
    inl (any_with (λ e. EachValue IsOfText inner e) (λ e. SomeValue (IsRefusedAt tag) inner e) (λ e. SomeValue (IsFarAt tag) inner e) (λ e a b. values_far tag inner texts.0 e a b) t.0 read.0 here)
values_far tag (group g inner rest) texts t read (inr later) = inr (values_far tag rest texts.1 t.1 read.1 later)

-- the message of a text has fields again, or a decimal with a far exponent
pub again_or_far : (m : Mapping) (s : Structure) (level : Level) (its : List Field) (b : Block) → IsCovered m s level → IsMessageOf m s level its b →
    ((fields : List Field) × (fields_of (plan_of m s level) (values_of (plan_of m s level) b) ≡ Ok fields))
    ⊎ ((tag : ℕ) × (fields_of (plan_of m s level) (values_of (plan_of m s level) b) ≡ Err (no_text_at tag why.Range)) × SomeValue (IsFarAt tag) (plan_of m s level) (values_of (plan_of m s level) b))
again_or_far m s level its b is h = elim (again_written m s level its b is h) [
  | inl fine ↦ inl fine
  | inr refused ↦
      let p = plan_of m s level in
      let t = values_of p b in
      let fields = application_fields m.lists its in
      let read = if_some _ (gather value_look p (parts_of (owns p) fields)) t (back_so p (covered_sound m s level is) fields t h.back) in
      inr (
        refused.0,
        refused.1,
        values_far refused.0 p (covered_again m s level is) t (all_of_texts p (parts_of (owns p) fields) t read.1)
            (refused_at refused.0 p t (answer_err (message_parts p t) (no_text_at refused.0 why.Range) refused.1)),
      )
]
