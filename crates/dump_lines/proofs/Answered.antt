-- Each frame has one answer, and the code writes it.
use Rattle.std.proofs.Common.{◌≡◌, ◌≢◌, ℕ, Bool, true, false, cond, List, [], ◌∷◌, ◌++◌, length, Option, Some, None, Result, Ok, Err, refl, sym, ap, ◌∙◌, subst, arith}
use Rattle.std.specs.Prelude.{◌==◌, find, unwrap_or, codes, decimal, slice_get}
use Rattle.std.specs.Option.{option_map_or}
use Rattle.std.specs.List.{AllByRecursion}
use Rattle.std.proofs.lemmas.Bool.Decides.{nat_tests}
use Rattle.serde_json.specs.Written.{compact_text}
use Rattle.sbe_types.specs.declared.schema.Level.{Level}
use Rattle.sbe_types.specs.declared.schema.WireSchema.{WireSchema}
use Rattle.sbe_types.specs.declared.message.Msg.{Msg}
use Rattle.sbe_wire.specs.Faults.{Fault, FirstFault}
use Rattle.sbe_wire.specs.Lays.{Lays}
use Rattle.sbe_wire.specs.Reading.{message_of}
use Rattle.sbe_wire.specs.Placed.{IsPlaced}
use Rattle.sbe_wire.proofs.Messages.{message_judges, one_message, not_both}
use Rattle.schema_facts.specs.IsChecked.{IsChecked}
use Rattle.open_framing.specs.Frames.{Item}
use Rattle.layout_tables.specs.Heads.{header_number}
use Rattle.tree_json.specs.Lines.{message_at, line_of}
use Rattle.dump_lines.specs.Chosen.{has_id, schema_with, schema_for}
use Rattle.refused_items.specs.Refused.{refused_line, of_encoding}
use Rattle.dump_lines.specs.Refused.{of_fault, of_fault_in, message_meant, IsWay}
use Rattle.dump_lines.specs.Dumped.{encoding_of, view_line, before_message, behind_message, message_line, PrintsAnswer, IsDumped, other_encoding, a_message, a_fault, Answer, refusal, answer_by, body_answer, dumped, AreInOrder, IsAnswered, IsAnsweredOnce}
use Rattle.dump_lines.specs.declared.schemas.Schemas.{Schemas}
use Rattle.flyweight_view.specs.TypedBlocks.{TypedMessage}
use Rattle.body_walk.specs.Refusals.{Misread}
use Rattle.dump_lines.proofs.Ways.{faults_have_ways}

-- ---- the schema of a body is in order

found_in : (P : WireSchema → Type 0) (p : WireSchema → Bool) (xs : List WireSchema) (d : WireSchema) → AllByRecursion P xs → P d → P (unwrap_or (find p xs) d)
found_in P p [] d all good = good
found_in P p (x ∷ xs) d all good = by (p x) (found_in P p xs d all.1 good)
  where
    by : (t : Bool) → P (unwrap_or (find p xs) d) → P (unwrap_or (cond t (Some x) (find p xs)) d)
    by true more = all.0
    by false more = more

pub placed_for : (schemas : Schemas) (body : List ℕ) → AreInOrder schemas → IsPlaced (schema_for schemas body)
placed_for schemas body order = by (header_number schemas.first (codes "schemaId") body)
  where
    by : (o : Option ℕ) → IsPlaced (option_map_or (schema_with schemas) o schemas.first)
    by None = order.0.placed
    by (Some id) =
        let found : IsChecked (schema_with schemas id) = found_in IsChecked (has_id id) (schemas.first ∷ schemas.also) schemas.first (order.0, order.1) order.0 in
        found.placed

-- ---- there is one answer

untrue : ◌≡◌ {A = Bool} false true → ⊥
untrue h = cc

pub is_answered : IsAnswered
is_answered schemas number item order = by (item.encoding == encoding_of schemas.first.order) (message_of schema item.body) refl refl
  where
    schema : WireSchema
    schema = schema_for schemas item.body

    answer : Bool → Result Msg Fault → Answer
    answer t r = cond t (answer_by schemas schema item number r) (refusal (refused_line number (of_encoding item.encoding)))

    by : (t : Bool) (r : Result Msg Fault) → (item.encoding == encoding_of schemas.first.order) ≡ t → message_of schema item.body ≡ r → IsDumped schemas number item (answer t r).line (answer t r).is_message
    by true (Ok m) e h = a_message (grind (arith, nat_tests)) m ((message_judges schema (placed_for schemas item.body order)).sound item.body m tt h) refl refl
    by true (Err f) e h = a_fault (grind (arith, nat_tests)) f ((message_judges schema (placed_for schemas item.body order)).told item.body f tt h) refl refl
    by false r e h = other_encoding differs refl refl
      where
        differs : item.encoding ≢ encoding_of schemas.first.order
        differs same = untrue (sym e ∙ hit)
          where
            hit : (item.encoding == encoding_of schemas.first.order) ≡ true
            hit = grind (arith, nat_tests)

same_fault : (schema : WireSchema) (body : List ℕ) (f g : Fault) → IsPlaced schema → FirstFault schema f body → FirstFault schema g body → f ≡ g
same_fault schema body f g placed h k = err_is (sym ((message_judges schema placed).only body f h) ∙ (message_judges schema placed).only body g k)
  where
    err_is : {x y : Fault} → ◌≡◌ {A = Result Msg Fault} (Err x) (Err y) → x ≡ y
    err_is e = cc

pub answered_once : IsAnsweredOnce
answered_once schemas number item x y p q order h k =
    let schema = schema_for schemas item.body in
    let placed = placed_for schemas item.body order in
    elim h [
      | other_encoding n a b ↦ elim k [
        | other_encoding m c d ↦ (a ∙ sym c, b ∙ sym d)
        | a_message e m lies c d ↦ absurd (n e)
        | a_fault e f first c d ↦ absurd (n e)
      ]
      | a_message e m lies a b ↦ elim k [
        | other_encoding n c d ↦ absurd (n e)
        | a_message i l there c d ↦ (a ∙ ap (message_line schemas schema) (one_message schema placed m l item.body lies there) ∙ sym c, b ∙ sym d)
        | a_fault i f first c d ↦ absurd (not_both schema placed m f item.body lies first)
      ]
      | a_fault e f first a b ↦ elim k [
        | other_encoding n c d ↦ absurd (n e)
        | a_message i m lies c d ↦ absurd (not_both schema placed m f item.body lies first)
        | a_fault i g other c d ↦ (a ∙ ap (λ w. refused_line number (of_fault schema item.body w)) (same_fault schema item.body f g placed first other) ∙ sym c, b ∙ sym d)
      ]
    ]

-- ---- what the code writes

pub right_answer : (schemas : Schemas) (number encoding : ℕ) (body : List ℕ) → encoding ≡ encoding_of schemas.first.order →
    dumped schemas number (record { encoding = encoding; body = body }) ≡ body_answer schemas (schema_for schemas body) (record { encoding = encoding; body = body }) number
right_answer schemas number encoding body same =
    let hit : (encoding == encoding_of schemas.first.order) ≡ true = grind (arith, nat_tests) in
    ap (λ t. cond t (body_answer schemas (schema_for schemas body) (record { encoding = encoding; body = body }) number) (refusal (refused_line number (of_encoding encoding)))) hit

pub other_answer : (schemas : Schemas) (number encoding : ℕ) (body : List ℕ) → encoding ≢ encoding_of schemas.first.order →
    dumped schemas number (record { encoding = encoding; body = body }) ≡ refusal (refused_line number (of_encoding encoding))
other_answer schemas number encoding body differs = by (encoding == encoding_of schemas.first.order) refl
  where
    by : (t : Bool) → (encoding == encoding_of schemas.first.order) ≡ t →
        cond t (body_answer schemas (schema_for schemas body) (record { encoding = encoding; body = body }) number) (refusal (refused_line number (of_encoding encoding)))
        ≡ refusal (refused_line number (of_encoding encoding))
    by true e = let same : encoding ≡ encoding_of schemas.first.order = grind (arith, nat_tests) in absurd (differs same)
    by false e = refl

pub message_answer : (schemas : Schemas) (schema : WireSchema) (number : ℕ) (item : Item) (m : Msg) → IsPlaced schema → Lays schema m item.body →
    body_answer schemas schema item number ≡ record { line = message_line schemas schema m; is_message = true }
message_answer schemas schema number item m placed lies = ap (answer_by schemas schema item number) ((message_judges schema placed).complete item.body m lies)

pub fault_answer : (schemas : Schemas) (schema : WireSchema) (number : ℕ) (item : Item) (f : Fault) → IsPlaced schema → FirstFault schema f item.body →
    body_answer schemas schema item number ≡ refusal (refused_line number (of_fault schema item.body f))
fault_answer schemas schema number item f placed first = ap (answer_by schemas schema item number) ((message_judges schema placed).only item.body f first)

-- the line of what is seen is the line of the message
pub line_seen : (schema : WireSchema) (level : Level) (m : Msg) → slice_get schema.messages m.template ≡ Some level → compact_text (message_at (Some level) m) ≡ line_of schema m
line_seen schema level m at = ap (λ o. compact_text (message_at o m)) (sym at)

-- ---- what stands around a message

pub before_several : (also : List WireSchema) (id : ℕ) → (length also == 0) ≡ false → codes "{\"schema\":" ++ (decimal id ++ codes ",\"message\":") ≡ before_message also id
before_several [] id some = cc
before_several (other ∷ more) id some = refl

-- ---- an answer that was printed

module _ (schemas : Schemas) (schema : WireSchema) (number : ℕ) (item : Item) where
  module _ (seen : TypedMessage) (placed : IsPlaced schema) (lies : Lays schema seen.message item.body) (at : slice_get schema.messages seen.message.template ≡ Some seen.level) where
    line_told : before_message schemas.also schema.id ++ (view_line seen ++ behind_message schemas.also) ≡ (body_answer schemas schema item number).line
    line_told =
        ap (λ l. before_message schemas.also schema.id ++ (l ++ behind_message schemas.also)) (line_seen schema seen.level seen.message at)
        ∙ sym (ap (λ (a : Answer). a.line) (message_answer schemas schema number item seen.message placed lies))

    pub message_printed : {prints : List ℕ → Type 0} → prints (before_message schemas.also schema.id ++ (view_line seen ++ behind_message schemas.also)) → PrintsAnswer (body_answer schemas schema item number) prints true
    message_printed {prints} w = record { line = subst prints line_told w; told = sym (ap (λ (x : Answer). x.is_message) (message_answer schemas schema number item seen.message placed lies)) }

  module _ (r : Misread) (placed : IsPlaced schema) (first : FirstFault schema r.fault item.body) (meant : r.template ≡ message_meant schema item.body) where
    fault_told : refused_line number (of_fault_in schema r.template r.fault) ≡ (body_answer schemas schema item number).line
    fault_told =
        ap (λ o. refused_line number (of_fault_in schema o r.fault)) meant ∙ sym (ap (λ (a : Answer). a.line) (fault_answer schemas schema number item r.fault placed first))

    pub fault_printed : {prints : List ℕ → Type 0} → prints (refused_line number (of_fault_in schema r.template r.fault)) → PrintsAnswer (body_answer schemas schema item number) prints false
    fault_printed {prints} w = record { line = subst prints fault_told w; told = sym (ap (λ (x : Answer). x.is_message) (fault_answer schemas schema number item r.fault placed first)) }

-- the way of a refusal leads to a part of the message that is meant
pub way_there : (schema : WireSchema) (body : List ℕ) (r : Misread) → FirstFault schema r.fault body → r.template ≡ message_meant schema body → IsWay schema r.template r.fault.path
way_there schema body r first meant = subst (λ o. IsWay schema o r.fault.path) (sym meant) (faults_have_ways schema r.fault body first)

-- ---- a frame

module _ (schemas : Schemas) (number encoding : ℕ) (body : List ℕ) {prints : List ℕ → Type 0} where
  pub body_printed : (schema : WireSchema) (is_message : Bool) → schema ≡ schema_for schemas body → encoding ≡ encoding_of schemas.first.order →
      PrintsAnswer (body_answer schemas schema (record { encoding = encoding; body = body }) number) prints is_message → PrintsAnswer (dumped schemas number (record { encoding = encoding; body = body })) prints is_message
  body_printed schema is_message chosen same h =
      subst (λ x. PrintsAnswer x prints is_message) (ap (λ s. body_answer schemas s (record { encoding = encoding; body = body }) number) chosen ∙ sym (right_answer schemas number encoding body same)) h

  pub other_printed : encoding ≢ encoding_of schemas.first.order → prints (refused_line number (of_encoding encoding)) → PrintsAnswer (dumped schemas number (record { encoding = encoding; body = body })) prints false
  other_printed differs w = subst (λ x. PrintsAnswer x prints false) (sym (other_answer schemas number encoding body differs)) (record { line = w; told = refl })
