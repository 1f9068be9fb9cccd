-- What holds of each field that may be written of values holds of the fields of a message.
use Rattle.std.proofs.Common.{◌≡◌, ℕ, List, [], ◌∷◌, ◌++◌, length, decimal, Option, Some, None, Result, Ok, Err, refl, sym, ap, ◌∙◌, subst}
use Rattle.sbe_types.specs.declared.message.Value.{Value}
use Rattle.fix_values.specs.declared.rule.V.{V}
use Rattle.tagvalue_codec.specs.Fields.{Field}
use Rattle.bridge_rules.specs.Texts.{text_by}
use Rattle.bridge_rules.proofs.OptionLemmas.{ok_is}
use Rattle.bridge_terms.specs.MessageFields.{Unwritable, answer_fields, begins, entry_fields, fields_of, group_part, message_parts, slot_part}
use Rattle.bridge_terms.specs.Parts.{Part, fields_in}
use Rattle.bridge_terms.specs.Plans.{Each, Plan, Tree, done, single, group}
use Rattle.bridge_terms.proofs.Writing.{counted_is, delimited_is, entry_of, err_ok, fields_is, joined_is}
use Rattle.same_texts.specs.Same.{EachField}

pub each_append : {X : Type 0} (P : X → Type 0) (xs ys : List X) → Each P xs → Each P ys → Each P (xs ++ ys)
each_append P [] ys a b = b
each_append P (x ∷ xs) ys a b = (a.0, each_append P xs ys a.1 b)

module _ (P : Field → Type 0) where
  abbrev AreSo : List Part → Type 0
  AreSo parts = Each P (fields_in parts)

  slot_each : (tag : ℕ) (r : Result (Option (List ℕ)) V) (own more parts : List Part) → slot_part tag r ≡ Ok own → parts ≡ own ++ more
      → ((text : List ℕ) → r ≡ Ok (Some text) → P (record { tag = tag; value = text })) → AreSo more → AreSo parts
  slot_each tag (Err v) own more parts h is turn later = err_ok h
  slot_each tag (Ok None) own more parts h is turn later = subst AreSo (sym (is ∙ ap (λ ps. ps ++ more) (sym (ok_is h)))) later
  slot_each tag (Ok (Some text)) own more parts h is turn later =
      subst AreSo (sym (is ∙ ap (λ ps. ps ++ more) (sym (ok_is h)))) (turn text refl, later)

  entries_each : {X : Type 0} (Q : X → Type 0) (entry : X → Result (List Field) Unwritable) → ((e : X) (fs : List Field) → Q e → entry e ≡ Ok fs → Each P fs)
      → (es : List X) (run : List Field) → Each Q es → entry_fields entry es ≡ Ok run → Each P run
  entries_each Q entry turn [] run all h = subst (Each P) (ok_is h) tt
  entries_each Q entry turn (e ∷ es) run all h =
      let is = joined_is (entry e) (entry_fields entry es) run h in
      subst (Each P) (sym is.4) (each_append P is.0 is.1 (turn e is.0 all.0 is.2) (entries_each Q entry turn es is.1 all.1 is.3))

  group_each : {X : Type 0} (Q : X → Type 0) (tag : ℕ) (entry : X → Result (List Field) Unwritable) (es : List X) (own more parts : List Part)
      → ((e : X) (fs : List Field) → Q e → entry e ≡ Ok fs → Each P fs) → group_part tag entry es ≡ Ok own → parts ≡ own ++ more
      → P (record { tag = tag; value = decimal (length es) }) → Each Q es → AreSo more → AreSo parts
  group_each Q tag entry [] own more parts turn h is count all later = subst AreSo (sym (is ∙ ap (λ ps. ps ++ more) (sym (ok_is h)))) later
  group_each Q tag entry (e ∷ es) own more parts turn h is count all later =
      let one = counted_is tag (length (e ∷ es)) (entry_fields entry (e ∷ es)) own h in
      let run = entries_each Q entry turn (e ∷ es) one.0 all one.1 in
      subst AreSo (sym (is ∙ ap (λ ps. ps ++ more) one.2)) (count, each_append P one.0 (fields_in more) run later)

  pub parts_each : (p : Plan) (t : Tree Value p) → EachField P p t → (parts : List Part) → message_parts p t ≡ Ok parts → AreSo parts
  parts_each done t all parts h = subst AreSo (ok_is h) tt
  parts_each (single s rest) t all parts h =
      let is = joined_is (slot_part s.tag (text_by s.rule t.0)) (message_parts rest t.1) parts h in
      slot_each s.tag (text_by s.rule t.0) is.0 is.1 parts is.2 is.4 all.0 (parts_each rest t.1 all.1 is.1 is.3)
  parts_each (group g inner rest) t all parts h =
      let is = joined_is (group_part g.tag (entry_of g inner) t.0) (message_parts rest t.1) parts h in
      let entry = λ (e : Tree Value inner) (fs : List Field) (own : EachField P inner e) (k : entry_of g inner e ≡ Ok fs).
      let begun = delimited_is g.tag (begins inner e) (answer_fields (message_parts inner e)) fs k in
      let ps = fields_is (message_parts inner e) fs begun.1 in
      subst (Each P) (sym ps.2) (parts_each inner e own ps.0 ps.1) in
      group_each (λ e. EachField P inner e) g.tag (entry_of g inner) t.0 is.0 is.1 parts entry is.2 is.4 all.0 all.1 (parts_each rest t.1 all.2 is.1 is.3)

  pub fields_each : (p : Plan) (t : Tree Value p) (fields : List Field) → EachField P p t → fields_of p t ≡ Ok fields → Each P fields
  fields_each p t fields all h =
      let is = fields_is (message_parts p t) fields h in
      subst (Each P) (sym is.2) (parts_each p t all is.0 is.1)
