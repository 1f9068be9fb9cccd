-- The fields that a table holds are all of a text, and the third has its MsgType.
use Rattle.std.proofs.Common.{◌≡◌, ◌<◌, ℕ, List, [], ◌∷◌, ◌++◌, length, slice_get, sym, ap, ◌∙◌, append_assoc, append-nil}
use Rattle.tagvalue_codec.specs.declared.data_tags.Pair.{Pair}
use Rattle.tagvalue_codec.specs.declared.table.FixField.{FixField}
use Rattle.tagvalue_codec.specs.Fields.{bytes_of, field_bytes, Field}
use Rattle.tagvalue_codec.specs.Places.{Holds}
use Rattle.tagvalue_codec.specs.Texts.{front, owed_after, sum_field, Body, Free, Owed}
use Rattle.app_fields.specs.Held.{HoldsFields}
use Rattle.fixcheck_command.specs.FixCheck.{type_of}
use Rattle.fixcheck_command.proofs.Typed.{third, type_field}
use Rattle.message_plans.proofs.Kinded.{at_within}
use Rattle.sbe_translation.specs.Plans.{HasKind}

body_is : (tags : List Pair) (owed : Owed) (fs : List Field) (b : List ℕ) → Body tags owed fs b → b ≡ bytes_of fs
body_is tags owed [] b h = h.1
body_is tags owed (f ∷ fs) b h = h.1 ∙ ap (λ r. field_bytes f ++ r) (body_is tags (owed_after tags owed f) fs h.0 h.3)

one_field_more : (fs : List Field) (g : Field) → bytes_of fs ++ field_bytes g ≡ bytes_of (fs ++ (g ∷ []))
one_field_more [] g = sym (append-nil (field_bytes g))
one_field_more (f ∷ fs) g = append_assoc (field_bytes f) (bytes_of fs) (field_bytes g) ∙ ap (λ r. field_bytes f ++ r) (one_field_more fs g)

module _ (tags : List Pair) (text : List ℕ) (table : List FixField) (h : Holds tags text table) where
  pub text_is : text ≡ bytes_of h.fields
  text_is =
      let p = h.is.parts in
      let last = sum_field (front p) in
      let body = body_is tags Free h.is.others p.rest h.is.body in
      let rest = append_assoc (field_bytes p.kind) p.rest p.last
      ∙ ap (λ r. field_bytes p.kind ++ r) (ap (λ r. r ++ p.last) body ∙ ap (λ r. bytes_of h.is.others ++ r) h.is.sum_is ∙ one_field_more h.is.others last) in
      h.is.typed.spans.opens.text_is ∙ ap (λ r. field_bytes p.begin ++ (field_bytes p.size ++ r)) rest ∙ sym (ap bytes_of h.is.fields_are)

  pub holds_fields : HoldsFields text table
  holds_fields = record { fields = h.fields; text_is = text_is; table_is = h.table_is }

  pub has_third : 2 < length table
  has_third = at_within table 2 (type_field tags text table h) (third tags text table h)

  pub kind_there : HasKind h.fields (type_of h.fields)
  kind_there = record { third = h.is.parts.kind; there = ap (λ fs. slice_get fs 2) h.is.fields_are; value = sym (ap type_of h.is.fields_are) }
