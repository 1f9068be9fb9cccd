-- The answer of `build` to a line: there is one, and the code puts it.
use Rattle.std.proofs.Common.{◌≡◌, ◌≢◌, ℕ, List, [], ◌∷◌, Option, Some, None, Result, Ok, Err, refl, sym, ap, ◌∙◌, subst}
use Rattle.std.specs.Prelude.{unwrap_or}
use Rattle.sbe_types.specs.declared.schema.WireSchema.{WireSchema}
use Rattle.sbe_types.specs.declared.message.Msg.{Msg}
use Rattle.sbe_wire.specs.Misfit.{Misfit, misfit}
use Rattle.sbe_wire.specs.Canonical.{canonical}
use Rattle.schema_facts.specs.IsChecked.{IsChecked}
use Rattle.line_values.specs.Refusals.{Refusal}
use Rattle.line_reading.specs.Lines.{tree_of}
use Rattle.refused_items.specs.Refused.{refused_line}
use Rattle.build_command.specs.Build.{IsBuilt, no_bytes, no_message, no_room, a_frame, body_limit, built_reply, read_reply, message_reply, frame_reply, refused_reply, of_misfit, unread_line}
use Rattle.replies.specs.Reply.{Reply}
use Rattle.build_command.proofs.Buildable.{body_there}

-- ---- there is one

no_empty : (b : ℕ) (line : List ℕ) → b ∷ line ≢ []
no_empty b line h = cc

module _ (schema : WireSchema) (limit item : ℕ) (checked : IsChecked schema) (line : List ℕ) (some : line ≢ []) where
  message_built : (m : Msg) → tree_of schema line ≡ Ok m → (found : Option Misfit) → misfit schema m (body_limit limit) ≡ found → IsBuilt schema limit item line (message_reply schema item m found)
  message_built m read None e =
      let body = body_there schema m (body_limit limit) checked e in
      a_frame some m read e body.0 body.1 (ap (λ (b : Option (List ℕ)). frame_reply schema (unwrap_or b [])) body.1)
  message_built m read (Some why) e = no_room some m read why e refl

  read_built : (read : Result Msg Refusal) → tree_of schema line ≡ read → IsBuilt schema limit item line (read_reply schema limit item read)
  read_built (Ok m) e = message_built m e (misfit schema m (body_limit limit)) refl
  read_built (Err why) e = no_message some why e refl

pub is_built : (schema : WireSchema) (limit item : ℕ) (line : List ℕ) → IsChecked schema → IsBuilt schema limit item line (built_reply schema limit item line)
is_built schema limit item [] checked = no_bytes refl refl
is_built schema limit item (b ∷ line) checked = read_built schema limit item checked (b ∷ line) (no_empty b line) (tree_of schema (b ∷ line)) refl

-- ---- there is no other

ok_err : {m : Msg} {why : Refusal} → ◌≡◌ {A = Result Msg Refusal} (Ok m) (Err why) → ⊥
ok_err h = cc

ok_ok : {m n : Msg} → ◌≡◌ {A = Result Msg Refusal} (Ok m) (Ok n) → m ≡ n
ok_ok h = cc

err_err : {x y : Refusal} → ◌≡◌ {A = Result Msg Refusal} (Err x) (Err y) → x ≡ y
err_err h = cc

none_some : {x : Misfit} → ◌≡◌ {A = Option Misfit} None (Some x) → ⊥
none_some h = cc

some_some : {x y : Misfit} → ◌≡◌ {A = Option Misfit} (Some x) (Some y) → x ≡ y
some_some h = cc

same_bytes : {x y : List ℕ} → ◌≡◌ {A = Option (List ℕ)} (Some x) (Some y) → x ≡ y
same_bytes h = cc

module _ (schema : WireSchema) (limit item : ℕ) (line : List ℕ) (a b : Reply) where
  same_message : (m n : Msg) → tree_of schema line ≡ Ok m → tree_of schema line ≡ Ok n → m ≡ n
  same_message m n h k = ok_ok (sym h ∙ k)

  fits_so : (m n : Msg) (found : Option Misfit) → m ≡ n → misfit schema m (body_limit limit) ≡ found → misfit schema n (body_limit limit) ≡ found
  fits_so m n found same h = subst (λ (x : Msg). misfit schema x (body_limit limit) ≡ found) same h

  pub built_once : IsBuilt schema limit item line a → IsBuilt schema limit item line b → a ≡ b
  built_once h k = elim h [
    | no_bytes none is ↦ elim k [
      | no_bytes o i ↦ is ∙ sym i
      | no_message some w r i ↦ absurd (some none)
      | no_room some m r w f i ↦ absurd (some none)
      | a_frame some m r f body c i ↦ absurd (some none)
    ]
    | no_message some why read is ↦ elim k [
      | no_bytes o i ↦ absurd (some o)
      | no_message s w r i ↦ is ∙ ap (λ (x : Refusal). refused_reply (unread_line item x)) (err_err (sym read ∙ r)) ∙ sym i
      | no_room s m r w f i ↦ absurd (ok_err (sym r ∙ read))
      | a_frame s m r f body c i ↦ absurd (ok_err (sym r ∙ read))
    ]
    | no_room some m read why unfit is ↦ elim k [
      | no_bytes o i ↦ absurd (some o)
      | no_message s w r i ↦ absurd (ok_err (sym read ∙ r))
      | no_room s n r w f i ↦
          let same = same_message m n read r in
          let found : why ≡ w = some_some (sym (fits_so m n (Some why) same unfit) ∙ f) in
          is ∙ ap (λ (x : Msg). refused_reply (refused_line item (of_misfit schema x.template why))) same ∙ ap (λ (x : Misfit). refused_reply (refused_line item (of_misfit schema n.template x))) found ∙ sym i
      | a_frame s n r f body c i ↦ absurd (none_some (sym f ∙ fits_so m n (Some why) (same_message m n read r) unfit))
    ]
    | a_frame some m read fit body bytes is ↦ elim k [
      | no_bytes o i ↦ absurd (some o)
      | no_message s w r i ↦ absurd (ok_err (sym read ∙ r))
      | no_room s n r w f i ↦ absurd (none_some (sym (fits_so m n None (same_message m n read r) fit) ∙ f))
      | a_frame s n r f other c i ↦
          let same = same_message m n read r in
          let there : canonical schema n ≡ Some body = subst (λ (x : Msg). canonical schema x ≡ Some body) same bytes in
          is ∙ ap (frame_reply schema) (same_bytes (sym there ∙ c)) ∙ sym i
    ]
  ]
