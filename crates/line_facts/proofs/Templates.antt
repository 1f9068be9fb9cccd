-- The template of a message that a line holds is found by its name among the schema's.
use Rattle.std.proofs.Common.{◌≡◌, ℕ, suc, ◌+◌, Bool, true, false, cond, List, [], ◌∷◌, Option, Some, None, Ok, Err, refl, sym, ◌∙◌, subst, arith}
use Rattle.std.specs.Prelude.{codes, slice_get}
use Rattle.std.specs.Option.{IsSome}
use Rattle.std.specs.Str.{bytes_eq}
use Rattle.serde_json.specs.Data.{Data, Members}
use Rattle.serde_json.specs.Find.{get_member, as_object, as_str}
use Rattle.sbe_types.specs.declared.schema.Level.{Level, out-Level}
use Rattle.sbe_types.specs.declared.schema.WireSchema.{WireSchema}
use Rattle.sbe_types.specs.declared.message.Block.{Block}
use Rattle.sbe_types.specs.declared.message.Msg.{Msg}
use Rattle.line_values.specs.declared.refusals.JCode.{JCode}
use Rattle.line_values.specs.declared.refusals.JCode.TheVariants.{Shape, UnknownName, Kind}
use Rattle.line_values.specs.Refusals.{Reading, ◌>>=◌, or_refuse}
use Rattle.line_values.specs.Objects.{known}
use Rattle.line_values.specs.Keys.{message_names}
use Rattle.line_reading.specs.Lines.{Template, level_named, named_template, template_in, version_in, message_with, message_read, found_in, block_read, json_value, tree_of}
use Rattle.line_facts.specs.Templates.{IsOfSchema}

-- ---- answers

bind_ok : {A B : Type 0} (r : Reading A) (f : A → Reading B) (y : B) → r >>= f ≡ Ok y → (x : A) × (r ≡ Ok x) × (f x ≡ Ok y)
bind_ok (Ok x) f y h = (x, refl, h)
bind_ok (Err e) f y h = cc

there_is : {A : Type 0} (code : JCode) (place : List ℕ) (o : Option A) (x : A) → or_refuse code place o ≡ Ok x → o ≡ Some x
there_is code place None x h = cc
there_is code place (Some y) x h = cc

-- ---- the template

-- a level that is found by its name stands at its number
named_there : (i : ℕ) (levels : List Level) (s : List ℕ) (t : Template) → level_named i levels s ≡ Some t → (k : ℕ) × (t.number ≡ i + k) × IsSome (slice_get levels k)
named_there i [] s t h = cc
named_there i (level ∷ levels) s t h = by (bytes_eq (out-Level level).name s) h (λ e. named_there (suc i) levels s t e)
  where
    by : (b : Bool) → cond b (Some (record { number = i; level = level })) (level_named (suc i) levels s) ≡ Some t
        → (level_named (suc i) levels s ≡ Some t → (k : ℕ) × (t.number ≡ suc i + k) × IsSome (slice_get levels k))
        → (k : ℕ) × (t.number ≡ i + k) × IsSome (slice_get (level ∷ levels) k)
    by true e next = let same : i ≡ t.number = cc in (0, sym same ∙ omega arith, refl)
    by false e next = let later = next e in (suc later.0, later.1 ∙ omega arith, later.2)

found_there : (levels : List Level) (s : List ℕ) (t : Template) → named_template levels s ≡ Ok t → IsSome (slice_get levels t.number)
found_there levels s t h =
    let named = named_there 0 levels s t (there_is UnknownName s (level_named 0 levels s) t h) in
    let same : named.0 ≡ t.number = sym (named.1 ∙ omega arith) in
    subst (λ k. IsSome (slice_get levels k)) same named.2

template_found : (levels : List Level) (found : Option Data) (t : Template) → template_in levels found ≡ Ok t → IsSome (slice_get levels t.number)
template_found levels None t h = cc
template_found levels (Some d) t h =
    let name = bind_ok (or_refuse Kind (codes "template") (as_str d)) (named_template levels) t h in
    found_there levels name.0 t name.2

-- ---- the message

module _ (schema : WireSchema) (m : Msg) where
  of_parts : (t : Template) (block : Block) → IsSome (slice_get schema.messages t.number) → ◌≡◌ {A = Reading Msg} (Ok (message_with schema.version t block)) (Ok m) → IsOfSchema schema m
  of_parts t block there h =
      let same : message_with schema.version t block ≡ m = cc in
      subst (IsOfSchema schema) same (record { template = there; version = refl })

  of_object : (ms : Members) → message_read schema ms ≡ Ok m → IsOfSchema schema m
  of_object ms h =
      let rest : Template → Reading Msg = λ t. version_in schema.version (get_member (codes "version") ms) >>= (λ _. known message_names ms >>= (λ _. block_read t.level ms >>= (λ block. Ok (message_with schema.version t block)))) in
      let template = bind_ok (template_in schema.messages (get_member (codes "template") ms)) rest m h in
      let t = template.0 in
      let version = bind_ok (version_in schema.version (get_member (codes "version") ms)) (λ _. known message_names ms >>= (λ _. block_read t.level ms >>= (λ block. Ok (message_with schema.version t block)))) m template.2 in
      let keys = bind_ok (known message_names ms) (λ _. block_read t.level ms >>= (λ block. Ok (message_with schema.version t block))) m version.2 in
      let block = bind_ok (block_read t.level ms) (λ block. Ok (message_with schema.version t block)) m keys.2 in
      of_parts t block.0 (template_found schema.messages (get_member (codes "template") ms) t template.1) block.2

  of_data : (found : Option Data) → found_in schema found ≡ Ok m → IsOfSchema schema m
  of_data None h = cc
  of_data (Some d) h = let object = bind_ok (or_refuse Shape [] (as_object d)) (message_read schema) m h in of_object object.0 object.2

pub line_of_schema : (schema : WireSchema) (line : List ℕ) (m : Msg) → tree_of schema line ≡ Ok m → IsOfSchema schema m
line_of_schema schema line m h = of_data schema m (json_value line) h

-- the schema has the template of a message that a line holds
pub template_there : (schema : WireSchema) (line : List ℕ) (m : Msg) → tree_of schema line ≡ Ok m → IsSome (slice_get schema.messages m.template)
template_there schema line m h = (line_of_schema schema line m h).template
