-- A field of a block: its place, and that it lies in the block.
use Rattle.std.proofs.Common.{◌≡◌, ◌≤◌, ◌<◌, ℕ, zero, suc, ◌+◌, Bool, true, false, cond, List, [], ◌∷◌, length, Some, None, refl, sym, ap, ◌∙◌, arith}
use Rattle.std.specs.Prelude.{slice_get}
use Rattle.std.specs.Option.{option_map, option_and_then, IsSome}
use Rattle.sbe_types.specs.declared.schema.Field.{Field}
use Rattle.sbe_types.specs.declared.schema.Level.{out-Level}
use Rattle.sbe_types.specs.declared.schema.WireSchema.{WireSchema}
use Rattle.sbe_types.specs.declared.message.Value.{Value}
use Rattle.sbe_types.specs.declared.path.Step.TheVariants as way
use Rattle.sbe_wire.specs.Misfit.{misfit_in}
use Rattle.sbe_types.specs.Places.{width, is_const, begin_of, end_past, fields_end, field_place}
use Rattle.schema_facts.specs.CheckedLevels.{HasKinds}
use Rattle.schema_facts.specs.InOrder.{IsKindInOrder}
use Rattle.schema_facts.specs.IsChecked.{IsChecked}
use Rattle.schema_facts.specs.Levels.{all_nodes, fields_at}
use Rattle.schema_facts.proofs.KindDeclared.{all_at}
use Rattle.layout_tables.proofs.Items.{item_there}
use Rattle.layout_tables.proofs.Told.{place_there}
use Rattle.kind_bytes.specs.Misfits.{field_misfit}
use Rattle.typed_writer.specs.Held.{Held}
use Rattle.typed_writer.specs.Ready.{FieldsStand}
use Rattle.typed_writer.specs.States.{block_at}
use Rattle.typed_writer.specs.Steps.{Sets, SetsField, misfit_at}
use Rattle.typed_writer.proofs.Checked.{fields_are, fields_stand, fields_within}
use Rattle.typed_writer.proofs.Rising.{fields_rise}

pub moving_place : (schema : WireSchema) (n i : ℕ) (f : Field) → slice_get (fields_at schema n) i ≡ Some f → is_const f.kind ≡ false → IsSome (field_place 0 (fields_at schema n) i)
moving_place schema n i f at moves =
    place_there (fields_at schema n) i f.kind (ap (option_map (λ (f : Field). f.kind)) at) moves

placed : (b : Bool) (e n w p : ℕ) → cond b None (Some n) ≡ Some p → cond b e (n + w) ≡ p + w
placed true e n w p h = cc
placed false e n w p h = let same : n ≡ p = cc in ap (λ k. k + w) same

within_all : (e : ℕ) (fs : List Field) (i p : ℕ) (f : Field) → FieldsStand e fs → slice_get fs i ≡ Some f → field_place e fs i ≡ Some p → p + width f.kind ≤ fields_end e fs
within_all e [] i p f stand at place = cc
within_all e (x ∷ fs) zero p f stand at place =
    let same : x ≡ f = cc in
    let here : end_past e x.offset x.kind ≡ p + width x.kind = placed (is_const x.kind) e (begin_of e x.offset) (width x.kind) p place in
    let rest = fields_rise (end_past e x.offset x.kind) fs stand.1 in
    let wide : width x.kind ≡ width f.kind = ap (λ (f : Field). width f.kind) same in
    omega (arith, here, rest, wide)
within_all e (x ∷ fs) (suc i) p f stand at place = within_all (end_past e x.offset x.kind) fs i p f stand.1 at place

pub field_inside : (schema : WireSchema) (n i p : ℕ) (f : Field) → IsChecked schema → n < length (all_nodes schema) → slice_get (fields_at schema n) i ≡ Some f →
    field_place 0 (fields_at schema n) i ≡ Some p → p + width f.kind ≤ block_at schema n
field_inside schema n i p f checked low at place =
    let all = within_all 0 (fields_at schema n) i p f (fields_stand schema n checked low) at place in
    let ends = fields_within schema n checked low in
    omega (arith, all, ends)

pub field_order : (schema : WireSchema) (n i : ℕ) (f : Field) → IsChecked schema → n < length (all_nodes schema) → slice_get (fields_at schema n) i ≡ Some f → IsKindInOrder f.kind
field_order schema n i f checked low at =
    let w = item_there (all_nodes schema) n low in
    let kinds : HasKinds w.0 = all_at HasKinds (all_nodes schema) n w.0 checked.kinds.levels w.1 in
    all_at (λ (f : Field). IsKindInOrder f.kind) (out-Level w.0.level).fields i f kinds.fields (ap (λ fs. slice_get fs i) (sym (fields_are schema n w.0 w.1)) ∙ at)

pub sets_field : (schema : WireSchema) (n i p : ℕ) (f : Field) (v : Value) (old new : Held) → slice_get (fields_at schema n) i ≡ Some f → field_place 0 (fields_at schema n) i ≡ Some p →
    Sets schema.order f.kind v p i old new → SetsField schema n i v old new
sets_field schema n i p f v old new at place sets = (f, p, at, place, sets)

pub misfit_told : (schema : WireSchema) (n i : ℕ) (f : Field) (v : Value) → slice_get (fields_at schema n) i ≡ Some f → misfit_in (way.Part i) (field_misfit f.kind v) ≡ misfit_at schema n i v
misfit_told schema n i f v at = sym (ap (option_and_then (λ (f : Field). misfit_in (way.Part i) (field_misfit f.kind v))) at)
