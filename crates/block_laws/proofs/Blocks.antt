-- A block whose fields are set one after another.
use Rattle.std.proofs.Common.{◌≡◌, ℕ, zero, suc, ◌+◌, ◌-◌, true, List, [], ◌∷◌, ◌++◌, length, take, replicate, slice_set, Some, None, Option, refl, sym, ap, ◌∙◌, arith}
use Rattle.std.specs.Prelude.{slice_get, option_map}
use Rattle.std.proofs.Math.Seq.{take-suc-set, take-length}
use Rattle.sbe_types.specs.declared.schema.Field.{Field}
use Rattle.sbe_types.specs.declared.message.Value.{Value}
use Rattle.sbe_types.specs.Places.{is_const, end_past, fields_end, field_place, width}
use Rattle.sbe_types.specs.Wire.{padded, wire_bytes}
use Rattle.sbe_wire.specs.Canonical.{block_bytes}
use Rattle.kind_bytes.specs.Members.{followed_by}
use Rattle.typed_writer.specs.Held.{spliced}
use Rattle.typed_writer.specs.Ready.{FieldsStand}
use Rattle.typed_writer.specs.Steps.{IsWritten}
use Rattle.block_laws.specs.Pieces.{laid, AreWide, wires, Ascend}
use Rattle.block_laws.specs.Blocks.{Task, HoldsFirst}
use Rattle.block_laws.proofs.Pieces.{below, laid_is, laid_long, many, no_bytes, set_keeps, wide_set, wires_more}

none_some : {A : Type 0} {x : A} → ◌≡◌ {A = Option A} None (Some x) → ⊥
none_some h = cc

some_is : {A : Type 0} {x y : A} → ◌≡◌ {A = Option A} (Some x) (Some y) → x ≡ y
some_is h = cc

-- fields that can stand begin one after another
pub ascend : (e : ℕ) (fs : List Field) → FieldsStand e fs → Ascend e fs
ascend e [] h = tt
ascend e (f ∷ fs) h = (h.0.begins, ascend (end_past e f.offset f.kind) fs h.1)

-- ---- a constant

nil_of : (p : List ℕ) → length p ≡ 0 → p ≡ []
nil_of [] h = refl
nil_of (x ∷ p) h = absurd (omega (arith, h))

none_there : (fs : List Field) (ps : List (List ℕ)) (i : ℕ) (f : Field) → AreWide fs ps → slice_get fs i ≡ Some f → width f.kind ≡ 0 → take (suc i) ps ≡ take i ps ++ [] ∷ []
none_there [] ps i f wide is none = absurd (none_some is)
none_there (g ∷ fs) [] i f wide is none = absurd wide
none_there (g ∷ fs) (p ∷ ps) zero f wide is none =
    ap (λ (z : List ℕ). z ∷ []) (nil_of p (wide.0 ∙ ap (λ (x : Field). width x.kind) (some_is is) ∙ none))
none_there (g ∷ fs) (p ∷ ps) (suc i) f wide is none = ap (λ z. p ∷ z) (none_there fs ps i f wide.1 is none)

-- ---- one after another

module _ (task : Task) (front bytes : List ℕ) (i : ℕ) (f : Field) (v : Value) (holds : HoldsFirst task i front bytes) (at : slice_get task.fields i ≡ Some f) (there : slice_get task.values i ≡ Some v) where
  -- the next field is set
  pub set_next : (p : ℕ) (new : List ℕ) → Ascend 0 task.fields → field_place 0 task.fields i ≡ Some p → IsWritten task.order f.kind v (length front + p) bytes new → HoldsFirst task (suc i) front new
  set_next p new up place written =
      let w = written.piece in
      let zeros : List ℕ = replicate (task.long - fields_end 0 task.fields) 0 in
      record {
        pieces = slice_set holds.pieces i w;
        wide = wide_set task.fields holds.pieces i f w holds.wide at written.wide;
        whole = written.bytes ∙ ap (λ z. spliced z (length front + p) w) holds.whole ∙ set_keeps front zeros task.fields holds.pieces i p f w up holds.wide place at written.wide;
        set = wires_more task.order task.fields task.values i f v w (take i holds.pieces) at there written.wire holds.set
            ∙ ap Some (sym (take-suc-set holds.pieces i w (below task.fields holds.pieces i f holds.wide at)));
      }

  -- a constant is passed over
  pub pass_next : is_const f.kind ≡ true → wire_bytes task.order f.kind v ≡ Some [] → HoldsFirst task (suc i) front bytes
  pass_next fixed none = record {
    pieces = holds.pieces;
    wide = holds.wide;
    whole = holds.whole;
    set = wires_more task.order task.fields task.values i f v [] (take i holds.pieces) at there none holds.set
        ∙ ap Some (sym (none_there task.fields holds.pieces i f holds.wide at (no_bytes f.kind fixed)));
  }

-- a block that holds all its values is the block of these values
pub all_set : (task : Task) (front bytes : List ℕ) → Ascend 0 task.fields → length task.values ≡ length task.fields → HoldsFirst task (length task.fields) front bytes →
    followed_by front (block_bytes task.order task.long task.fields task.values) ≡ Some bytes
all_set task front bytes up same holds =
    let fs = task.fields in
    let vs = task.values in
    let ps = holds.pieces in
    let fields : take (length fs) fs ≡ fs = take-length fs in
    let values : take (length fs) vs ≡ vs = ap (λ n. take n vs) (sym same) ∙ take-length vs in
    let pieces : take (length fs) ps ≡ ps = ap (λ n. take n ps) (sym (many fs ps holds.wide)) ∙ take-length ps in
    let all : wires task.order fs vs ≡ Some ps =
    ap (λ z. wires task.order z vs) (sym fields) ∙ ap (λ z. wires task.order (take (length fs) fs) z) (sym values) ∙ holds.set ∙ ap Some pieces in
    let ends = laid_long 0 fs ps up holds.wide in
    let long : length (laid 0 fs ps) ≡ fields_end 0 fs = omega (arith, ends) in
    ap (λ o. followed_by front (option_map (padded task.long) o)) (laid_is task.order 0 fs vs ps all)
    ∙ ap (λ n. Some (front ++ (laid 0 fs ps ++ replicate (task.long - n) 0))) long
    ∙ ap Some (sym holds.whole)
