-- The fields of a block, set one after another to values that fit.
use Rattle.std.proofs.Common.{◌≡◌, ℕ, zero, suc, ◌+◌, ◌-◌, ◌≤◌, ◌<◌, ◌&&◌, Bool, true, false, not, cond, List, [], ◌∷◌, ◌++◌, length, take, replicate, slice_set, length-append, Option, Some, None, refl, sym, ap, ◌∙◌, subst, arith}
use Rattle.std.specs.Prelude.{slice_get}
use Rattle.std.specs.Option.{option_and_then, option_map_or}
use Rattle.std.proofs.lemmas.List.{length-replicate}
use Rattle.std.proofs.lemmas.Option.{slice_get_within}
use Rattle.std.proofs.Math.Seq.{take-length}
use Rattle.sbe_types.specs.declared.kind.Kind.{Kind, Leaf, Enum, Set, Const, Comp'}
use Rattle.sbe_types.specs.declared.kind.Order.{Order}
use Rattle.sbe_types.specs.declared.message.Block.{Block, out-Block}
use Rattle.sbe_types.specs.declared.message.Value.{Value}
use Rattle.sbe_types.specs.declared.message.Value.TheVariants as value
use Rattle.sbe_types.specs.declared.path.Step.TheVariants as way
use Rattle.sbe_types.specs.declared.schema.Field.{Field}
use Rattle.sbe_types.specs.declared.schema.Level.{Level, out-Level}
use Rattle.sbe_types.specs.declared.schema.WireSchema.{WireSchema}
use Rattle.sbe_types.specs.Places.{is_const, end_past, fields_end, field_place}
use Rattle.sbe_types.specs.Wire.{wire_bytes, const_bytes}
use Rattle.sbe_wire.specs.Misfit.{misfit_in, other_kind, const_misfit, value_misfit, fields_misfit}
use Rattle.sbe_wire.specs.Placed.{ArePlaced}
use Rattle.schema_facts.specs.Levels.{level_at, fields_at, fields_in}
use Rattle.body_walk.specs.inner.Ready.{IsReadySchema}
use Rattle.body_walk.proofs.LevelsReady.{level_ready}
use Rattle.kind_bytes.specs.Misfits.{field_misfit}
use Rattle.typed_writer.specs.Held.{Held}
use Rattle.typed_writer.specs.States.{SetsFields, level_of, block_at}
use Rattle.typed_writer.specs.Steps.{IsWritten, Sets, SetsField, misfit_at, must_be_set, unset_from}
use Rattle.typed_writer.proofs.Checked.{fields_within}
use Rattle.block_laws.specs.Pieces.{Ascend, laid}
use Rattle.block_laws.specs.Blocks.{HoldsFirst, Task}
use Rattle.block_laws.proofs.Pieces.{laid_long}
use Rattle.block_laws.proofs.Blocks.{set_next, pass_next, all_set}
use Rattle.block_laws.proofs.Empty.{begun}
use Rattle.tree_codec.specs.Puts.{AreSet, Fills, HoldsNext, SameBlock, task_of}
use Rattle.tree_codec.proofs.ShapesBelow.{none_first, none_second, none_in}

some_is : {A : Type 0} {x y : A} → ◌≡◌ {A = Option A} (Some x) (Some y) → x ≡ y
some_is h = cc

none_some : {A : Type 0} {x : A} → ◌≡◌ {A = Option A} None (Some x) → ⊥
none_some h = cc

-- ---- values that fit

pub fits_at : (k : ℕ) (fs : List Field) (vs : List Value) (i : ℕ) (f : Field) (v : Value) → fields_misfit k fs vs ≡ None → slice_get fs i ≡ Some f → slice_get vs i ≡ Some v → value_misfit f.kind v ≡ None
fits_at k [] vs i f v h at there = absurd (none_some at)
fits_at k (g ∷ fs) [] i f v h at there = absurd (none_some there)
fits_at k (g ∷ fs) (u ∷ vs) zero f v h at there =
    let here = none_in (way.Part k) (value_misfit g.kind u) (none_first (misfit_in (way.Part k) (value_misfit g.kind u)) (fields_misfit (suc k) fs vs) h) in
    sym (ap (λ (x : Field). value_misfit x.kind u) (some_is at) ∙ ap (λ x. value_misfit f.kind x) (some_is there)) ∙ here
fits_at k (g ∷ fs) (u ∷ vs) (suc i) f v h at there =
    fits_at (suc k) fs vs i f v (none_second (misfit_in (way.Part k) (value_misfit g.kind u)) (fields_misfit (suc k) fs vs) h) at there

pub some_none : {A : Type 0} {x : A} → ◌≡◌ {A = Option A} (Some x) None → ⊥
some_none h = cc

constant : (v : Value) → const_misfit v ≡ None → const_bytes v ≡ Some []
constant value.Const h = refl
constant (value.Num n) h = absurd (some_none h)
constant value.Null h = absurd (some_none h)
constant (value.Text text) h = absurd (some_none h)
constant (value.Nums elements) h = absurd (some_none h)
constant (value.Enum n) h = absurd (some_none h)
constant (value.Set n) h = absurd (some_none h)
constant (value.Comp' n row) h = absurd (some_none h)
constant value.Absent h = absurd (some_none h)

constant_bytes : (order : Order) (kind : Kind) (v : Value) → is_const kind ≡ true → value_misfit kind v ≡ None → wire_bytes order kind v ≡ Some []
constant_bytes order (Leaf l) v fixed h = cc
constant_bytes order (Enum l names) v fixed h = cc
constant_bytes order (Set p names) v fixed h = cc
constant_bytes order (Const c) v fixed h = constant v h
constant_bytes order (Comp' n members) v fixed h = cc

-- a value that fits is refused by no field but a constant
pub never_refused : (schema : WireSchema) (n i : ℕ) (f : Field) (v : Value) → slice_get (fields_at schema n) i ≡ Some f → is_const f.kind ≡ false → value_misfit f.kind v ≡ None → misfit_at schema n i v ≡ None
never_refused schema n i f v at moves fits =
    ap (option_and_then (λ (x : Field). misfit_in (way.Part i) (field_misfit x.kind v))) at
    ∙ ap (λ t. misfit_in (way.Part i) (cond t other_kind (value_misfit f.kind v))) moves
    ∙ ap (misfit_in (way.Part i)) fits

-- ---- which fields are set

and_false : (b : Bool) → b && false ≡ false
and_false true = refl
and_false false = refl

neither : (t : Bool) (k : ℕ) (rest : Option ℕ) → cond t (Some k) rest ≡ None → (t ≡ false) × (rest ≡ None)
neither true k rest h = absurd (some_none h)
neither false k rest h = (refl, h)

set_more : (k : ℕ) (fs : List Field) (bs : List Bool) (i : ℕ) → i < length bs → unset_from k (take i fs) (take i bs) ≡ None → unset_from k (take (suc i) fs) (take (suc i) (slice_set bs i true)) ≡ None
set_more k [] bs i low h = refl
set_more k (f ∷ fs) [] i low h = absurd (omega (arith, low))
set_more k (f ∷ fs) (b ∷ bs) zero low h = ap (λ t. cond t (Some k) None) (and_false (must_be_set f.kind))
set_more k (f ∷ fs) (b ∷ bs) (suc i) low h =
    let two = neither (must_be_set f.kind && not b) k (unset_from (k + 1) (take i fs) (take i bs)) h in
    ap (λ t. cond t (Some k) (unset_from (k + 1) (take (suc i) fs) (take (suc i) (slice_set bs i true)))) two.0
    ∙ set_more (k + 1) fs bs i (omega (arith, low)) two.1

pass_more : (k : ℕ) (fs : List Field) (bs : List Bool) (i : ℕ) (f : Field) → slice_get fs i ≡ Some f → must_be_set f.kind ≡ false → unset_from k (take i fs) (take i bs) ≡ None → unset_from k (take (suc i) fs) (take (suc i) bs) ≡ None
pass_more k [] bs i f at free h = absurd (none_some at)
pass_more k (g ∷ fs) [] i f at free h = refl
pass_more k (g ∷ fs) (b ∷ bs) zero f at free h = ap (λ t. cond (t && not b) (Some k) None) (ap (λ (x : Field). must_be_set x.kind) (some_is at) ∙ free)
pass_more k (g ∷ fs) (b ∷ bs) (suc i) f at free h =
    let two = neither (must_be_set g.kind && not b) k (unset_from (k + 1) (take i fs) (take i bs)) h in
    ap (λ t. cond t (Some k) (unset_from (k + 1) (take (suc i) fs) (take (suc i) bs))) two.0 ∙ pass_more (k + 1) fs bs i f at free two.1

constant_free : (kind : Kind) → is_const kind ≡ true → must_be_set kind ≡ false
constant_free (Leaf l) h = cc
constant_free (Enum l names) h = cc
constant_free (Set p names) h = cc
constant_free (Const c) h = refl
constant_free (Comp' n members) h = cc

-- ---- one field

ascend : (e : ℕ) (fs : List Field) → ArePlaced e fs → Ascend e fs
ascend e [] h = tt
ascend e (f ∷ fs) h = (h.0, ascend (end_past e f.offset f.kind) fs h.2)

pub level_ascends : (schema : WireSchema) (n : ℕ) (level : Level) → IsReadySchema schema → level_at schema n ≡ Some level → Ascend 0 (out-Level level).fields
level_ascends schema n level ready at = ascend 0 (out-Level level).fields (level_ready schema n level ready at).placed

field_set : (task : Task) (i p : ℕ) (f : Field) (v : Value) (old new : Held) → Ascend 0 task.fields → slice_get task.fields i ≡ Some f → slice_get task.values i ≡ Some v → field_place 0 task.fields i ≡ Some p →
    i < length old.set → Sets task.order f.kind v p i old new → HoldsNext task i old new
field_set task i p f v old new up at there place low sets =
    let on : suc i ≡ i + 1 = omega arith in
    record {
      holds = λ front long h.
          subst (λ k. HoldsFirst task k front new.bytes) on
          (set_next task front old.bytes i f v h at there p new.bytes up place (subst (λ n. IsWritten task.order f.kind v (n + p) old.bytes new.bytes) (sym long) sets.written));
      set = λ h.
          subst (λ k. AreSet task k new) on
          (ap (λ s. unset_from 0 (take (suc i) task.fields) (take (suc i) s)) sets.set ∙ set_more 0 task.fields old.set i low h);
      same = record { frames = sets.frames; at = sets.at; limit = sets.limit };
    }

module _ (schema : WireSchema) (level : Level) (block : Block) (i : ℕ) (held : Held) (ready : IsReadySchema schema) (at : level_at schema (level_of held.frames) ≡ Some level) where
  abbrev fields : List Field
  fields = (out-Level level).fields

  own_fields : fields_at schema (level_of held.frames) ≡ fields
  own_fields = ap fields_in at

  -- a field that was set to its value
  pub value_holds : (v : Value) (new : Held) → SetsFields schema held → slice_get (out-Block block).fields i ≡ Some v → SetsField schema (level_of held.frames) i v held new → HoldsNext (task_of schema level block) i held new
  value_holds v new state there sets =
      let f = sets.0 in
      let here : slice_get fields i ≡ Some f = ap (λ fs. slice_get fs i) (sym own_fields) ∙ sets.2 in
      let place : field_place 0 fields i ≡ Some sets.1 = ap (λ fs. field_place 0 fs i) (sym own_fields) ∙ sets.3 in
      let within = slice_get_within fields i f here in
      let low : i < length held.set = omega (arith, within, state.marks, ap length own_fields) in
      field_set (task_of schema level block) i sets.1 f v held new (level_ascends schema (level_of held.frames) level ready at) here there place low sets.4

  -- a constant, which stays as it is
  pub constant_holds : (f : Field) (v : Value) → slice_get fields i ≡ Some f → slice_get (out-Block block).fields i ≡ Some v → is_const f.kind ≡ true → value_misfit f.kind v ≡ None →
      HoldsNext (task_of schema level block) i held held
  constant_holds f v here there fixed fits =
      let task = task_of schema level block in
      let on : suc i ≡ i + 1 = omega arith in
      record {
        holds = λ front long h.
            subst (λ k. HoldsFirst task k front held.bytes) on (pass_next task front held.bytes i f v h here there fixed (constant_bytes schema.order f.kind v fixed fits));
        set = λ h. subst (λ k. AreSet task k held) on (pass_more 0 fields held.set i f here (constant_free f.kind fixed) h);
        same = record { frames = refl; at = refl; limit = refl };
      }

  -- the field, as the writer has it
  pub own_field : (f : Field) → slice_get fields i ≡ Some f → slice_get (fields_at schema (level_of held.frames)) i ≡ Some f
  own_field f here = ap (λ fs. slice_get fs i) own_fields ∙ here

-- ---- a block

same_steps : (a b c : Held) → SameBlock a b → SameBlock b c → SameBlock a c
same_steps a b c h k = record { frames = k.frames ∙ h.frames; at = k.at ∙ h.at; limit = k.limit ∙ h.limit }

-- what is held so far of a block that was empty
pub record FilledTo (task : Task) (i : ℕ) (old new : Held) : Type 0 where
  pub holds : (front : List ℕ) → length front ≡ old.at → HoldsFirst task 0 front old.bytes → HoldsFirst task i front new.bytes
  pub set : AreSet task i new
  pub same : SameBlock old new

pub none_filled : (task : Task) (held : Held) → FilledTo task 0 held held
none_filled task held = record { holds = λ front long h. h; set = nothing task.fields held.set; same = record { frames = refl; at = refl; limit = refl } }
  where
    nothing : (fs : List Field) (bs : List Bool) → unset_from 0 (take 0 fs) (take 0 bs) ≡ None
    nothing fs bs = refl

pub next_filled : (task : Task) (i : ℕ) (old now new : Held) → FilledTo task i old now → HoldsNext task i now new → FilledTo task (i + 1) old new
next_filled task i old now new so_far next = record {
  holds = λ front long h. next.holds front (long ∙ sym so_far.same.at) (so_far.holds front long h);
  set = next.set so_far.set;
  same = same_steps old now new so_far.same next.same;
}

whole_long : (task : Task) (front bytes : List ℕ) → Ascend 0 task.fields → fields_end 0 task.fields ≤ task.long → HoldsFirst task (length task.fields) front bytes → length bytes ≡ length front + task.long
whole_long task front bytes up within holds =
    let zeros : List ℕ = replicate (task.long - fields_end 0 task.fields) 0 in
    let pieces : List ℕ = laid 0 task.fields holds.pieces in
    let ends = laid_long 0 task.fields holds.pieces up holds.wide in
    let one = length-append front (pieces ++ zeros) in
    let two = length-append pieces zeros in
    let rest : length zeros ≡ task.long - fields_end 0 task.fields = length-replicate (task.long - fields_end 0 task.fields) 0 in
    omega (arith, ap length holds.whole, one, two, rest, ends, within)

own_block : (schema : WireSchema) (n : ℕ) (level : Level) → level_at schema n ≡ Some level → block_at schema n ≡ (out-Level level).block_length
own_block schema n level at = ap (λ o. option_map_or (λ (l : Level). (out-Level l).block_length) o 0) at

-- all is set
pub all_filled : (schema : WireSchema) (level : Level) (block : Block) (old new : Held) → IsReadySchema schema → SetsFields schema new → level_at schema (level_of new.frames) ≡ Some level →
    length (out-Level level).fields ≡ length (out-Block block).fields → FilledTo (task_of schema level block) (length (out-Level level).fields) old new → Fills (task_of schema level block) old new
all_filled schema level block old new ready state at many filled =
    let task = task_of schema level block in
    let n = level_of new.frames in
    let fs = (out-Level level).fields in
    let up = level_ascends schema n level ready at in
    let own : fields_at schema n ≡ fs = ap fields_in at in
    let ends = fields_within schema n ready.checked state.level in
    let within : fields_end 0 fs ≤ (out-Level level).block_length = omega (arith, ends, own_block schema n level at, ap (fields_end 0) own) in
    let marks : length new.set ≡ length fs = state.marks ∙ ap length own in
    record {
      bytes = λ front long h. all_set task front new.bytes up (sym many) (filled.holds front long (begun task front old.bytes up h));
      long = λ front long h. whole_long task front new.bytes up within (filled.holds front long (begun task front old.bytes up h));
      set =
          sym (ap (λ xs. unset_from 0 xs (take (length fs) new.set)) (take-length fs)
          ∙ ap (unset_from 0 fs) (ap (λ k. take k new.set) (sym marks) ∙ take-length new.set))
          ∙ filled.set;
      same = filled.same;
    }
