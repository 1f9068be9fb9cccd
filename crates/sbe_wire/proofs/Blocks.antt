-- What is read of a block is what lies in it.
use Rattle.std.proofs.Common.{◌≡◌, inl, inr, ℕ, suc, ◌+◌, ◌≤◌, Bool, true, false, cond, List, [], ◌∷◌, ◌++◌, length, take, drop, Option, Result, Ok, refl, sym, ap, ◌∙◌, subst, arith, length-append, length-take}
use Rattle.std.proofs.Math.Seq.{take-append_seam, drop-append_seam}
use Rattle.std.proofs.lemmas.List.{take-append-drop}
use Rattle.std.specs.Prelude.{not, ◌&&◌}
use Rattle.sbe_types.specs.declared.kind.Kind.{Kind}
use Rattle.sbe_types.specs.declared.path.Step.TheVariants as way
use Rattle.sbe_types.specs.declared.schema.Field.{Field}
use Rattle.sbe_types.specs.declared.message.Value.{Value}
use Rattle.sbe_types.specs.declared.message.Value.TheVariants as value
use Rattle.sbe_types.specs.declared.message.Block.{Block, out-Block}
use Rattle.sbe_types.specs.Places.{width, is_const, begin_of, end_past}
use Rattle.sbe_types.specs.Shows.{Shows}
use Rattle.sbe_wire.specs.declared.mode.Mode.{Mode}
use Rattle.sbe_wire.specs.Versions.{is_alive, floor, floor_from, BlockForm}
use Rattle.sbe_wire.specs.Lays.{FieldLays, FieldsLay, BlockLays, EntryLays}
use Rattle.sbe_wire.specs.Faults.{Fault, shifted, under, TooShort, FaultAfter, KindFault, Place, FieldFault, FieldsFault, BlockFault, EntryFault}
use Rattle.sbe_wire.specs.Reading.{Reader, later, inside, then_read, nothing, bytes_read, value_read, field_read, fields_read, block_read, Tail, block_of, entry_read}
use Rattle.sbe_wire.specs.Agree.{Judges, Reads}
use Rattle.sbe_wire.specs.Placed.{BeginsBehind, ArePlaced}
use Rattle.sbe_wire.proofs.Combine.{ok_is, restated, After, after, MadeOf, made, so_many, JudgedOf, JudgedFault, computed}
use Rattle.sbe_wire.proofs.Judging.{never, rejudged, moved, chosen, beside, Beside, BesideFault}
use Rattle.sbe_wire.proofs.Values.{kind_judges, part_long}

past_grows : (e : ℕ) (offset : Option ℕ) (kind : Kind) (t : Bool) → is_const kind ≡ t → BeginsBehind e offset kind → e ≤ cond t e (begin_of e offset + width kind)
past_grows e offset kind true c h = omega arith
past_grows e offset kind false c h = let begins : e ≤ begin_of e offset = h c in omega arith

-- how far the block must reach when one more field is seen
abbrev pub reach : ℕ → ℕ → ℕ → Field → ℕ
reach version e reached f = cond (is_alive version f.since && not (is_const f.kind)) (end_past e f.offset f.kind) reached

pub reach_within : (version e reached : ℕ) (f : Field) (t : Bool) → (is_alive version f.since && not (is_const f.kind)) ≡ t → reached ≤ e → BeginsBehind e f.offset f.kind → cond t (end_past e f.offset f.kind) reached ≤ end_past e f.offset f.kind
reach_within version e reached f true c within h = omega arith
reach_within version e reached f false c within h = let grows = past_grows e f.offset f.kind (is_const f.kind) refl h in omega (arith, grows)

reaches_more : (version e reached : ℕ) (f : Field) (u : Bool) → reached ≤ end_past e f.offset f.kind → reached ≤ cond u (end_past e f.offset f.kind) reached
reaches_more version e reached f true k = k
reaches_more version e reached f false k = omega arith

pub floor_reaches : (version e reached : ℕ) (fields : List Field) → reached ≤ e → ArePlaced e fields → reached ≤ floor_from version e reached fields
floor_reaches version e reached [] within h = omega arith
floor_reaches version e reached (f ∷ fs) within h =
    let there = floor_reaches version (end_past e f.offset f.kind) (reach version e reached f) fs (reach_within version e reached f _ refl within h.0) h.2 in
    let grows = past_grows e f.offset f.kind (is_const f.kind) refl h.0 in
    let here : reached ≤ reach version e reached f = reaches_more version e reached f (is_alive version f.since && not (is_const f.kind)) (omega (arith, grows)) in
    omega (arith, there, here)

-- the place where fields before it end at e, and are i
abbrev place : ℕ → ℕ → Place
place e i = record { end = e; index = i }

module _ (mode : Mode) where
  abbrev JudgesFields : ℕ → ℕ → ℕ → List Field → Type 0
  JudgesFields e reached i fields = Judges (λ b. floor_from mode.version e reached fields ≤ length b) (fields_read mode e i fields) (FieldsLay mode e fields) (FieldsFault mode (place e i) fields)

  no_fields : (e reached i : ℕ) → JudgesFields e reached i []
  unfolding fields_read
  no_fields e reached i = record {
    sound = λ b vs g h. subst (λ vs. FieldsLay mode e [] vs b) (ok_is h) tt;
    complete = λ b vs h. none vs b h;
    told = λ b f g h. absurd (never h);
    only = λ b f h. absurd h;
  }
    where
      none : (vs : List Value) (b : List ℕ) → FieldsLay mode e [] vs b → ◌≡◌ {A = Result (List Value) Fault} (Ok []) (Ok vs)
      none [] b h = refl
      none (v ∷ vs) b h = absurd h

  module _ (e reached i : ℕ) (f : Field) (fs : List Field) where
    abbrev slice : List ℕ → List ℕ
    slice b = take (width f.kind) (drop (begin_of e f.offset) b)

    abbrev Given : List ℕ → Type 0
    Given b = floor_from mode.version e reached (f ∷ fs) ≤ length b

    -- a field that is alive and no constant ends in time
    ends : reached ≤ e → ArePlaced e (f ∷ fs) → is_alive mode.version f.since ≡ true → (b : List ℕ) → Given b → is_const f.kind ≡ false → begin_of e f.offset + width f.kind ≤ length b
    ends within placed alive b given c =
        let there = floor_reaches mode.version (end_past e f.offset f.kind) (reach mode.version e reached f) fs (reach_within mode.version e reached f _ refl within placed.0) placed.2 in
        let past : end_past e f.offset f.kind ≡ begin_of e f.offset + width f.kind = ap (λ t. cond t e (begin_of e f.offset + width f.kind)) c in
        let at : reach mode.version e reached f ≡ end_past e f.offset f.kind =
        ap (λ t. cond (t && not (is_const f.kind)) (end_past e f.offset f.kind) reached) alive ∙ ap (λ t. cond (true && not t) (end_past e f.offset f.kind) reached) c in
        omega (arith, there, past, at, given)

    beside_to : (vs : List Value) (b : List ℕ) → Beside (λ v b. FieldLays mode e f v b) (FieldsLay mode (end_past e f.offset f.kind) fs) vs b → FieldsLay mode e (f ∷ fs) vs b
    beside_to vs b h =
        let whole : FieldsLay mode e (f ∷ fs) (h.0 ∷ h.1) b = (h.3, h.4) in
        subst (λ vs. FieldsLay mode e (f ∷ fs) vs b) (sym h.2) whole

    beside_from : (vs : List Value) (b : List ℕ) → FieldsLay mode e (f ∷ fs) vs b → Beside (λ v b. FieldLays mode e f v b) (FieldsLay mode (end_past e f.offset f.kind) fs) vs b
    beside_from [] b h = absurd h
    beside_from (v ∷ vs) b h = (v, vs, refl, h.0, h.1)

    field_judges : reached ≤ e → ArePlaced e (f ∷ fs) → Judges Given (field_read mode e i f) (λ v b. FieldLays mode e f v b) (λ g b. FieldFault mode (place e i) f g b)
    field_judges within placed =
        chosen (is_alive mode.version f.since) Given (λ b. later (begin_of e f.offset) (inside (way.Part i) (value_read mode.order mode.known f.kind (slice b)))) value.Absent
        (λ v b. Shows mode.order mode.known f.kind v (slice b)) (λ g b. (h : Fault) × KindFault mode.order mode.known f.kind h (slice b) × (g ≡ shifted (begin_of e f.offset) (under (way.Part i) h)))
        (λ alive. moved (λ b. length b ≡ width f.kind) (value_read mode.order mode.known f.kind) (Shows mode.order mode.known f.kind) (KindFault mode.order mode.known f.kind) Given slice (begin_of e f.offset) (way.Part i)
        (λ b given. part_long e f.offset f.kind b (is_const f.kind) refl (ends within placed alive b given)) (kind_judges mode.order mode.known f.kind placed.1))

    one_more : reached ≤ e → ArePlaced e (f ∷ fs) → JudgesFields (end_past e f.offset f.kind) (reach mode.version e reached f) (suc i) fs → JudgesFields e reached i (f ∷ fs)
    unfolding fields_read
    one_more within placed there =
        rejudged Given Given (fields_read mode e i (f ∷ fs))
        (Beside (λ v b. FieldLays mode e f v b) (FieldsLay mode (end_past e f.offset f.kind) fs)) (FieldsLay mode e (f ∷ fs))
        (BesideFault (λ g b. FieldFault mode (place e i) f g b) (λ v b. FieldLays mode e f v b) (FieldsFault mode (place (end_past e f.offset f.kind) (suc i)) fs)) (FieldsFault mode (place e i) (f ∷ fs))
        (λ b h. h) (λ vs b g h. beside_to vs b h) beside_from (λ g b h. h) (λ g b h. h)
        (beside Given (field_read mode e i f) (fields_read mode (end_past e f.offset f.kind) (suc i) fs)
        (λ v b. FieldLays mode e f v b) (FieldsLay mode (end_past e f.offset f.kind) fs)
        (λ g b. FieldFault mode (place e i) f g b) (FieldsFault mode (place (end_past e f.offset f.kind) (suc i)) fs)
        (field_judges within placed) there)

  pub fields_judges : (e reached i : ℕ) (fields : List Field) → reached ≤ e → ArePlaced e fields → JudgesFields e reached i fields
  fields_judges e reached i [] within placed = no_fields e reached i
  fields_judges e reached i (f ∷ fs) within placed =
      one_more e reached i f fs within placed
      (fields_judges (end_past e f.offset f.kind) (reach mode.version e reached f) (suc i) fs (reach_within mode.version e reached f _ refl within placed.0) placed.2)

  -- ---- a block of k bytes

  abbrev pub BlockIs : List Field → ℕ → List Value → List ℕ → Type 0
  BlockIs fields k values b = (length b ≡ k) × BlockLays mode fields values b

  block_fault_to : (fields : List Field) (k : ℕ) (f : Fault) (b : List ℕ) → JudgedFault (TooShort k) (λ x b. (length b ≡ k) × (x ≡ b)) (FieldsFault mode (place 0 0) fields) f b → BlockFault mode fields k f b
  block_fault_to fields k f b h = elim h [
    | inl e ↦ inl e
    | inr e ↦
        let front : e.1 ≡ take k b = sym (ap (take k) e.3 ∙ ap (λ n. take n (e.1 ++ e.2)) (sym e.4.0) ∙ take-append_seam e.1 e.2) in
        inr (omega (arith, ap length e.3, length-append e.1 e.2, e.4.0), subst (FieldsFault mode (place 0 0) fields f) (e.4.1 ∙ front) e.5)
  ]

  block_fault_from : (fields : List Field) (k : ℕ) (f : Fault) (b : List ℕ) → BlockFault mode fields k f b → JudgedFault (TooShort k) (λ x b. (length b ≡ k) × (x ≡ b)) (FieldsFault mode (place 0 0) fields) f b
  block_fault_from fields k f b h = elim h [
    | inl e ↦ inl e
    | inr e ↦ let long : k ≤ length b = e.0 in inr (take k b, take k b, drop k b, sym (take-append-drop k b), (simp length-take (omega arith), refl), e.1)
  ]

  pub block_reads : (fields : List Field) (k : ℕ) → floor mode.version fields ≤ k → ArePlaced 0 fields → Reads (block_read mode fields k) (BlockIs fields k) (BlockFault mode fields k)
  block_reads fields k reaches placed =
      restated (block_read mode fields k)
      (JudgedOf (λ x b. (length b ≡ k) × (x ≡ b)) (FieldsLay mode 0 fields)) (BlockIs fields k)
      (JudgedFault (TooShort k) (λ x b. (length b ≡ k) × (x ≡ b)) (FieldsFault mode (place 0 0) fields)) (BlockFault mode fields k)
      (λ vs b h. (h.1.0, (omega (arith, h.1.0), subst (λ a. FieldsLay mode 0 fields vs a) h.1.1 h.2)))
      (λ vs b h. (b, (h.0, refl), h.1.1))
      (block_fault_to fields k) (block_fault_from fields k)
      (computed (bytes_read k) (fields_read mode 0 0 fields) (λ x b. (length b ≡ k) × (x ≡ b)) (TooShort k) (λ b. floor mode.version fields ≤ length b)
      (FieldsLay mode 0 fields) (FieldsFault mode (place 0 0) fields)
      (so_many k) (λ x b h. omega (arith, h.0, ap length h.1)) (fields_judges 0 0 0 fields (omega arith) placed))

  -- ---- an entry: a block, and then a tail

  module _ (tail : Reader Tail) (TailIs : Block → List ℕ → Type 0) (TailHas : Fault → List ℕ → Type 0) (fields : List Field) (k : ℕ) where
    abbrev form : BlockForm
    form = record { mode = mode; fields = fields }

    -- the tail says nothing of the fields
    abbrev Ignores : Type 0
    Ignores = (x y : List Value) (t : Tail) (b : List ℕ) → TailIs (block_of x t) b → TailIs (block_of y t) b

    abbrev Split : Block → List ℕ → Type 0
    Split = After (BlockIs fields k) (λ values. MadeOf (block_of values) (λ t b. TailIs (block_of [] t) b))

    entry_to : Ignores → (entry : Block) (b : List ℕ) → Split entry b → EntryLays TailIs form k entry b
    entry_to ignores entry b h =
        let front : take k b ≡ h.1 = ap (take k) h.3 ∙ ap (λ n. take n (h.1 ++ h.2)) (sym h.4.0) ∙ take-append_seam h.1 h.2 in
        let back : drop k b ≡ h.2 = ap (drop k) h.3 ∙ ap (λ n. drop n (h.1 ++ h.2)) (sym h.4.0) ∙ drop-append_seam h.1 h.2 in
        let whole : EntryLays TailIs form k (block_of h.0 h.5.0) b = (
          omega (arith, ap length h.3, length-append h.1 h.2, h.4.0),
          subst (BlockLays mode fields h.0) (sym front) h.4.1,
          subst (TailIs (block_of h.0 h.5.0)) (sym back) (ignores [] h.0 h.5.0 h.2 h.5.2),
        ) in
        subst (λ entry. EntryLays TailIs form k entry b) (sym h.5.1) whole

    entry_from : Ignores → (entry : Block) (b : List ℕ) → EntryLays TailIs form k entry b → Split entry b
    entry_from ignores entry b h =
        let long : k ≤ length b = h.0 in
        let values = (out-Block entry).fields in
        let t : Tail = ((out-Block entry).groups, (out-Block entry).parts) in
        (values, take k b, drop k b, sym (take-append-drop k b), (simp length-take (omega arith), h.1), (t, refl, ignores values [] t (drop k b) h.2))

    entry_fault_to : (f : Fault) (b : List ℕ) → FaultAfter (BlockFault mode fields k) (BlockIs fields k) (λ _. TailHas) f b → EntryFault TailHas form k f b
    entry_fault_to f b h = elim h [
      | inl e ↦ inl e
      | inr e ↦
          let front : take k b ≡ e.1 = ap (take k) e.4 ∙ ap (λ n. take n (e.1 ++ e.2)) (sym e.5.0) ∙ take-append_seam e.1 e.2 in
          let back : drop k b ≡ e.2 = ap (drop k) e.4 ∙ ap (λ n. drop n (e.1 ++ e.2)) (sym e.5.0) ∙ drop-append_seam e.1 e.2 in
          inr (e.0, e.3, omega (arith, ap length e.4, length-append e.1 e.2, e.5.0), subst (BlockLays mode fields e.0) (sym front) e.5.1, subst (TailHas e.3) (sym back) e.6, e.7 ∙ ap (λ n. shifted n e.3) e.5.0)
    ]

    entry_fault_from : (f : Fault) (b : List ℕ) → EntryFault TailHas form k f b → FaultAfter (BlockFault mode fields k) (BlockIs fields k) (λ _. TailHas) f b
    entry_fault_from f b h = elim h [
      | inl e ↦ inl e
      | inr e ↦
          let long : k ≤ length b = e.2 in
          let wide : length (take k b) ≡ k = simp length-take (omega arith) in
          inr (e.0, take k b, drop k b, e.1, sym (take-append-drop k b), (wide, e.3), e.4, e.5 ∙ ap (λ n. shifted n e.1) (sym wide))
    ]

    pub entry_reads : Ignores → floor mode.version fields ≤ k → ArePlaced 0 fields → Reads tail (λ t b. TailIs (block_of [] t) b) TailHas →
        Reads (entry_read tail mode fields k) (EntryLays TailIs form k) (EntryFault TailHas form k)
    entry_reads ignores reaches placed reads =
        restated (entry_read tail mode fields k) Split (EntryLays TailIs form k)
        (FaultAfter (BlockFault mode fields k) (BlockIs fields k) (λ _. TailHas)) (EntryFault TailHas form k)
        (entry_to ignores) (entry_from ignores) entry_fault_to entry_fault_from
        (after (block_read mode fields k) (λ values. then_read tail (λ t. nothing (block_of values t))) (BlockIs fields k) (BlockFault mode fields k)
        (λ values. MadeOf (block_of values) (λ t b. TailIs (block_of [] t) b)) (λ _. TailHas)
        (block_reads fields k reaches placed) (λ values front h. made tail (block_of values) (λ t b. TailIs (block_of [] t) b) TailHas reads))
