-- The groups and the data after a block, and the entries of a group.
use Rattle.std.proofs.Common.{◌≡◌, ◌≤◌, ◌+◌, ◌*◌, ℕ, zero, suc, Bool, true, false, cond, List, [], ◌∷◌, length, take, drop, Result, Ok, Err, refl, sym, ap, ◌∙◌, subst, arith, length-drop}
use Rattle.std.specs.Prelude.{IsOk, nat_le}
use Rattle.std.proofs.lemmas.Bool.{leb-true}
use Rattle.std.proofs.lemmas.List.{drop-drop}
use denote.Hole.Carrier as carrier
use Rattle.sbe_types.specs.declared.schema.Level as levels
use Rattle.sbe_types.specs.declared.path.Step.TheVariants as way
use Rattle.sbe_types.specs.declared.schema.Field.{Field}
use Rattle.sbe_types.specs.declared.schema.Group.{Group}
use Rattle.sbe_types.specs.declared.schema.Level.{Level, Level', out-Level, Row_of-Group, end_of-Group, more_of-Group, items-the_row-Group, items_shown-the_row-Group-0}
use Rattle.sbe_types.specs.declared.message.Block.{Block, out-Block}
use Rattle.sbe_types.specs.declared.message.DataVal.{DataVal}
use Rattle.sbe_types.specs.declared.message.GroupVal.{GroupVal}
use Rattle.sbe_wire.specs.Faults.{Fault}
use Rattle.sbe_wire.specs.Reading.{Reader, then_read, nothing, and_check, times_read, each_read, fields_read, block_read, Tail, block_of as block_made, entry_read, tail_read, groups_read}
use Rattle.sbe_wire.proofs.Combine.{ok_is, bind_ok}
use Rattle.sbe_wire.specs.declared.mode.Mode.{Mode}
use Rattle.body_walk.specs.inner.Cursor.{entries_read}
use Rattle.flyweight_view.specs.inner.Groups.{groups_by}
use Rattle.flyweight_view.specs.inner.Lefts.{rest_of}
use Rattle.flyweight_view.specs.inner.Parts.{parts_by}
use Rattle.flyweight_view.proofs.Lefts.{step_ok, cons_ok, cons_made, each_any, times_next}

-- ---- a block and its tail

judged_rest : {X : Type 0} (t : Bool) (k : ℕ) (b : List ℕ) (q : List ℕ → Result X Fault) (f : Fault) (x : X × List ℕ) → and_check q (cond t (Ok (take k b, drop k b)) (Err f)) ≡ Ok x → (t ≡ true) × (x.1 ≡ drop k b)
judged_rest {X} true k b q f x h =
    let found = bind_ok (q (take k b)) _ x h in
    (refl, sym (ap (λ (z : X × List ℕ). z.1) (ok_is found.2)))
judged_rest false k b q f x h = cc

-- a block that is read, with the tail after it
pub record EntryParts (tail : Reader Tail) (k : ℕ) (b : List ℕ) (r : Block × List ℕ) : Type 0 where
  pub fits : k ≤ length b
  pub t : Tail
  pub reads : tail (drop k b) ≡ Ok (t, r.1)
  pub groups : (out-Block r.0).groups ≡ t.0
  pub parts : (out-Block r.0).parts ≡ t.1

pub entry_parts : (tail : Reader Tail) (mode : Mode) (fields : List Field) (k : ℕ) (b : List ℕ) (r : Block × List ℕ) → entry_read tail mode fields k b ≡ Ok r → EntryParts tail k b r
entry_parts tail mode fields k b r h =
    let one = step_ok b (block_read mode fields k b) (λ values. then_read tail (λ t. nothing (block_made values t))) r h in
    let two = step_ok one.0.1 (tail one.0.1) (λ t. nothing (block_made one.0.0 t)) r one.2 in
    let last = ok_is two.2 in
    let bytes = judged_rest (nat_le k (length b)) k b (fields_read mode 0 0 fields) _ one.0 one.1 in
    record {
      fits = leb-true k (length b) bytes.0;
      t = two.0.0;
      reads = ap tail (sym bytes.1) ∙ two.1 ∙ ap (λ (z : Block × List ℕ). Ok (two.0.0, z.1)) last;
      groups = sym (ap (λ (z : Block × List ℕ). (out-Block z.0).groups) last);
      parts = sym (ap (λ (z : Block × List ℕ). (out-Block z.0).parts) last);
    }

-- ---- groups and then data

module _ (mode : Mode) where
  -- the groups of a tail, and the data after them
  pub record TailParts (level : Level) (b : List ℕ) (t : Tail) (last : List ℕ) : Type 0 where
    pub middle : List ℕ
    pub groups : each_read (groups_by mode) 0 (out-Level level).groups b ≡ Ok (t.0, middle)
    pub parts : each_read (parts_by mode) 0 (out-Level level).parts middle ≡ Ok (t.1, last)

  groups_each : (i : ℕ) {n : _} (row : Row_of-Group n) (b : List ℕ) (r : List GroupVal × List ℕ) → groups_read mode i row b ≡ Ok r → each_read (groups_by mode) i (items-the_row-Group _ row) b ≡ Ok r
  unfolding groups_read each_read
  groups_each i end_of-Group b r h = h
  groups_each i (more_of-Group g rest) b r h =
      let c = cons_ok (way.Part i) (groups_by mode g) (groups_read mode (suc i) rest) b r h in
      cons_made (way.Part i) (groups_by mode g) (each_read (groups_by mode) (suc i) (items-the_row-Group _ rest)) b c.rest r.1 c.x c.xs c.first (groups_each (suc i) rest c.rest (c.xs, r.1) c.others)
      ∙ ap (λ (l : List GroupVal). Ok (l, r.1)) (sym c.whole)

  made_is : (gs : List GroupVal) (ds : List DataVal) (rest last : List ℕ) (t : Tail) → ◌≡◌ {A = Result (Tail × List ℕ) Fault} (Ok ((gs, ds), rest)) (Ok (t, last)) → ◌≡◌ {A = Tail × List ℕ} ((gs, ds), rest) (t, last)
  made_is gs ds rest last t h = ok_is h

  pub tail_parts : (level : Level) (b : List ℕ) (t : Tail) (last : List ℕ) → tail_read mode level b ≡ Ok (t, last) → TailParts level b t last
  unfolding tail_read levels.out-Level carrier.out
  tail_parts (Level' name id semantic since block_length fields n groups parts) b t last h =
      let items = items-the_row-Group _ groups in
      let after : List GroupVal → Reader (List DataVal) = λ gs. each_read (parts_by mode) (length fields + length gs) parts in
      let one = step_ok b (groups_read mode (length fields) groups b) (λ gs. then_read (after gs) (λ ds. nothing (gs, ds))) (t, last) h in
      let two = step_ok one.0.1 (after one.0.0 one.0.1) (λ ds. nothing (one.0.0, ds)) (t, last) one.2 in
      let whole = made_is one.0.0 two.0.0 two.0.1 last t two.2 in
      record {
        middle = one.0.1;
        groups = ap (λ (gs : List Group). each_read (groups_by mode) 0 gs b) (items_shown-the_row-Group-0 n groups)
            ∙ each_any (groups_by mode) (length fields) 0 items b one.0 (groups_each (length fields) groups b one.0 one.1)
            ∙ ap (λ (z : Tail × List ℕ). Ok (z.0.0, one.0.1)) whole;
        parts = each_any (parts_by mode) (length fields + length one.0.0) 0 parts one.0.1 two.0 two.1
            ∙ ap (λ (z : Tail × List ℕ). Ok (z.0.1, z.1)) whole;
      }

  -- ---- entries without groups and data

  no_items : {X Y : Type 0} (p : X → Reader Y) (xs : List X) (b : List ℕ) (ys : List Y) (last : List ℕ) → length xs ≡ 0 → each_read p 0 xs b ≡ Ok (ys, last) → last ≡ b
  unfolding each_read
  no_items {X} {Y} p [] b ys last none h = sym (ap (λ (z : List Y × List ℕ). z.1) (ok_is h))
  no_items p (x ∷ xs) b ys last none h = absurd (omega (arith, none))

  -- a level with neither groups nor data
  pub record IsFlat (level : Level) : Type 0 where
    pub groups : length (out-Level level).groups ≡ 0
    pub parts : length (out-Level level).parts ≡ 0

  pub flat_entry : (level : Level) (k : ℕ) (body : List ℕ) (at : ℕ) (r : Block × List ℕ) → IsFlat level → at ≤ length body → entries_read mode level k (drop at body) ≡ Ok r → (r.1 ≡ drop (at + k) body) × (at + k ≤ length body)
  flat_entry level k body at r flat near h =
      let e = entry_parts (tail_read mode level) mode (out-Level level).fields k (drop at body) r h in
      let t = tail_parts level (drop k (drop at body)) e.t r.1 e.reads in
      let one = no_items (groups_by mode) (out-Level level).groups (drop k (drop at body)) e.t.0 t.middle flat.groups t.groups in
      let two = no_items (parts_by mode) (out-Level level).parts t.middle e.t.1 r.1 flat.parts t.parts in
      (two ∙ one ∙ drop-drop k at body, omega (arith, e.fits, length-drop at body, near))

  -- such entries end after their blocks
  pub flat_end : (level : Level) (k n : ℕ) (body : List ℕ) (at : ℕ) → IsFlat level → at ≤ length body → IsOk (times_read (entries_read mode level k) 0 n (drop at body)) →
      (rest_of (times_read (entries_read mode level k) 0 n (drop at body)) ≡ drop (at + n * k) body) × (at + n * k ≤ length body)
  unfolding times_read
  flat_end level k zero body at flat near ok =
      let here : at + 0 * k ≡ at = omega arith in
      (ap (λ m. drop m body) (sym here), omega (arith, near, here))
  flat_end level k (suc n) body at flat near ok =
      let p = entries_read mode level k in
      let f = times_next p n (drop at body) ok in
      let one = flat_entry level k body at (f.x, f.rest) flat near f.first in
      let more = flat_end level k n body (at + k) flat one.1 (subst (λ b. IsOk (times_read p 0 n b)) one.0 f.others) in
      let far : at + k + n * k ≡ at + suc n * k = omega arith in
      (f.rests ∙ ap (λ b. rest_of (times_read p 0 n b)) one.0 ∙ more.0 ∙ ap (λ m. drop m body) far, omega (arith, more.1, far))
