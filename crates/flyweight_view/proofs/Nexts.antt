-- The entries of a group, one after another.
use Rattle.std.proofs.Common.{◌≡◌, ◌≤◌, ◌<◌, ◌+◌, ◌-◌, ◌*◌, ℕ, zero, suc, List, ◌∷◌, length, drop, Result, Ok, Err, refl, sym, ap, ◌∙◌, subst, arith, length-drop}
use Rattle.std.specs.Prelude.{IsOk, map, true, ◌&&◌, ◌==◌}
use Rattle.std.proofs.lemmas.Bool.Decides.{nat_tests}
use Rattle.layout_tables.proofs.Items.{long_map}
use Rattle.sbe_types.specs.declared.message.Block.{Block}
use Rattle.sbe_types.specs.declared.schema.Level.{Level, out-Level}
use Rattle.sbe_wire.specs.Faults.{Fault}
use Rattle.sbe_wire.specs.Reading.{Reader, times_read, tail_read}
use Rattle.sbe_wire.proofs.Combine.{ok_is}
use Rattle.group_codec.specs.declared.dim.Dim.{Dim}
use Rattle.body_walk.specs.declared.layer.Layer.{Layer}
use Rattle.sbe_wire.specs.declared.mode.Mode.{Mode}
use Rattle.flyweight_view.specs.declared.plan.Plan.TheVariants as plan
use Rattle.body_walk.specs.inner.Cursor.{entries_read}
use Rattle.flyweight_view.specs.inner.Layers.{blocks_at, typed_entries, LieThere}
use Rattle.body_walk.specs.inner.Layers.{IsLayer}
use Rattle.flyweight_view.specs.inner.Lefts.{items_of, rest_of}
use Rattle.flyweight_view.specs.inner.Planned.{block_of, IsPlannedBlock}
use Rattle.flyweight_view.specs.TypedBlocks.{typed_level}
use Rattle.body_walk.proofs.LevelsReady.{level_ready}
use Rattle.flyweight_view.proofs.Lefts.{First, times_next, times_many}
use Rattle.flyweight_view.proofs.Tails.{entry_parts, IsFlat, flat_entry, flat_end}

some_first : {X : Type 0} (p : Reader X) (n : ℕ) (b : List ℕ) → 0 < n → IsOk (times_read p 0 n b) → First p (times_read p 0 n) (times_read p 0 (n - 1)) b
some_first p zero b h ok = absurd (omega arith)
some_first p (suc n) b h ok =
    let one : suc n - 1 ≡ n = omega arith in
    rw one (times_next p n b ok)

-- the block that was read
own_block : (r : Result (Block × List ℕ) Fault) (x : Block × List ℕ) → r ≡ Ok x → (r ≡ Ok (block_of r, x.1)) × (block_of r ≡ x.0)
own_block (Ok y) x h = (ap (λ (z : Block × List ℕ). Ok (y.0, z.1)) (ok_is h), ap (λ (z : Block × List ℕ). z.0) (ok_is h))
own_block (Err f) x h = cc

-- a level that has neither groups nor data
pub flat_is : (mode : Mode) (level : Level) → (length (out-Level level).groups == 0) && (length (out-Level level).parts == 0) ≡ true → IsFlat mode level
flat_is mode level h =
    let groups : length (out-Level level).groups ≡ 0 = grind (arith, nat_tests) in
    let parts : length (out-Level level).parts ≡ 0 = grind (arith, nat_tests) in
    record { groups = groups; parts = parts }

-- the entries after the first one
abbrev pub others_of : Dim → ℕ → Dim
others_of d later = record { block = d.block; count = d.count - 1; after = later }

-- no entries
abbrev pub none_of : Dim → Dim
none_of d = record { block = d.block; count = 0; after = d.after }

module _ (l : Layer) (d : Dim) (lie : LieThere l d) where
  abbrev entry : Reader Block
  entry = entries_read l.mode l.level.now d.block

  abbrev here : List ℕ
  here = drop d.after l.body.now

  pub entries_many : length (typed_entries l d) ≡ d.count
  entries_many = long_map (typed_level l.level.now) (items_of (blocks_at l d)) ∙ times_many entry d.count here lie.reads

  module _ (some : 0 < d.count) where
    abbrev next : First entry (times_read entry 0 d.count) (times_read entry 0 (d.count - 1)) here
    next = some_first entry d.count here some lie.reads

    -- the first one is seen
    pub first_seen : IsLayer l → IsPlannedBlock (record { mode = l.mode; body = l.body; at = d.after; size = d.block }) (plan.Level l.layout l.number l.level)
    first_seen layer =
        let schema = l.layout.now in
        let parts = entry_parts (tail_read l.mode l.level.now) l.mode (out-Level l.level.now).fields d.block here (next.x, next.rest) next.first in
        record {
          plan_is = layer;
          placed = (level_ready schema l.number l.level.now layer.ready layer.level_is).placed;
          reaches = lie.reaches some;
          near = omega (arith, parts.fits, length-drop d.after l.body.now, lie.near);
          reads = (next.rest, (own_block (entry here) (next.x, next.rest) next.first).0);
        }

    -- the place after it
    pub first_flat : IsFlat l.mode l.level.now → (rest_of (entry here) ≡ drop (d.after + d.block) l.body.now) × (d.after + d.block ≤ length l.body.now)
    first_flat flat =
        let ends = flat_entry l.mode l.level.now d.block l.body.now d.after (next.x, next.rest) flat lie.near next.first in
        (ap rest_of next.first ∙ ends.0, ends.1)

    module _ (later : ℕ) (told : rest_of (entry here) ≡ drop later l.body.now) where
      rest_is : next.rest ≡ drop later l.body.now
      rest_is = sym (ap rest_of next.first) ∙ told

      pub others_lie : later ≤ length l.body.now → LieThere l (others_of d later)
      others_lie near = record {
        reaches = λ more. lie.reaches some;
        near = near;
        reads = subst (λ b. IsOk (times_read entry 0 (d.count - 1) b)) rest_is next.others;
      }

      pub others_seen : typed_entries l d ≡ typed_level l.level.now (block_of (entry here)) ∷ typed_entries l (others_of d later)
      others_seen =
          let see = typed_level l.level.now in
          ap (map see) next.items
          ∙ ap (λ (b : Block). see b ∷ map see (items_of (times_read entry 0 (d.count - 1) next.rest))) (sym (own_block (entry here) (next.x, next.rest) next.first).1)
          ∙ ap (λ b. see (block_of (entry here)) ∷ map see (items_of (times_read entry 0 (d.count - 1) b))) rest_is

      pub others_rests : rest_of (blocks_at l d) ≡ rest_of (blocks_at l (others_of d later))
      others_rests = next.rests ∙ ap (λ b. rest_of (times_read entry 0 (d.count - 1) b)) rest_is

    -- where it is the last one
    pub last_lies : d.count ≡ 1 → LieThere l (none_of d)
    unfolding times_read
    last_lies one = record {
      reaches = λ more. absurd (omega (arith, more));
      near = lie.near;
      reads = refl;
    }

    pub last_seen : d.count ≡ 1 → typed_entries l d ≡ typed_level l.level.now (block_of (entry here)) ∷ typed_entries l (none_of d)
    unfolding times_read
    last_seen one =
        let see = typed_level l.level.now in
        let none : d.count - 1 ≡ 0 = omega (arith, one) in
        ap (map see) next.items
        ∙ ap (λ (b : Block). see b ∷ map see (items_of (times_read entry 0 (d.count - 1) next.rest))) (sym (own_block (entry here) (next.x, next.rest) next.first).1)
        ∙ ap (λ n. see (block_of (entry here)) ∷ map see (items_of (times_read entry 0 n next.rest))) none

  -- ---- the place after them

  pub none_behind : d.count ≡ 0 → rest_of (blocks_at l d) ≡ here
  unfolding times_read
  none_behind none = ap (λ n. rest_of (times_read entry 0 n here)) none

  pub end_flat : IsFlat l.mode l.level.now → (rest_of (blocks_at l d) ≡ drop (d.after + d.count * d.block) l.body.now) × (d.after + d.count * d.block ≤ length l.body.now)
  end_flat flat = flat_end l.mode l.level.now d.block d.count l.body.now d.after flat lie.near lie.reads
