-- The bytes that are held, and what is remembered of them, as some are released and more come.
use Rattle.std.proofs.Common.{◌≡◌, ◌+◌, ◌-◌, ◌≤◌, ℕ, List, [], ◌++◌, length, take, drop, Option, Some, None, Result, Ok, Err, refl, sym, ap, ◌∙◌, subst, arith, length-append, length-drop}
use Rattle.std.specs.Prelude.{OnOk, IfSome}
use Rattle.std.proofs.lemmas.List.{take-append-le}
use Rattle.frame_stream.specs.Window.{HeldState, Moves, Reads, let_go_of, none_held}
use Rattle.frame_stream.specs.declared.reading.Dry.{Dry}
use Rattle.raw_walk.specs.declared.recall.Recall.{Recall}
use Rattle.raw_walk.specs.Recalled.{Recalls, held_at}
use Rattle.raw_walk.proofs.Remembered.{recalls_left, recalls_more}
use Rattle.raw_fix.specs.declared.taken.Run.{Run}
use Rattle.raw_fix.specs.Claims.{before_soh}
use Rattle.raw_fix.specs.Items.{AreItems, held_in}
use Rattle.raw_fix.specs.Kept.{IsKept}

-- ---- bytes are released

pub kept_left : (size n : ℕ) (h : HeldState) (r : Recall) → n ≤ length h.bytes → length h.bytes ≤ h.taken → IsKept size h r → IsKept size (let_go_of n h) r
kept_left size n h r low there kept =
    let place : h.taken - length h.bytes + n ≡ h.taken - length (drop n h.bytes) = omega (arith, length-drop n h.bytes, low, there) in
    record {
      room = kept.room;
      recalls = subst (λ p. Recalls (held_at p (drop n h.bytes)) r) place (recalls_left (h.taken - length h.bytes) n h.bytes r low kept.recalls);
    }

-- ---- more bytes come

moves_in : (size : ℕ) (old new : HeldState) (l r : Option (List ℕ)) (beyond : List ℕ) → length new.bytes ≤ size → Moves old new l r beyond → Moves (held_in size old) (held_in size new) l r beyond
moves_in size old new l r beyond fits m = record { more = m.more; grown = m.grown; consumed = m.consumed; taken = m.taken; within = m.within; limit = m.limit; size = refl; fits = fits }

pub reads_in : (size : ℕ) (old new : HeldState) (l r : Option (List ℕ)) (result : Result (Unit {0}) Dry) → length old.bytes ≤ size → OnOk result (length new.bytes ≤ size) → Reads old new l r result → Reads (held_in size old) (held_in size new) l r result
reads_in size old new l r (Ok done) fits most reads = (moves_in size old new l r [] most reads.0, reads.1)
reads_in size old new l r (Err d) fits most reads =
    let same : length new.bytes ≡ length old.bytes = ap length reads.2 in
    (reads.0, moves_in size old new l r reads.0 (omega (arith, same, fits)) reads.1, reads.2, reads.3, reads.4)

-- what a read leaves
pub record Grown (old new : HeldState) : Type 0 where
  pub more : List ℕ
  pub grown : new.bytes ≡ old.bytes ++ more
  pub taken : new.taken ≡ old.taken + length more
  pub within : new.taken ≤ new.limit
  pub size : new.size ≡ old.size

pub grown_by : (old new : HeldState) (l r : Option (List ℕ)) (result : Result (Unit {0}) Dry) → Reads old new l r result → Grown old new
grown_by old new l r (Ok done) reads = let m = reads.0 in record { more = m.more; grown = m.grown; taken = m.taken; within = m.within; size = m.size }
grown_by old new l r (Err d) reads = let m = reads.1 in record { more = m.more; grown = m.grown; taken = m.taken; within = m.within; size = m.size }

pub kept_more : (size : ℕ) (old new : HeldState) (r : Recall) → length old.bytes ≤ old.taken → Grown old new → IsKept size old r → IsKept size new r
kept_more size old new r there g kept =
    let place : old.taken - length old.bytes ≡ new.taken - length new.bytes = omega (arith, g.taken, ap length g.grown, length-append old.bytes g.more, there) in
    record {
      room = omega (arith, kept.room, g.size);
      recalls = subst (λ p. Recalls (held_at p new.bytes) r) place
          (subst (λ b. Recalls (held_at (old.taken - length old.bytes) b) r) (sym g.grown) (recalls_more (old.taken - length old.bytes) old.bytes g.more r kept.recalls));
    }

counts_more : (b : Option Run) (a c taken later : ℕ) → c + taken ≤ a + later → IfSome b (λ run. run.length + a ≤ taken) → IfSome b (λ run. run.length + c ≤ later)
counts_more None a c taken later low h = h
counts_more (Some run) a c taken later low h = omega (arith, low, h)

pub items_more : (p size : ℕ) (old new : HeldState) (b : Option Run) → Grown old new → length new.bytes ≤ size → AreItems p (held_in size old) b → AreItems p (held_in size new) b
items_more p size old new b g fits are =
    let long : length new.bytes ≡ length old.bytes + length g.more = ap length g.grown ∙ length-append old.bytes g.more in
    record {
      room = are.room;
      within = g.within;
      fits = fits;
      there = omega (arith, are.there, long, g.taken);
      front = omega (arith, are.front, long);
      none = ap (λ x. before_soh (take p x)) g.grown ∙ ap before_soh (take-append-le p old.bytes g.more are.front) ∙ are.none;
      counts = counts_more b (length old.bytes) (length new.bytes) old.taken new.taken (omega (arith, long, g.taken)) are.counts;
      some = are.some;
    }

-- how many bytes are held after a read
pub grown_fits : (size : ℕ) (old new : HeldState) (l r : Option (List ℕ)) (result : Result (Unit {0}) Dry) → length old.bytes ≤ size → OnOk result (length new.bytes ≤ size) → Reads old new l r result → length new.bytes ≤ size
grown_fits size old new l r (Ok done) fits most reads = most
grown_fits size old new l r (Err d) fits most reads = omega (arith, ap length reads.2, fits)

pub kept_read : (size : ℕ) (old new : HeldState) (p : ℕ) (b : Option Run) (recall : Recall) (l r : Option (List ℕ)) (result : Result (Unit {0}) Dry) → OnOk result (length new.bytes ≤ size) → Reads old new l r result →
    AreItems p (held_in size old) b × IsKept size old recall → AreItems p (held_in size new) b × IsKept size new recall
kept_read size old new p b recall l r result most reads are =
    let g = grown_by old new l r result reads in (
      items_more p size old new b g (grown_fits size old new l r result are.0.fits most reads) are.0,
      kept_more size old new recall are.0.there g are.1,
    )

-- nothing is held yet
pub kept_none : (size room limit : ℕ) (w : HeldState) (recall : Recall) → w ≡ none_held room limit → size ≤ room → Recalls (held_at 0 []) recall → IsKept size w recall
kept_none size room limit w recall is low recalls = subst (λ h. IsKept size h recall) (sym is) (record { room = low; recalls = recalls })
