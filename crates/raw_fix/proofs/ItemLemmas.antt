-- The bytes that are held, as some are let go and more come.
use Rattle.std.proofs.Common.{◌≡◌, ◌+◌, ◌-◌, ◌<◌, ◌≤◌, ℕ, zero, suc, true, false, List, [], ◌∷◌, ◌++◌, length, take, drop, Option, Some, None, inl, inr, refl, sym, ap, ◌∙◌, subst, arith, length-drop, length-take-le, take-append-drop}
use Rattle.std.specs.Prelude.{IfSome, ◌⊎◌}
use Rattle.std.proofs.lemmas.Bool.{cases_lt, ne_eqb}
use Rattle.std.proofs.lemmas.List.{drop-take, take_all, nil_from_length}
use Rattle.frame_stream.specs.Window.{HeldState, let_go_of}
use Rattle.tagvalue_codec.specs.declared.data_tags.Pair.{Pair}
use Rattle.raw_fix.specs.declared.taken.Run.{Run}
use Rattle.raw_fix.specs.declared.code.PCode.TheVariants as code
use Rattle.raw_fix.specs.declared.step.Step.{Step}
use Rattle.raw_fix.specs.declared.step.Step.TheVariants as step
use Rattle.raw_fix.specs.declared.items.Settled.TheVariants as settled
use Rattle.open_framing.specs.Lines.{with_byte}
use Rattle.raw_fix.specs.Claims.{before_soh, Claims}
use Rattle.raw_fix.specs.Raw.{Texts, Garbled, mark, NoMark, Undecided, IsRun, IsItem}
use Rattle.raw_fix.specs.Fields.{fix_texts}
use Rattle.raw_fix.specs.Stream.{Ahead, Garbles, LetsGo, Stuck}
use Rattle.raw_fix.specs.Steps.{Steps}
use Rattle.raw_fix.specs.Items.{AreItems, ItemState, Drops, Waits, Settles, Finishes, item_place, texts_of}
use Rattle.raw_fix.proofs.Fronts.{Plain, none_plain, before_soh_told}
use Rattle.raw_fix.proofs.ClaimLemmas.{claims, open_nil}
use Rattle.raw_fix.proofs.RawLemmas.{undecided_short}

pub plain_none : (bytes : List ℕ) → Plain bytes → before_soh bytes ≡ None
plain_none [] plain = refl
plain_none (b ∷ bytes) plain = rw (ne_eqb b 1 plain.0) (ap (with_byte b) (plain_none bytes plain.1))

plain_behind : (n : ℕ) (bytes : List ℕ) → Plain bytes → Plain (drop n bytes)
plain_behind zero bytes plain = plain
plain_behind (suc n) [] plain = tt
plain_behind (suc n) (b ∷ bytes) plain = plain_behind n bytes plain.1

none_behind : (p n : ℕ) (bytes : List ℕ) → before_soh (take p bytes) ≡ None → before_soh (take (p - n) (drop n bytes)) ≡ None
none_behind p n bytes none = by_order (cases_lt p n) where
  by_order : (p < n) ⊎ (n ≤ p) → before_soh (take (p - n) (drop n bytes)) ≡ None
  by_order (inl less) = let zero' : p - n ≡ 0 = omega arith in ap (λ k. before_soh (take k (drop n bytes))) zero'
  by_order (inr low) =
      let sum : p ≡ n + (p - n) = omega (arith, low) in
      let part : drop n (take p bytes) ≡ take (p - n) (drop n bytes) = ap (λ k. drop n (take k bytes)) sum ∙ drop-take n (p - n) bytes in
      ap before_soh (sym part) ∙ plain_none (drop n (take p bytes)) (plain_behind n (take p bytes) (none_plain (take p bytes) none))

counts_less : (b : Option Run) (a c taken : ℕ) → c ≤ a → IfSome b (λ run. run.length + a ≤ taken) → IfSome b (λ run. run.length + c ≤ taken)
counts_less None a c taken low h = h
counts_less (Some run) a c taken low h = omega (arith, low, h)

pub items_left : (p n : ℕ) (h : HeldState) (b : Option Run) → n ≤ length h.bytes → AreItems p h b → AreItems (p - n) (let_go_of n h) b
items_left p n h b low are = record {
  room = are.room;
  within = are.within;
  fits = omega (arith, are.fits, length-drop n h.bytes);
  there = omega (arith, are.there, length-drop n h.bytes);
  front = omega (arith, are.front, length-drop n h.bytes);
  none = none_behind p n h.bytes are.none;
  counts = counts_less b (length h.bytes) (length (drop n h.bytes)) h.taken (omega (arith, length-drop n h.bytes)) are.counts;
  some = are.some;
}

-- up to the first SOH there is none
pub none_before : (bytes : List ℕ) (i : ℕ) → before_soh bytes ≡ Some (take i bytes) → before_soh (take i bytes) ≡ None
none_before bytes i h = plain_none (take i bytes) (before_soh_told bytes (take i bytes) h).0

-- ---- what is settled

pub drops_front : (h : HeldState) (n : ℕ) → Drops h (let_go_of n h) (take n h.bytes)
drops_front h n = record { bytes = sym (take-append-drop n h.bytes); size = refl; taken = refl; limit = refl }

pub drops_none : (h : HeldState) → Drops h h []
drops_none h = record { bytes = refl; size = refl; taken = refl; limit = refl }

-- no bytes are let go
pub lets_none : (texts : Texts) (next : Ahead) (b : Option Run) → LetsGo texts next [] b b
lets_none texts next None = refl
lets_none texts next (Some run) = (λ f m e. omega arith, ap (λ n. let r : Run = record run { length = n } in r) (omega arith))

stuck_nil : (texts : Texts) (bytes : List ℕ) (b : Option Run) → 15 ≤ texts.most → bytes ≡ [] → Stuck texts bytes b
stuck_nil texts bytes None low nothing = subst (Undecided texts.most) (sym nothing) (inl (subst (Claims texts.most []) (open_nil texts.most low) (claims texts.most [])))
stuck_nil texts bytes (Some run) low nothing = λ f m e. nil_mark f m (sym nothing ∙ e) where
  nil_mark : (f m : List ℕ) → [] ≡ f ++ mark ++ m → ⊥
  nil_mark [] m e = cc
  nil_mark (c ∷ f) m e = cc

pub settles_nil : (tags : List Pair) (s : ItemState) → 64 ≤ s.held.size → length s.held.bytes ≡ 0 → Settles (texts_of tags s) s s None
settles_nil tags s room nothing =
    let texts = texts_of tags s in
    ([], drops_none s.held, λ more goes_on. lets_none texts (record { place = item_place s; bytes = s.held.bytes ++ more; goes_on = goes_on }) s.begun, (omega (arith, room, nothing), stuck_nil texts s.held.bytes s.begun (omega (arith, room)) (nil_from_length s.held.bytes nothing)), refl)

pub settles_ends : (texts : Texts) (s : ItemState) (at : ℕ) (run : Run) (n : ℕ) → at ≡ item_place s → Steps texts s.held.bytes at s.begun (step.Ends run n) → Settles texts s (record { held = let_go_of n s.held; begun = None; met = s.met }) (Some (settled.Garbled run))
settles_ends texts s at run n is h = (take n s.held.bytes, drops_front s.held n, refl, λ more goes_on. subst (λ p. Garbles texts (record { place = p; bytes = s.held.bytes ++ more; goes_on = goes_on }) (take n s.held.bytes) s.begun run) is (h.1 more goes_on), refl)

pub settles_on : (texts : Texts) (s : ItemState) (at : ℕ) (run : Run) (n : ℕ) → 64 ≤ s.held.size → at ≡ item_place s → Steps texts s.held.bytes at s.begun (step.GoesOn run n) → Settles texts s (record { held = let_go_of n s.held; begun = Some run; met = s.met }) None
settles_on texts s at run n room is h =
    (take n s.held.bytes, drops_front s.held n, λ more goes_on. subst (λ p. LetsGo texts (record { place = p; bytes = s.held.bytes ++ more; goes_on = goes_on }) (take n s.held.bytes) s.begun (Some run)) is (h.3 more goes_on), (omega (arith, room, h.1, length-drop n s.held.bytes), h.2), refl)

pub settles_more : (tags : List Pair) (s : ItemState) (at : ℕ) → 64 ≤ s.held.size → Steps (texts_of tags s) s.held.bytes at s.begun step.More → Settles (texts_of tags s) s s None
settles_more tags s at room h =
    let texts = texts_of tags s in
    let short = undecided_short texts s.held.bytes h.1 in
    ([], drops_none s.held, λ more goes_on. lets_none texts (record { place = item_place s; bytes = s.held.bytes ++ more; goes_on = goes_on }) s.begun, (omega (arith, short), subst (Stuck texts s.held.bytes) (sym h.0) h.1), refl)

-- the run that goes on counts what lies before
run_counts : (texts : Texts) (next : Ahead) (gone : List ℕ) (b : Option Run) (run : Run) (k : ℕ) → IfSome b (λ r. r.length ≤ k) → LetsGo texts next gone b (Some run) → run.length ≤ k + length gone
run_counts texts next gone None run k counts go = omega (arith, go.3)
run_counts texts next gone (Some r) run k counts go = omega (arith, counts, ap (λ (x : Run). x.length) go.1)

pub on_counts : (texts : Texts) (s : ItemState) (at : ℕ) (run : Run) (n : ℕ) → IfSome s.begun (λ r. r.length ≤ at) → at + length s.held.bytes ≡ s.held.taken → Steps texts s.held.bytes at s.begun (step.GoesOn run n) → run.length + length s.held.bytes ≤ s.held.taken + n
on_counts texts s at run n counts place h =
    let low = run_counts texts (record { place = at; bytes = s.held.bytes ++ []; goes_on = true }) (take n s.held.bytes) s.begun run at counts (h.3 [] true) in
    omega (arith, low, place, length-take-le n s.held.bytes h.0)

-- and has some bytes
pub run_some : (texts : Texts) (next : Ahead) (gone : List ℕ) (b : Option Run) (run : Run) → IfSome b (λ r. 0 < r.length) → LetsGo texts next gone b (Some run) → 0 < run.length
run_some texts next gone None run some go = omega (arith, go.3, ap length go.1.runs)
run_some texts next gone (Some r) run some go = omega (arith, some, ap (λ (x : Run). x.length) go.1)

pub on_some : (texts : Texts) (s : ItemState) (at : ℕ) (run : Run) (n : ℕ) → IfSome s.begun (λ r. 0 < r.length) → Steps texts s.held.bytes at s.begun (step.GoesOn run n) → 0 < run.length
on_some texts s at run n some h = run_some texts (record { place = at; bytes = s.held.bytes ++ []; goes_on = true }) (take n s.held.bytes) s.begun run some (h.3 [] true)

-- ---- what is settled at the end

pub finishes_run : (texts : Texts) (s : ItemState) (run next : Run) (n : ℕ) → n ≡ length s.held.bytes → s.begun ≡ Some run → next ≡ record run { length = run.length + n } → Waits texts s → Finishes texts s (record { held = let_go_of n s.held; begun = None; met = s.met }) (settled.Garbled next)
finishes_run texts s run next n all begun is waits =
    let bytes = s.held.bytes in
    let whole : take n bytes ≡ bytes = take_all n bytes (omega (arith, all)) in
    let none : NoMark bytes = subst (Stuck texts bytes) begun waits.1 in
    let size : length (take n bytes) ≡ n = ap length whole ∙ sym all in (
      take n bytes,
      drops_front s.held n,
      refl,
      subst (λ b. Garbles texts (record { place = item_place s; bytes = bytes; goes_on = false }) (take n bytes) b next) (sym begun)
          (inr (refl, whole, none), is ∙ ap (λ k. let r : Run = record run { length = run.length + k } in r) (sym size)),
      refl,
    )

pub finishes_ends : (texts : Texts) (s : ItemState) (at n : ℕ) (next : Run) → s.begun ≡ None → at ≡ item_place s → n ≤ length s.held.bytes → IsRun false s.held.bytes (take n s.held.bytes) → next ≡ record { code = code.Ends; at = at; length = 0 + n } → Waits texts s →
    Finishes texts s (record { held = let_go_of n s.held; begun = None; met = s.met }) (settled.Garbled next)
finishes_ends texts s at n next begun place low runs is waits =
    let bytes = s.held.bytes in
    let un : Undecided texts.most bytes = subst (Stuck texts bytes) begun waits.1 in
    let size : length (take n bytes) ≡ n = length-take-le n bytes low in (
      take n bytes,
      drops_front s.held n,
      refl,
      subst (λ b. Garbles texts (record { place = item_place s; bytes = bytes; goes_on = false }) (take n bytes) b next) (sym begun) (
        subst (λ (r : Run). IsItem texts false bytes (record { kind = Garbled r.code; bytes = take n bytes })) (sym is) (((refl, un), runs)),
        ap (λ (r : Run). r.at) is ∙ place,
        ap (λ (r : Run). r.length) is ∙ omega (arith, size),
      ),
      refl,
    )

-- ---- the same by equal parts

pub steps_as : (tags : List Pair) (s : ItemState) (most at : ℕ) (bytes : List ℕ) (b : Option Run) (r : Step) → most ≡ s.held.size - 6 → bytes ≡ s.held.bytes → at ≡ item_place s → b ≡ s.begun →
    Steps (fix_texts tags most) bytes at b r → Steps (texts_of tags s) s.held.bytes (item_place s) s.begun r
steps_as tags s most at bytes b r m e p q h =
    let h1 = subst (λ k. Steps (fix_texts tags k) bytes at b r) m h in
    let h2 = subst (λ x. Steps (texts_of tags s) x at b r) e h1 in
    let h3 = subst (λ k. Steps (texts_of tags s) s.held.bytes k b r) p h2 in
    subst (λ x. Steps (texts_of tags s) s.held.bytes (item_place s) x r) q h3
