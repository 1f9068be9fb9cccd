-- A stream from the start of a take: what came, what was let go, and what each answer then says.
use Rattle.std.proofs.Common.{◌≡◌, ◌+◌, ◌-◌, ◌<◌, ◌≤◌, ℕ, Bool, true, false, List, [], ◌∷◌, ◌++◌, length, take, drop, Option, Some, None, Result, Ok, Err, refl, sym, ap, ◌∙◌, subst, arith, append_assoc, length-append, length-take-le, take-append-drop}
use Rattle.std.specs.Prelude.{nat_lt, not, IfSome}
use Rattle.std.specs.Io.KnownBytes.{Consumes, IsAtEnd}
use Rattle.std.proofs.lemmas.Bool.Decides.{nat_tests}
use Rattle.std.proofs.lemmas.List.{append-nil, nil_from_length, take_all}
use Rattle.std.proofs.Math.Seq.{take-append-add}
use Rattle.frame_stream.specs.Window.{HeldState, Moves, Reads}
use Rattle.frame_stream.specs.declared.reading.Dry.{Dry}
use Rattle.frame_stream.specs.declared.reading.Dry.TheVariants as dry
use Rattle.tagvalue_codec.specs.declared.data_tags.Pair.{Pair}
use Rattle.raw_fix.specs.declared.code.PCode.{PCode}
use Rattle.raw_fix.specs.declared.taken.Run.{Run}
use Rattle.raw_fix.specs.declared.taken.RawTaken.{RawTaken}
use Rattle.raw_fix.specs.declared.taken.RawTaken.TheVariants as taken
use Rattle.raw_fix.specs.declared.taken.RawErr.{RawErr}
use Rattle.raw_fix.specs.declared.taken.RawErr.TheVariants as err
use Rattle.raw_fix.specs.declared.items.Settled.{Settled}
use Rattle.raw_fix.specs.declared.items.Settled.TheVariants as settled
use Rattle.raw_fix.specs.Raw.{Texts, Garbled, Item, NoMark, IsGarbled, IsItem, item_of, with_bytes, item_by, run_of, run_by, message}
use Rattle.open_framing.specs.Lines.{with_byte}
use Rattle.raw_fix.specs.Fields.{fix_texts}
use Rattle.raw_fix.specs.Stream.{RawState, Ahead, ahead, room, NoneBefore, Garbles, LetsGo, Stuck, Unsettled, TakesBy, so_far, item_room, RawFalls, RawHeldBy}
use Rattle.raw_fix.specs.Taking.{IfTold, Lefts, TakesFrom, ComesBy, Meets, left_if}
use Rattle.raw_fix.specs.Steps.{Whatever}
use Rattle.raw_fix.specs.Items.{TextFits, ItemState, item_place, Drops, Waits, Settles, Finishes, texts_of, raw_shown, settled_answer, text_length, Nexts}
use Rattle.raw_fix.proofs.RawLemmas.{undecided_none, garbled_verdict, item_complete}
use Rattle.raw_fix.proofs.MarkLemmas.{mark_missed}
use Rattle.raw_fix.proofs.StepLemmas.{message_longer}
use Rattle.raw_fix.proofs.ResumeLemmas.{in_front, mark_behind, lets_go_garbles, lets_go_more}
use Rattle.raw_fix.proofs.ItemLemmas.{lets_none, run_some}

-- more bytes came, some of all were let go, and the others are held
pub record Course (texts : Texts) (old new : ItemState) (l r : Option (List ℕ)) : Type 0 where
  pub gone : List ℕ
  pub more : List ℕ
  pub parts : old.held.bytes ++ more ≡ gone ++ new.held.bytes
  pub consumed : Consumes l r more
  pub taken : new.held.taken ≡ old.held.taken + length more
  pub there : length old.held.bytes ≤ old.held.taken
  pub within : new.held.taken ≤ new.held.limit
  pub limit : new.held.limit ≡ old.held.limit
  pub size : new.held.size ≡ old.held.size
  pub lets : Whatever (old.held.bytes ++ more) (item_place old) (λ next. LetsGo texts next gone old.begun new.begun)
  pub some : IfSome old.begun (λ run. 0 < run.length)

-- the next item by the bytes of the source
abbrev pub NextFrom : Texts → ItemState → ItemState → Option (List ℕ) → Option (List ℕ) → Result Settled RawErr → Type 0
NextFrom texts old new l r result = TakesFrom texts (raw_shown 0 old None) (raw_shown (text_length result) new None) (record { before = l; after = r }) (settled_answer result)

consumes_none : (l : Option (List ℕ)) → Consumes l l []
consumes_none None = tt
consumes_none (Some xs) = refl

consumes_more : (a b c : Option (List ℕ)) (x y : List ℕ) → Consumes a b x → Consumes b c y → Consumes a c (x ++ y)
consumes_more None b c x y h k = tt
consumes_more (Some a) None c x y h k = absurd h
consumes_more (Some a) (Some b) None x y h k = absurd k
consumes_more (Some a) (Some b) (Some c) x y h k = h ∙ ap (λ r. x ++ r) k ∙ sym (append_assoc x y c)

pub course_begins : (texts : Texts) (s : ItemState) (l : Option (List ℕ)) → length s.held.bytes ≤ s.held.taken → s.held.taken ≤ s.held.limit → IfSome s.begun (λ run. 0 < run.length) → Course texts s s l l
course_begins texts s l there within some = record {
  gone = [];
  more = [];
  parts = append-nil s.held.bytes;
  consumed = consumes_none l;
  taken = omega arith;
  there = there;
  within = within;
  limit = refl;
  size = refl;
  lets = λ more goes_on. lets_none texts (record { place = item_place s; bytes = s.held.bytes ++ [] ++ more; goes_on = goes_on }) s.begun;
  some = some;
}

place_on : (old mid : ItemState) (gone more : List ℕ) → old.held.bytes ++ more ≡ gone ++ mid.held.bytes → mid.held.taken ≡ old.held.taken + length more → length old.held.bytes ≤ old.held.taken → item_place mid ≡ item_place old + length gone
place_on old mid gone more parts taken there = omega (arith, ap length parts, length-append old.held.bytes more, length-append gone mid.held.bytes, taken, there)

-- what was let go, in front of what is held and follows
lets_front : (texts : Texts) (old mid : ItemState) (l r : Option (List ℕ)) (c : Course texts old mid l r) (future : List ℕ) (goes_on : Bool) →
    LetsGo texts (in_front c.gone (record { place = item_place mid; bytes = mid.held.bytes ++ future; goes_on = goes_on }) (item_place old)) c.gone old.begun mid.begun
lets_front texts old mid l r c future goes_on =
    let all : (old.held.bytes ++ c.more) ++ future ≡ c.gone ++ (mid.held.bytes ++ future) = ap (λ x. x ++ future) c.parts ∙ append_assoc c.gone mid.held.bytes future in
    subst (λ b. LetsGo texts (record { place = item_place old; bytes = b; goes_on = goes_on }) c.gone old.begun mid.begun) all (c.lets future goes_on)

pub course_settles : (texts : Texts) (old mid new : ItemState) (l r : Option (List ℕ)) → Course texts old mid l r → Settles texts mid new None → Course texts old new l r
course_settles texts old mid new l r c s =
    let back = s.0 in
    let drops = s.1 in
    record {
      gone = c.gone ++ back;
      more = c.more;
      parts = c.parts ∙ ap (λ x. c.gone ++ x) drops.bytes ∙ sym (append_assoc c.gone back new.held.bytes);
      consumed = c.consumed;
      taken = drops.taken ∙ c.taken;
      there = c.there;
      within = omega (arith, drops.taken, drops.limit, c.within);
      limit = drops.limit ∙ c.limit;
      size = drops.size ∙ c.size;
      lets = λ future goes_on.
          let next : Ahead = record { place = item_place mid; bytes = mid.held.bytes ++ future; goes_on = goes_on } in
          let whole = lets_go_more texts next (item_place old) c.gone back old.begun mid.begun new.begun (place_on old mid c.gone c.more c.parts c.taken c.there) (lets_front texts old mid l r c future goes_on) (s.2 future goes_on) in
          let all : c.gone ++ (mid.held.bytes ++ future) ≡ (old.held.bytes ++ c.more) ++ future = sym (append_assoc c.gone mid.held.bytes future) ∙ ap (λ x. x ++ future) (sym c.parts) in
          subst (λ b. LetsGo texts (record { place = item_place old; bytes = b; goes_on = goes_on }) (c.gone ++ back) old.begun new.begun) all whole;
      some = c.some;
    }

pub course_reads : (texts : Texts) (old mid new : ItemState) (l m r : Option (List ℕ)) (beyond : List ℕ) → Course texts old mid l m → Moves mid.held new.held m r beyond → beyond ≡ [] → new.begun ≡ mid.begun → Course texts old new l r
course_reads texts old mid new l m r beyond c k nothing same =
    let x = k.more in
    let came : Consumes m r x = subst (Consumes m r) (ap (λ b. x ++ b) nothing ∙ append-nil x) k.consumed in
    record {
      gone = c.gone;
      more = c.more ++ x;
      parts = sym (append_assoc old.held.bytes c.more x) ∙ ap (λ b. b ++ x) c.parts ∙ append_assoc c.gone mid.held.bytes x ∙ ap (λ b. c.gone ++ b) (sym k.grown);
      consumed = consumes_more l m r c.more x c.consumed came;
      taken = omega (arith, k.taken, c.taken, length-append c.more x);
      there = c.there;
      within = k.within;
      limit = k.limit ∙ c.limit;
      size = k.size ∙ c.size;
      lets = λ future goes_on.
          let all : (old.held.bytes ++ c.more) ++ (x ++ future) ≡ (old.held.bytes ++ (c.more ++ x)) ++ future = sym (append_assoc (old.held.bytes ++ c.more) x future) ∙ ap (λ b. b ++ future) (append_assoc old.held.bytes c.more x) in
          subst (λ b. LetsGo texts (record { place = item_place old; bytes = b; goes_on = goes_on }) c.gone old.begun new.begun) all
          (subst (λ b. LetsGo texts (record { place = item_place old; bytes = (old.held.bytes ++ c.more) ++ (x ++ future); goes_on = goes_on }) c.gone old.begun b) (sym same) (c.lets (x ++ future) goes_on));
      some = c.some;
    }

-- ---- by the bytes of the source

module _ (texts : Texts) (old mid : ItemState) (a b : List ℕ) (c : Course texts old mid (Some a) (Some b)) where
  abbrev pub start : RawState
  start = raw_shown 0 old None

  abbrev pub stream : List ℕ
  stream = old.held.bytes ++ a

  -- what may still be taken of the bytes that are left
  abbrev rest : List ℕ
  rest = take (mid.held.limit - mid.held.taken) b

  abbrev goes : Bool
  goes = nat_lt (room start) (length stream)

  abbrev pub held_next : Ahead
  held_next = record { place = item_place mid; bytes = mid.held.bytes ++ rest; goes_on = goes }

  pub stream_parts : stream ≡ c.gone ++ (mid.held.bytes ++ b)
  stream_parts = ap (λ x. old.held.bytes ++ x) c.consumed ∙ sym (append_assoc old.held.bytes c.more b) ∙ ap (λ x. x ++ b) c.parts ∙ append_assoc c.gone mid.held.bytes b

  pub ahead_bytes : take (room start) stream ≡ c.gone ++ (mid.held.bytes ++ rest)
  ahead_bytes =
      let front = c.gone ++ mid.held.bytes in
      let all : stream ≡ front ++ b = stream_parts ∙ sym (append_assoc c.gone mid.held.bytes b) in
      let size : room start ≡ length front + (mid.held.limit - mid.held.taken) =
      omega (arith, ap length c.parts, length-append old.held.bytes c.more, c.taken, c.there, c.within, c.limit) in
      ap (take (room start)) all ∙ ap (λ k. take k (front ++ b)) size ∙ take-append-add front b (mid.held.limit - mid.held.taken) ∙ append_assoc c.gone mid.held.bytes rest

  pub ahead_is : ahead stream start ≡ in_front c.gone held_next (item_place old)
  ahead_is = ap (λ x. let n : Ahead = record { place = item_place old; bytes = x; goes_on = goes } in n) ahead_bytes

  lets_here : LetsGo texts (ahead stream start) c.gone old.begun mid.begun
  lets_here = subst (λ n. LetsGo texts n c.gone old.begun mid.begun) (sym ahead_is) (lets_front texts old mid (Some a) (Some b) c rest goes)

  room_left : (new : ItemState) (back : List ℕ) → mid.held.bytes ≡ back ++ new.held.bytes → new.held.taken ≡ mid.held.taken → new.held.limit ≡ mid.held.limit → room start ≡ length (c.gone ++ back) + room (raw_shown 0 new None)
  room_left new back bytes taken limit =
      omega (arith, ap length c.parts, length-append old.held.bytes c.more, length-append c.gone mid.held.bytes, length-append c.gone back, ap length bytes, length-append back new.held.bytes, c.taken, c.there, c.within, c.limit, taken, limit)

  pub garbled_takes : (new : ItemState) (run : Run) (back : List ℕ) → Drops mid.held new.held back → new.begun ≡ None → Garbles texts held_next back mid.begun run → IfTold (Some a) (Some b) (λ left left'.
      TakesBy texts start (raw_shown 0 new None) (record { stream = old.held.bytes ++ left; left = left' }) (Ok (taken.Garbled run.code run.at run.length)))
  garbled_takes new run back drops none garbles =
      let whole = lets_go_garbles texts held_next (item_place old) c.gone back old.begun mid.begun run (place_on old mid c.gone c.more c.parts c.taken c.there) (lets_front texts old mid (Some a) (Some b) c rest goes) garbles in (
        c.gone ++ back,
        subst (λ n. Garbles texts n (c.gone ++ back) old.begun run) (sym ahead_is) whole,
        none,
        room_left new back drops.bytes drops.taken drops.limit,
        stream_parts ∙ ap (λ x. c.gone ++ (x ++ b)) drops.bytes ∙ ap (λ x. c.gone ++ x) (append_assoc back new.held.bytes b) ∙ sym (append_assoc c.gone back (new.held.bytes ++ b)),
      )

  pub fault_takes : TakesBy texts start (raw_shown 0 mid None) (record { stream = stream; left = b }) (Err err.ReadFault)
  fault_takes = (c.gone, lets_here, omega (arith, room_left mid [] refl refl refl, ap length (append-nil c.gone)), stream_parts)

-- ---- the other answers

pub none_gone : (texts : Texts) (next : Ahead) (gone : List ℕ) (r s : Option Run) → s ≡ None → LetsGo texts next gone r s → (r ≡ None) × (gone ≡ [])
none_gone texts next gone None None is go = (refl, go)
none_gone texts next gone (Some run) None is go = absurd go
none_gone texts next gone r (Some run) is go = cc

module _ (texts : Texts) (old mid : ItemState) (a b : List ℕ) (c : Course texts old mid (Some a) (Some b)) where
  abbrev from : RawState
  from = raw_shown 0 old None

  abbrev all : List ℕ
  all = old.held.bytes ++ a

  nothing_gone : mid.begun ≡ None → (old.begun ≡ None) × (c.gone ≡ [])
  nothing_gone none = none_gone texts (record { place = item_place old; bytes = (old.held.bytes ++ c.more) ++ []; goes_on = true }) c.gone old.begun mid.begun none (c.lets [] true)

  pub message_takes : (new : ItemState) (n : ℕ) → Settles texts mid new (Some (settled.Message n)) → TakesBy texts from (raw_shown n new None) (record { stream = all; left = b }) (Ok taken.Message)
  message_takes new n s =
      let none = nothing_gone s.1 in
      let bytes : take (room from) all ≡ mid.held.bytes ++ take (mid.held.limit - mid.held.taken) b = ahead_bytes texts old mid a b c ∙ ap (λ g. g ++ (mid.held.bytes ++ take (mid.held.limit - mid.held.taken) b)) none.1 in
      let long = message_longer texts mid.held.bytes (take (mid.held.limit - mid.held.taken) b) (take n mid.held.bytes) s.3 in
      let same : take n new.held.bytes ≡ take n mid.held.bytes = ap (λ (x : ItemState). take n x.held.bytes) s.0 in
      let begun : new.begun ≡ None = ap (λ (x : ItemState). x.begun) s.0 ∙ s.1 in (
        none.0,
        begun,
        subst (λ x. IsItem texts (nat_lt (room from) (length all)) x (message (take n new.held.bytes))) (sym bytes) (subst (λ t. IsItem texts (nat_lt (room from) (length all)) (mid.held.bytes ++ take (mid.held.limit - mid.held.taken) b) (message t)) (sym same) long),
        omega (
          arith,
          ap length c.parts,
          length-append old.held.bytes c.more,
          length-append c.gone mid.held.bytes,
          ap length none.1,
          c.taken,
          c.there,
          c.within,
          c.limit,
          s.2,
          ap (λ (x : ItemState). length x.held.bytes) s.0,
          ap (λ (x : ItemState). x.held.taken) s.0,
          ap (λ (x : ItemState). x.held.limit) s.0,
          ap length (take-append-drop n new.held.bytes),
          length-append (take n new.held.bytes) (drop n new.held.bytes),
        ),
        stream_parts texts old mid a b c ∙ ap (λ g. g ++ (mid.held.bytes ++ b)) none.1 ∙ ap (λ (x : ItemState). x.held.bytes ++ b) (sym s.0)
            ∙ ap (λ x. x ++ b) (sym (take-append-drop n new.held.bytes)) ∙ append_assoc (take n new.held.bytes) (drop n new.held.bytes) b,
      )

  -- the source has ended
  module _ (over : b ≡ []) where
    rest_nil : take (mid.held.limit - mid.held.taken) b ≡ []
    rest_nil = nil_from_length (take (mid.held.limit - mid.held.taken) b) (omega (arith, ap length over, ap length (take-append-drop (mid.held.limit - mid.held.taken) b), length-append (take (mid.held.limit - mid.held.taken) b) (drop (mid.held.limit - mid.held.taken) b)))

    goes_not : nat_lt (room from) (length all) ≡ false
    goes_not =
        let size : length all ≡ length c.gone + length mid.held.bytes = omega (arith, ap length (stream_parts texts old mid a b c), length-append c.gone (mid.held.bytes ++ b), length-append mid.held.bytes b, ap length over) in
        let low : length all ≤ room from = omega (arith, size, ap length c.parts, length-append old.held.bytes c.more, length-append c.gone mid.held.bytes, c.taken, c.there, c.within, c.limit) in
        grind (arith, nat_tests, low)

    pub last_takes : (new : ItemState) (s : Settled) → Finishes texts mid new s → NextFrom texts old new (Some a) (Some b) (Ok s)
    last_takes new (settled.Message n) f = absurd f
    last_takes new (settled.Garbled run) f =
        let here : Garbles texts (held_next texts old mid a b c) f.0 mid.begun run =
        subst (λ t. Garbles texts (record { place = item_place mid; bytes = mid.held.bytes ++ take (mid.held.limit - mid.held.taken) b; goes_on = t }) f.0 mid.begun run) (sym goes_not)
        (subst (λ x. Garbles texts (record { place = item_place mid; bytes = x; goes_on = false }) f.0 mid.begun run) (sym (ap (λ x. mid.held.bytes ++ x) rest_nil ∙ append-nil mid.held.bytes)) f.3) in
        garbled_takes texts old mid a b c new run f.0 f.1 f.2 here
    last_takes new settled.End f =
        let none = nothing_gone f.0 in
        let nothing : all ≡ [] = stream_parts texts old mid a b c ∙ ap (λ g. g ++ (mid.held.bytes ++ b)) none.1 ∙ ap (λ x. x ++ b) f.1 ∙ over in
        let held : new.held.bytes ≡ [] = ap (λ (x : ItemState). x.held.bytes) f.2 ∙ f.1 in
        let front : take (room from) all ≡ [] = ap (take (room from)) nothing ∙ take_all (room from) [] (omega arith) in
        (none.0, record { rest = take (room from) all; turns = refl; ends = (goes_not, front) }, nothing ∙ sym (ap (λ x. x ++ b) held ∙ over))

-- a run in which no mark stands isn't an item where the stream goes on
run_none : (texts : Texts) (bytes after : List ℕ) (b : ℕ) (code : PCode) → IsGarbled texts true bytes code → bytes ≡ b ∷ after → NoMark after → (item : Item) → IsItem texts true bytes item → ⊥
run_none texts bytes after b code is e none item at =
    let told : item_of texts true bytes ≡ Some item = item_complete texts true bytes item.bytes item.kind at in
    let run : run_of true bytes ≡ None = ap (run_of true) e ∙ ap (λ o. with_byte b (run_by true after o)) (mark_missed after none) in
    let nothing : item_of texts true bytes ≡ None = ap (item_by true bytes) (garbled_verdict texts true bytes code is) ∙ ap (with_bytes (Garbled code)) run in
    cc

no_mark_more : (gone bytes : List ℕ) → NoneBefore (gone ++ bytes) (length gone) → NoMark bytes → NoMark (gone ++ bytes)
no_mark_more gone bytes none later = λ f m e. let at = mark_behind gone bytes f m (none f m e) e in later at.0 m at.2

tail_same : (a b : ℕ) (x y : List ℕ) → a ∷ x ≡ b ∷ y → x ≡ y
tail_same a b x y e = cc

-- nothing is settled by what was let go and what is held
pub unsettled_by : (texts : Texts) (stream : List ℕ) (rm : ℕ) (place : ℕ) (gone held : List ℕ) (r s : Option Run) → nat_lt rm (length stream) ≡ true → take rm stream ≡ gone ++ held →
    LetsGo texts (record { place = place; bytes = gone ++ held; goes_on = true }) gone r s → Stuck texts held s → Unsettled texts stream rm r
unsettled_by texts input rm place gone held None None on front go stuck =
    let all : take rm input ≡ held = front ∙ ap (λ g. g ++ held) go in
    record { rest = take rm input; turns = refl; ends = (on, λ item at. undecided_none texts held stuck item (subst (λ t. IsItem texts t held item) on (subst (λ x. IsItem texts (nat_lt rm (length input)) x item) all at))) }
unsettled_by texts input rm place gone held None (Some run) on front go stuck =
    let begins = go.1 in
    let after : begins.front ++ held ≡ begins.after = tail_same begins.byte begins.byte (begins.front ++ held) begins.after (ap (λ x. x ++ held) (sym begins.runs) ∙ begins.begins) in
    let none : NoMark begins.after = subst NoMark after (no_mark_more begins.front held (subst (λ x. NoneBefore x (length begins.front)) (sym after) begins.none) stuck) in
    record { rest = take rm input; turns = refl; ends = (on, λ item at. run_none texts (gone ++ held) begins.after begins.byte run.code go.0 begins.begins none item (subst (λ t. IsItem texts t (gone ++ held) item) on (subst (λ x. IsItem texts (nat_lt rm (length input)) x item) front at))) }
unsettled_by texts input rm place gone held (Some begun) None on front go stuck = absurd go
unsettled_by texts input rm place gone held (Some begun) (Some run) on front go stuck = (on, subst NoMark (sym front) (no_mark_more gone held go.0 stuck))

pub limit_takes : (texts : Texts) (old mid new : ItemState) (a b b' : List ℕ) (c : Course texts old mid (Some a) (Some b)) (beyond : List ℕ) (x : ℕ) → Moves mid.held new.held (Some b) (Some b') beyond → new.held.bytes ≡ mid.held.bytes → beyond ≡ x ∷ [] → new.held.taken ≡ new.held.limit →
    Stuck texts mid.held.bytes mid.begun → TakesBy texts (raw_shown 0 old None) (raw_shown 0 new None) (record { stream = old.held.bytes ++ a; left = b' }) (Err err.InputLimit)
limit_takes texts old mid new a b b' c beyond x k same one full stuck =
    let rm = room (raw_shown 0 old None) in
    let all = old.held.bytes ++ a in
    let none : length k.more ≡ 0 = omega (arith, ap length k.grown, length-append mid.held.bytes k.more, ap length same) in
    let left : length b ≡ 1 + length b' = omega (arith, ap length k.consumed, length-append (k.more ++ beyond) b', length-append k.more beyond, none, ap length one) in
    let no_room : mid.held.limit - mid.held.taken ≡ 0 = omega (arith, k.taken, k.limit, none, full) in
    let front : take rm all ≡ c.gone ++ mid.held.bytes = ahead_bytes texts old mid a b c ∙ ap (λ n. c.gone ++ (mid.held.bytes ++ take n b)) no_room ∙ ap (λ y. c.gone ++ y) (append-nil mid.held.bytes) in
    let size : length all ≡ length c.gone + length mid.held.bytes + length b = omega (arith, ap length (stream_parts texts old mid a b c), length-append c.gone (mid.held.bytes ++ b), length-append mid.held.bytes b) in
    let over : rm < length all = omega (arith, size, left, ap length c.parts, length-append old.held.bytes c.more, length-append c.gone mid.held.bytes, c.taken, c.there, c.within, c.limit, no_room) in
    let goes : nat_lt rm (length all) ≡ true = grind (arith, nat_tests, over) in
    let go = c.lets [] true in
    let bytes : (old.held.bytes ++ c.more) ++ [] ≡ c.gone ++ mid.held.bytes = append-nil (old.held.bytes ++ c.more) ∙ c.parts in
    let nothing : k.more ≡ [] = nil_from_length k.more none in
    let last : b ≡ x ∷ b' = k.consumed ∙ ap (λ m. (m ++ beyond) ++ b') nothing ∙ ap (λ m. m ++ b') one in (
      unsettled_by texts all rm (item_place old) c.gone mid.held.bytes old.begun mid.begun goes front (subst (λ y. LetsGo texts (record { place = item_place old; bytes = y; goes_on = true }) c.gone old.begun mid.begun) bytes go) stuck,
      (c.gone, x, stream_parts texts old mid a b c ∙ ap (λ y. c.gone ++ (y ++ b)) (sym same) ∙ ap (λ y. c.gone ++ (new.held.bytes ++ y)) last),
    )

-- ---- whether the source tells its bytes or not

pub next_settled : (texts : Texts) (old mid new : ItemState) (l r : Option (List ℕ)) (s : Settled) → Course texts old mid l r → Settles texts mid new (Some s) → NextFrom texts old new l r (Ok s)
next_settled texts old mid new None r s c h = tt
next_settled texts old mid new (Some a) None s c h = absurd c.consumed
next_settled texts old mid new (Some a) (Some b) (settled.Message n) c h = message_takes texts old mid a b c new n h
next_settled texts old mid new (Some a) (Some b) (settled.Garbled run) c h = garbled_takes texts old mid a b c new run h.0 h.1 h.2 (h.3 (take (mid.held.limit - mid.held.taken) b) (nat_lt (room (raw_shown 0 old None)) (length (old.held.bytes ++ a))))
next_settled texts old mid new (Some a) (Some b) settled.End c h = absurd h

pub next_fault : (texts : Texts) (old new : ItemState) (l r : Option (List ℕ)) → Course texts old new l r → NextFrom texts old new l r (Err err.ReadFault)
next_fault texts old new None r c = tt
next_fault texts old new (Some a) None c = absurd c.consumed
next_fault texts old new (Some a) (Some b) c = fault_takes texts old new a b c

pub next_last : (texts : Texts) (old mid new : ItemState) (l r : Option (List ℕ)) (s : Settled) → Course texts old mid l r → IsAtEnd r → Finishes texts mid new s → NextFrom texts old new l r (Ok s)
next_last texts old mid new None r s c over f = tt
next_last texts old mid new (Some a) None s c over f = absurd c.consumed
next_last texts old mid new (Some a) (Some b) s c over f = last_takes texts old mid a b c over new s f

pub next_limit : (texts : Texts) (old mid new : ItemState) (l m r : Option (List ℕ)) (beyond : List ℕ) (x : ℕ) → Course texts old mid l m → Moves mid.held new.held m r beyond → new.held.bytes ≡ mid.held.bytes → beyond ≡ x ∷ [] → new.held.taken ≡ new.held.limit → Waits texts mid →
    NextFrom texts old new l r (Err err.InputLimit)
next_limit texts old mid new None m r beyond x c k same one full waits = tt
next_limit texts old mid new (Some a) None r beyond x c k same one full waits = absurd c.consumed
next_limit texts old mid new (Some a) (Some b) None beyond x c k same one full waits = absurd k.consumed
next_limit texts old mid new (Some a) (Some b) (Some b') beyond x c k same one full waits = limit_takes texts old mid new a b b' c beyond x k same one full waits.1

-- ---- what falls and what is held, whether the source tells its bytes or not

counted : (texts : Texts) (next : Ahead) (gone : List ℕ) (r s : Option Run) → LetsGo texts next gone r s → so_far r + length gone ≡ so_far s
counted texts next gone None None go = omega (arith, ap length go)
counted texts next gone None (Some run) go = omega (arith, go.3)
counted texts next gone (Some begun) None go = absurd go
counted texts next gone (Some begun) (Some run) go = omega (arith, ap (λ (x : Run). x.length) go.1)

garbled_counted : (texts : Texts) (next : Ahead) (front : List ℕ) (r : Option Run) (run : Run) → Garbles texts next front r run → so_far r + length front ≡ run.length
garbled_counted texts next front None run garbles = omega (arith, garbles.2)
garbled_counted texts next front (Some begun) run garbles = omega (arith, ap (λ (x : Run). x.length) garbles.1)

-- a garbled item has some bytes
garbled_some : (texts : Texts) (next : Ahead) (front : List ℕ) (r : Option Run) (run : Run) → IfSome r (λ x. 0 < x.length) → Garbles texts next front r run → 0 < run.length
garbled_some texts next front None run some garbles = omega (arith, garbles.2, ap length garbles.0.1.runs)
garbled_some texts next front (Some begun) run some garbles = omega (arith, some, ap (λ (x : Run). x.length) garbles.1)

some_on : (texts : Texts) (next : Ahead) (gone : List ℕ) (r s : Option Run) → IfSome r (λ x. 0 < x.length) → LetsGo texts next gone r s → IfSome s (λ x. 0 < x.length)
some_on texts next gone r None some go = tt
some_on texts next gone r (Some run) some go = run_some texts next gone r run some go

module _ (texts : Texts) (old mid : ItemState) (l r : Option (List ℕ)) (c : Course texts old mid l r) where
  some_here : IfSome mid.begun (λ x. 0 < x.length)
  some_here = some_on texts (record { place = item_place old; bytes = (old.held.bytes ++ c.more) ++ []; goes_on = true }) c.gone old.begun mid.begun c.some (c.lets [] true)

  gone_counts : so_far old.begun + length c.gone ≡ so_far mid.begun
  gone_counts = counted texts (record { place = item_place old; bytes = (old.held.bytes ++ c.more) ++ []; goes_on = true }) c.gone old.begun mid.begun (c.lets [] true)

  room_here : room (raw_shown 0 old None) ≡ length c.gone + room (raw_shown 0 mid None)
  room_here = omega (arith, ap length c.parts, length-append old.held.bytes c.more, length-append c.gone mid.held.bytes, c.taken, c.there, c.within, c.limit)

  pub there_here : length mid.held.bytes ≤ mid.held.taken
  there_here = omega (arith, ap length c.parts, length-append old.held.bytes c.more, length-append c.gone mid.held.bytes, c.taken, c.there)

  pub item_room_here : item_room (raw_shown 0 mid None) ≡ item_room (raw_shown 0 old None)
  item_room_here = omega (arith, gone_counts, room_here)

  pub message_falls : (new : ItemState) (n : ℕ) → Settles texts mid new (Some (settled.Message n)) → RawFalls (raw_shown 0 old None) (raw_shown n new None) (Ok taken.Message)
  message_falls new n s = omega (
    arith,
    item_room_here,
    c.within,
    s.2,
    ap (λ (x : ItemState). length x.held.bytes) s.0,
    ap (λ (x : ItemState). x.held.taken) s.0,
    ap (λ (x : ItemState). x.held.limit) s.0,
    ap (λ (x : ItemState). so_far x.begun) s.0,
    ap length (take-append-drop n new.held.bytes),
    length-append (take n new.held.bytes) (drop n new.held.bytes),
  )

  pub garbled_falls : (new : ItemState) (run : Run) (back : List ℕ) → Drops mid.held new.held back → new.begun ≡ None → so_far mid.begun + length back ≡ run.length →
      RawFalls (raw_shown 0 old None) (raw_shown 0 new None) (Ok (taken.Garbled run.code run.at run.length))
  garbled_falls new run back drops none counts =
      omega (arith, item_room_here, c.within, ap length drops.bytes, length-append back new.held.bytes, drops.taken, drops.limit, ap so_far none, counts)

message_held : (texts : Texts) (mid new : ItemState) (n : ℕ) → Settles texts mid new (Some (settled.Message n)) → RawHeldBy texts (raw_shown n new None) (Ok taken.Message)
message_held texts mid new n s =
    let is = s.3 in
    let same : take n new.held.bytes ≡ take n mid.held.bytes = ap (λ (x : ItemState). take n x.held.bytes) s.0 in
    let size : length (take n new.held.bytes) ≡ is.size = ap length (same ∙ is.front) ∙ length-take-le is.size mid.held.bytes is.there in
    (ap (λ (x : ItemState). x.begun) s.0 ∙ s.1, omega (arith, size, is.claim.counts), omega (arith, size, is.claim.within))

-- ---- what came shows the answer

module _ (texts : Texts) (old mid : ItemState) (l r : Option (List ℕ)) (c : Course texts old mid l r) where
  abbrev lefts : Lefts
  lefts = record { before = l; after = r }

  pub fault_comes : ComesBy texts (raw_shown 0 old None) (raw_shown 0 mid None) lefts (Err err.ReadFault)
  fault_comes = (
    c.gone,
    record { more = c.more; consumed = c.consumed; parts = c.parts },
    subst (λ b. LetsGo texts (record { place = item_place old; bytes = b; goes_on = true }) c.gone old.begun mid.begun) (append-nil (old.held.bytes ++ c.more) ∙ c.parts) (c.lets [] true),
  )

  -- a run ends with these bytes
  pub garbled_comes : (new : ItemState) (run : Run) (back : List ℕ) → Drops mid.held new.held back → Garbles texts (record { place = item_place mid; bytes = mid.held.bytes; goes_on = not new.met }) back mid.begun run →
      ComesBy texts (raw_shown 0 old None) (raw_shown 0 new None) lefts (Ok (taken.Garbled run.code run.at run.length))
  garbled_comes new run back drops garbles =
      let goes_on = not new.met in
      let next : Ahead = record { place = item_place mid; bytes = mid.held.bytes ++ []; goes_on = goes_on } in
      let alone : Garbles texts next back mid.begun run = subst (λ b. Garbles texts (record { place = item_place mid; bytes = b; goes_on = goes_on }) back mid.begun run) (sym (append-nil mid.held.bytes)) garbles in
      let whole = lets_go_garbles texts next (item_place old) c.gone back old.begun mid.begun run (place_on old mid c.gone c.more c.parts c.taken c.there) (lets_front texts old mid l r c [] goes_on) alone in
      let parts : c.gone ++ mid.held.bytes ≡ (c.gone ++ back) ++ new.held.bytes = ap (λ x. c.gone ++ x) drops.bytes ∙ sym (append_assoc c.gone back new.held.bytes) in (
        c.gone ++ back,
        record { more = c.more; consumed = c.consumed; parts = c.parts ∙ parts },
        subst (λ b. Garbles texts (record { place = item_place old; bytes = b; goes_on = goes_on }) (c.gone ++ back) old.begun run) (ap (λ x. c.gone ++ x) (append-nil mid.held.bytes) ∙ parts) whole,
      )

  pub message_comes : (new : ItemState) (n : ℕ) → Settles texts mid new (Some (settled.Message n)) → ComesBy texts (raw_shown 0 old None) (raw_shown n new None) lefts (Ok taken.Message)
  message_comes new n s =
      let none = none_gone texts (record { place = item_place old; bytes = (old.held.bytes ++ c.more) ++ []; goes_on = true }) c.gone old.begun mid.begun s.1 (c.lets [] true) in
      let same : take n new.held.bytes ≡ take n mid.held.bytes = ap (λ (x : ItemState). take n x.held.bytes) s.0 in
      let whole : mid.held.bytes ≡ take n new.held.bytes ++ drop n new.held.bytes = sym (ap (λ (x : ItemState). x.held.bytes) s.0) ∙ sym (take-append-drop n new.held.bytes) in (
        record { more = c.more; consumed = c.consumed; parts = c.parts ∙ ap (λ g. g ++ mid.held.bytes) none.1 ∙ whole },
        subst (λ b. IsItem texts true b (message (take n new.held.bytes))) whole (subst (λ t. IsItem texts true mid.held.bytes (message t)) (sym same) s.3),
      )

-- nothing follows
held_alone : (texts : Texts) (mid : ItemState) (back : List ℕ) (run : Run) (goes_on : Bool) → Garbles texts (record { place = item_place mid; bytes = mid.held.bytes ++ []; goes_on = goes_on }) back mid.begun run →
    Garbles texts (record { place = item_place mid; bytes = mid.held.bytes; goes_on = goes_on }) back mid.begun run
held_alone texts mid back run goes_on h = subst (λ b. Garbles texts (record { place = item_place mid; bytes = b; goes_on = goes_on }) back mid.begun run) (append-nil mid.held.bytes) h

-- no read fails where the source has ended
meets_ok : (met met' : Bool) (l r : Option (List ℕ)) (x : RawTaken) → (met ≡ true → met' ≡ true) → (met' ≡ true → IsAtEnd r) → Meets met met' (record { before = l; after = r }) (Ok x)
meets_ok met met' l r x stays over = record { stays = stays; ended = over; reads = λ e. cc }

settled_next : (texts : Texts) (old mid new : ItemState) (l r : Option (List ℕ)) (s : Settled) → mid.met ≡ old.met → (old.met ≡ true → IsAtEnd r) → Course texts old mid l r → Settles texts mid new (Some s) → Nexts texts old new (record { before = l; after = r }) (Ok s)
settled_next texts old mid new l r (settled.Message n) met over c h = record {
  comes = message_comes texts old mid l r c new n h;
  meets = meets_ok old.met new.met l r taken.Message (λ e. ap (λ (x : ItemState). x.met) h.0 ∙ met ∙ e) (λ e. over (sym met ∙ sym (ap (λ (x : ItemState). x.met) h.0) ∙ e));
  from = next_settled texts old mid new l r (settled.Message n) c h;
  falls = message_falls texts old mid l r c new n h;
  held = message_held texts mid new n h;
  there = omega (arith, there_here texts old mid l r c, ap (λ (x : ItemState). length x.held.bytes) h.0, ap (λ (x : ItemState). x.held.taken) h.0);
  within = omega (arith, c.within, ap (λ (x : ItemState). x.held.taken) h.0, ap (λ (x : ItemState). x.held.limit) h.0);
  size = ap (λ (x : ItemState). x.held.size) h.0 ∙ c.size;
  limit = ap (λ (x : ItemState). x.held.limit) h.0 ∙ c.limit;
}
settled_next texts old mid new l r (settled.Garbled run) met over c h =
    let drops = h.1 in
    record {
      comes = garbled_comes texts old mid l r c new run h.0 drops (held_alone texts mid h.0 run (not new.met) (h.3 [] (not new.met)));
      meets = meets_ok old.met new.met l r (taken.Garbled run.code run.at run.length) (λ e. h.4 ∙ met ∙ e) (λ e. over (sym met ∙ sym h.4 ∙ e));
      from = next_settled texts old mid new l r (settled.Garbled run) c h;
      falls = garbled_falls texts old mid l r c new run h.0 drops h.2 (garbled_counted texts (record { place = item_place mid; bytes = mid.held.bytes ++ []; goes_on = true }) h.0 mid.begun run (h.3 [] true));
      held = (h.2, garbled_some texts (record { place = item_place mid; bytes = mid.held.bytes ++ []; goes_on = true }) h.0 mid.begun run (some_here texts old mid l r c) (h.3 [] true));
      there = omega (arith, there_here texts old mid l r c, ap length drops.bytes, length-append h.0 new.held.bytes, drops.taken);
      within = omega (arith, c.within, drops.taken, drops.limit);
      size = drops.size ∙ c.size;
      limit = drops.limit ∙ c.limit;
    }
settled_next texts old mid new l r settled.End met over c h = absurd h

last_next : (texts : Texts) (old mid new : ItemState) (l r : Option (List ℕ)) (s : Settled) → mid.met ≡ true → Course texts old mid l r → IsAtEnd r → Finishes texts mid new s → Nexts texts old new (record { before = l; after = r }) (Ok s)
last_next texts old mid new l r (settled.Message n) met c over f = absurd f
last_next texts old mid new l r (settled.Garbled run) met c over f =
    let drops = f.1 in
    record {
      comes = garbled_comes texts old mid l r c new run f.0 drops (subst (λ t. Garbles texts (record { place = item_place mid; bytes = mid.held.bytes; goes_on = not t }) f.0 mid.begun run) (sym (f.4 ∙ met)) f.3);
      meets = meets_ok old.met new.met l r (taken.Garbled run.code run.at run.length) (λ e. f.4 ∙ met) (λ e. over);
      from = next_last texts old mid new l r (settled.Garbled run) c over f;
      falls = garbled_falls texts old mid l r c new run f.0 drops f.2 (garbled_counted texts (record { place = item_place mid; bytes = mid.held.bytes; goes_on = false }) f.0 mid.begun run f.3);
      held = (f.2, garbled_some texts (record { place = item_place mid; bytes = mid.held.bytes; goes_on = false }) f.0 mid.begun run (some_here texts old mid l r c) f.3);
      there = omega (arith, there_here texts old mid l r c, ap length drops.bytes, length-append f.0 new.held.bytes, drops.taken);
      within = omega (arith, c.within, drops.taken, drops.limit);
      size = drops.size ∙ c.size;
      limit = drops.limit ∙ c.limit;
    }
last_next texts old mid new l r settled.End met c over f = record {
  comes = tt;
  meets = meets_ok old.met new.met l r taken.End (λ e. ap (λ (x : ItemState). x.met) f.2 ∙ met) (λ e. over);
  from = next_last texts old mid new l r settled.End c over f;
  falls = ap (λ (x : ItemState). item_room (raw_shown 0 x None)) f.2 ∙ item_room_here texts old mid l r c;
  held = (ap (λ (x : ItemState). x.begun) f.2 ∙ f.0, ap (λ (x : ItemState). x.held.bytes) f.2 ∙ f.1);
  there = omega (arith, there_here texts old mid l r c, ap (λ (x : ItemState). length x.held.bytes) f.2, ap (λ (x : ItemState). x.held.taken) f.2);
  within = omega (arith, c.within, ap (λ (x : ItemState). x.held.taken) f.2, ap (λ (x : ItemState). x.held.limit) f.2);
  size = ap (λ (x : ItemState). x.held.size) f.2 ∙ c.size;
  limit = ap (λ (x : ItemState). x.held.limit) f.2 ∙ c.limit;
}

-- the texts are those of the start
pub same_texts : (tags : List Pair) (old mid : ItemState) → mid.held.size ≡ old.held.size → texts_of tags mid ≡ texts_of tags old
same_texts tags old mid size = ap (λ n. fix_texts tags (n - 6)) size

-- waiting goes on after a read that gave nothing
pub waits_on : (texts : Texts) (mid new : ItemState) → new.held.bytes ≡ mid.held.bytes → new.held.size ≡ mid.held.size → new.begun ≡ mid.begun → Waits texts mid → Waits texts new
waits_on texts mid new bytes size begun w =
    (omega (arith, w.0, ap length bytes, size), subst (λ b. Stuck texts new.held.bytes b) (sym begun) (subst (λ x. Stuck texts x mid.begun) (sym bytes) w.1))

last_fits : (texts : Texts) (mid new : ItemState) (s : Settled) → Finishes texts mid new s → TextFits new (Ok s)
last_fits texts mid new (settled.Message n) f = absurd f
last_fits texts mid new (settled.Garbled run) f = tt
last_fits texts mid new settled.End f = tt

-- ---- a source that has ended, and one that hasn't

-- what holds now held at the start
pub not_met : (old mid wait : ItemState) → wait.met ≡ false → wait.met ≡ mid.met → mid.met ≡ old.met → old.met ≡ false
not_met old mid wait runs kept same = sym same ∙ sym kept ∙ runs

-- it has no bytes left
pub none_if : (met : Bool) (told : Option (List ℕ)) → met ≡ true → IsAtEnd (left_if met told)
none_if true told e = refl
none_if false told e = cc

pub moves_if : (met : Bool) (old new : HeldState) (l r : Option (List ℕ)) → met ≡ false → Moves old new l r [] → Moves old new (left_if met l) (left_if met r) []
moves_if true old new l r e k = cc
moves_if false old new l r e k = k

pub reads_if : (met : Bool) (old new : HeldState) (l r : Option (List ℕ)) (d : Dry) → met ≡ false → Reads old new l r (Err d) → Reads old new (left_if met l) (left_if met r) (Err d)
reads_if true old new l r d e k = cc
reads_if false old new l r d e k = k

-- a read of a source that has ended
pub reads_none : (met : Bool) (h : HeldState) (told : Option (List ℕ)) → met ≡ true → h.taken ≤ h.limit → length h.bytes ≤ h.size → Reads h h (left_if met told) (left_if met told) (Err dry.End)
reads_none false h told e within fits = cc
reads_none true h told e within fits = (
  [],
  record { more = []; grown = sym (append-nil h.bytes); consumed = refl; taken = omega arith; within = within; limit = refl; size = refl; fits = fits },
  refl,
  (refl, refl),
  λ e. cc,
)

-- ---- one turn of the loop

apart : ◌≡◌ {A = Bool} false true → ⊥
apart e = cc

module _ (tags : List Pair) (old mid wait : ItemState) (l m : Option (List ℕ)) (c : Course (texts_of tags old) old mid l m) (met : mid.met ≡ old.met) where
  abbrev the_texts : Texts
  the_texts = texts_of tags old

  pub turn_settled : (s : Settled) → (old.met ≡ true → IsAtEnd m) → Settles (texts_of tags mid) mid wait (Some s) → Nexts the_texts old wait (record { before = l; after = m }) (Ok s)
  turn_settled s over h = settled_next the_texts old mid wait l m s met over c (subst (λ t. Settles t mid wait (Some s)) (same_texts tags old mid c.size) h)

  module _ (h : Settles (texts_of tags mid) mid wait None) (new : ItemState) (r : Option (List ℕ)) (begun : new.begun ≡ wait.begun) where
    settles : Settles the_texts mid wait None
    settles = subst (λ t. Settles t mid wait None) (same_texts tags old mid c.size) h

    waited : Course the_texts old wait l m
    waited = course_settles the_texts old mid wait l m c settles

    pub turn_goes_on : Moves wait.held new.held m r [] → Course the_texts old new l r
    turn_goes_on k = course_reads the_texts old wait new l m r [] waited k refl begun

    met_here : new.met ≡ wait.met → new.met ≡ old.met
    met_here kept = kept ∙ h.4 ∙ met

    pub turn_fault : new.met ≡ wait.met → old.met ≡ false → Reads wait.held new.held m r (Err dry.Fault) → Nexts the_texts old new (record { before = l; after = r }) (Err err.ReadFault)
    turn_fault kept runs k =
        let course = course_reads the_texts old wait new l m r k.0 waited k.1 k.3 begun in
        record {
          comes = fault_comes the_texts old new l r course;
          meets = record { stays = λ e. met_here kept ∙ e; ended = λ e. absurd (apart (sym runs ∙ sym (met_here kept) ∙ e)); reads = λ e. met_here kept ∙ runs };
          from = next_fault the_texts old new l r course;
          falls = item_room_here the_texts old new l r course;
          held = (waits_on the_texts wait new k.2 k.1.size begun settles.3).1;
          there = there_here the_texts old new l r course;
          within = k.1.within;
          size = course.size;
          limit = course.limit;
        }

    pub turn_limit : new.met ≡ wait.met → old.met ≡ false → Reads wait.held new.held m r (Err dry.Over) → Nexts the_texts old new (record { before = l; after = r }) (Err err.InputLimit)
    turn_limit kept runs k =
        let none : length k.1.more ≡ 0 = omega (arith, ap length k.1.grown, length-append wait.held.bytes k.1.more, ap length k.2) in
        record {
          comes = tt;
          meets = record { stays = λ e. met_here kept ∙ e; ended = λ e. absurd (apart (sym runs ∙ sym (met_here kept) ∙ e)); reads = λ e. cc };
          from = next_limit the_texts old wait new l m r k.0 k.3.0 waited k.1 k.2 k.3.1 (k.4 refl) settles.3;
          falls = omega (arith, item_room_here the_texts old wait l m waited, none, k.1.taken, k.1.limit, ap length k.2, ap so_far begun, waited.within);
          held = ((waits_on the_texts wait new k.2 k.1.size begun settles.3).1, k.4 refl);
          there = omega (arith, there_here the_texts old wait l m waited, none, k.1.taken, ap length k.2);
          within = k.1.within;
          size = k.1.size ∙ waited.size;
          limit = k.1.limit ∙ waited.limit;
        }

    pub turn_last : new.met ≡ true → Reads wait.held new.held m r (Err dry.End) → (last : ItemState) (s : Settled) → ((texts : Texts) → Waits texts new → Finishes texts new last s) → Nexts the_texts old last (record { before = l; after = r }) (Ok s)
    turn_last done k last s f =
        last_next the_texts old new last l r s done (course_reads the_texts old wait new l m r k.0 waited k.1 k.3.0 begun) k.3.1 (f the_texts (waits_on the_texts wait new k.2 k.1.size begun settles.3))

    pub turn_fits : Reads wait.held new.held m r (Err dry.End) → (last : ItemState) (s : Settled) → ((texts : Texts) → Waits texts new → Finishes texts new last s) → TextFits last (Ok s)
    turn_fits k last s f = last_fits the_texts new last s (f the_texts (waits_on the_texts wait new k.2 k.1.size begun settles.3))

pub settled_fits : (texts : Texts) (mid new : ItemState) (s : Settled) → Settles texts mid new (Some s) → TextFits new (Ok s)
settled_fits texts mid new (settled.Message n) h = subst (λ (x : ItemState). n ≤ length x.held.bytes) (sym h.0) h.2
settled_fits texts mid new (settled.Garbled run) h = tt
settled_fits texts mid new settled.End h = absurd h
