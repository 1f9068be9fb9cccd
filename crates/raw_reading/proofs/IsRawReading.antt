-- A stream of texts is a reading: it is split in one way, and goes on item by item.
use Rattle.std.proofs.Common.{◌≡◌, ◌+◌, ◌-◌, ◌≤◌, ℕ, Bool, true, false, List, [], ◌∷◌, ◌++◌, length, take, map, refl, sym, ap, ◌∙◌, subst, arith, append_assoc, length-append}
use Rattle.std.specs.Prelude.{not, nat_lt}
use Rattle.std.specs.List.{AllByRecursion}
use Rattle.std.proofs.lemmas.Bool.Decides.{nat_tests}
use Rattle.std.proofs.lemmas.List.{append-nil, append_cancel_left, nil_from_length}
use Rattle.std.proofs.Math.Seq.{take-append-add}
use Rattle.open_framing.specs.Heads.{IsBytes}
use Rattle.open_framing.specs.Pieces.{concat_pieces}
use Rattle.open_framing.proofs.PieceLemmas.{more_behind}
use Rattle.command_steps.specs.Ahead.{Ahead, none_ahead}
use Rattle.command_steps.specs.Splits.{IsReading, Front, Piece, PieceEnd, piece_bytes, taken_by}
use Rattle.command_steps.specs.Splits as ends
use Rattle.command_steps.proofs.Splitting.{taken_none}
use Rattle.raw_fix.specs.Turns.{InTurn}
use Rattle.raw_fix.specs.Raw.{Texts, Item, IsItem, item_bytes, RawEnd, End, InputLimit, EndsAt, raw_of}
use Rattle.raw_fix.proofs.TurnLemmas.{NoItem}
use Rattle.raw_fix.proofs.RawLemmas.{raw_reads, raw_once, raw_found, end_none}
use Rattle.raw_reading.specs.Reading.{piece_of, end_of, SplitsRaw, items_bytes, Span, BeginsRaw, HoldsRaw, SuitsRaw, raw_reading}
use Rattle.raw_reading.proofs.ItemsOn.{turns_more, turns_first, shows_longer, pieces_bytes, map_more, bytes_more, none_mapped}

-- a stream with what was taken after some pieces, and what follows these
abbrev span_of : ℕ → Ahead → List ℕ → List ℕ → Span
span_of n ahead stream rest = record { most = n; ahead = ahead; stream = stream; rest = rest }

module _ (texts : Texts) where
  once : (n : ℕ) (stream : List ℕ) (xs ys : List Piece) (a b : PieceEnd) → SplitsRaw texts n stream xs a → SplitsRaw texts n stream ys b → (xs ≡ ys) × (a ≡ b)
  once n stream xs ys a b h k =
      let same = raw_once texts stream n h.0 k.0 h.1 k.1 h.2 k.2 in
      (h.3 ∙ ap (map piece_of) same.0 ∙ sym k.3, h.4 ∙ ap end_of same.1 ∙ sym k.4)

  some : (n : ℕ) (stream : List ℕ) → IsBytes stream → (pieces : List Piece) × (end : PieceEnd) × SplitsRaw texts n stream pieces end
  some n stream good =
      let raw = raw_of texts stream n in
      (map piece_of raw.0, end_of raw.1, (raw.0, raw.1, raw_found texts stream n, refl, refl))

  suit : (items : List Item) → AllByRecursion SuitsRaw (map piece_of items)
  suit [] = tt
  suit (item ∷ items) = ((item, refl), suit items)

  suits : (n : ℕ) (stream : List ℕ) (pieces : List Piece) (end : PieceEnd) → SplitsRaw texts n stream pieces end → AllByRecursion SuitsRaw pieces
  suits n stream pieces end h = subst (AllByRecursion SuitsRaw) (sym h.3) (suit h.0)

  none : (n : ℕ) (stream : List ℕ) → BeginsRaw texts (span_of n none_ahead stream stream) []
  none n stream = record { items = []; pieces_are = refl; whole = refl; left = stream; follows = refl; shows = refl; within = omega arith; all = λ e. cc }

  ended : (n : ℕ) (end : PieceEnd) → SplitsRaw texts n [] [] end → end ≡ ends.End
  ended n end h = h.4 ∙ ap end_of (by_end h.1 h.2.ends)
    where
      stays : nat_lt n 0 ≡ false
      stays = grind (arith, nat_tests)

      by_end : (last : RawEnd) → EndsAt texts (nat_lt n 0) h.2.rest last → last ≡ End
      by_end End at = refl
      by_end InputLimit at = let no : true ≡ false = sym at.0 ∙ stays in cc

  -- ---- items at the front

  module _ (n : ℕ) (ahead : Ahead) (stream rest : List ℕ) (xs : List Piece) (h : BeginsRaw texts (span_of n ahead stream rest) xs) where
    -- how many bytes of what the source has left are within the limit
    abbrev within_rest : List ℕ
    within_rest = take (n - length (items_bytes h.items ++ ahead.held)) h.left

    abbrev goes_on : Bool
    goes_on = nat_lt n (length stream)

    stream_is : stream ≡ (items_bytes h.items ++ ahead.held) ++ h.left
    stream_is = h.whole ∙ ap (λ r. items_bytes h.items ++ r) h.follows ∙ sym (append_assoc (items_bytes h.items) ahead.held h.left)

    taken_is : take n stream ≡ items_bytes h.items ++ (ahead.held ++ within_rest)
    taken_is =
        let front = items_bytes h.items ++ ahead.held in
        let size : n ≡ length front + (n - length front) = omega (arith, h.within) in
        ap (take n) stream_is ∙ ap (λ k. take k (front ++ h.left)) size ∙ take-append-add front h.left (n - length front) ∙ append_assoc (items_bytes h.items) ahead.held within_rest

    last_one : ahead.is_all ≡ true → (within_rest ≡ []) × (goes_on ≡ false)
    last_one e =
        let nothing : length h.left ≡ 0 = ap length (h.all e) in
        let size : length stream ≡ length (items_bytes h.items ++ ahead.held) + length h.left = ap length stream_is ∙ length-append (items_bytes h.items ++ ahead.held) h.left in
        let low : length stream ≤ n = omega (arith, size, nothing, h.within) in
        (ap (take (n - length (items_bytes h.items ++ ahead.held))) (h.all e) ∙ taken_none (n - length (items_bytes h.items ++ ahead.held)), grind (arith, nat_tests, low))

    -- they are items of the whole stream
    turns_here : InTurn (IsItem texts goes_on) item_bytes (take n stream) h.items (ahead.held ++ within_rest)
    turns_here = subst (λ b. InTurn (IsItem texts goes_on) item_bytes b h.items (ahead.held ++ within_rest)) (sym taken_is) (shows_longer texts ahead.is_all goes_on ahead.held within_rest h.items last_one h.shows)

    first : (ys : List Piece) (end : PieceEnd) → SplitsRaw texts n stream ys end → (tail : List Piece) × (ys ≡ xs ++ tail)
    first ys end k =
        let found = turns_first (raw_reads texts goes_on) (take n stream) (ahead.held ++ within_rest) k.2.rest h.items k.0 turns_here k.2.turns (end_none texts goes_on k.2.rest k.1 k.2.ends) in
        (map piece_of found.0, k.3 ∙ ap (map piece_of) found.1 ∙ map_more h.items found.0 ∙ ap (λ z. z ++ map piece_of found.0) (sym h.pieces_are))

    counted : taken_by xs ≡ length (items_bytes h.items)
    counted = ap (λ ps. length (concat_pieces piece_bytes ps)) h.pieces_are ∙ ap length (pieces_bytes h.items)

    front_within : length (items_bytes h.items) ≤ n
    front_within = omega (arith, h.within, length-append (items_bytes h.items) ahead.held)

    -- what the rest is within the limit
    rest_taken : take (n - taken_by xs) rest ≡ ahead.held ++ within_rest
    rest_taken =
        let front = items_bytes h.items in
        let size : n ≡ length front + (n - taken_by xs) = omega (arith, counted, front_within) in
        let both : take n stream ≡ front ++ take (n - taken_by xs) rest = ap (take n) h.whole ∙ ap (λ k. take k (front ++ rest)) size ∙ take-append-add front rest (n - taken_by xs) in
        append_cancel_left front (take (n - taken_by xs) rest) (ahead.held ++ within_rest) (sym both ∙ taken_is)

    rest_goes : nat_lt (n - taken_by xs) (length rest) ≡ goes_on
    rest_goes =
        let front = items_bytes h.items in
        let size : length front + (n - taken_by xs) ≡ n = omega (arith, counted, front_within) in
        sym (more_behind front rest (n - taken_by xs)) ∙ ap (λ k. nat_lt k (length (front ++ rest))) size ∙ ap (λ s. nat_lt n (length s)) (sym h.whole)

    all : (ys : List Piece) (end : PieceEnd) → SplitsRaw texts (n - taken_by xs) rest ys end → SplitsRaw texts n stream (xs ++ ys) end
    all ys end k =
        let later : InTurn (IsItem texts goes_on) item_bytes (ahead.held ++ within_rest) k.0 k.2.rest =
        subst (λ b. InTurn (IsItem texts goes_on) item_bytes b k.0 k.2.rest) rest_taken (subst (λ t. InTurn (IsItem texts t) item_bytes (take (n - taken_by xs) rest) k.0 k.2.rest) rest_goes k.2.turns) in (
          h.items ++ k.0,
          k.1,
          record {
            rest = k.2.rest;
            turns = turns_more (IsItem texts goes_on) item_bytes (take n stream) (ahead.held ++ within_rest) k.2.rest h.items k.0 turns_here later;
            ends = subst (λ t. EndsAt texts t k.2.rest k.1) rest_goes k.2.ends;
          },
          ap (λ z. z ++ ys) h.pieces_are ∙ ap (λ z. map piece_of h.items ++ z) k.3 ∙ sym (map_more h.items k.0),
          k.4,
        )

    more : (next : Ahead) (after : List ℕ) (ys : List Piece) → BeginsRaw texts (span_of (n - taken_by xs) next rest after) ys → Front ahead.held (concat_pieces piece_bytes ys ++ next.held) → (ahead.is_all ≡ true → next.is_all ≡ true) →
        BeginsRaw texts (span_of n next stream after) (xs ++ ys)
    more next after ys k front stays =
        let ys_bytes : concat_pieces piece_bytes ys ≡ items_bytes k.items = ap (concat_pieces piece_bytes) k.pieces_are ∙ pieces_bytes k.items in
        let held : items_bytes k.items ++ next.held ≡ ahead.held ++ front.0 = ap (λ b. b ++ next.held) (sym ys_bytes) ∙ front.1 in
        let last : ahead.is_all ≡ true → (front.0 ≡ []) × (not next.is_all ≡ false) = λ e.
        let size : length rest ≡ length ahead.held = ap length h.follows ∙ ap (λ l. length (ahead.held ++ l)) (h.all e) ∙ ap length (append-nil ahead.held) in
        let same : rest ≡ items_bytes k.items ++ next.held = k.whole ∙ ap (λ r. items_bytes k.items ++ r) (k.follows ∙ ap (λ l. next.held ++ l) (k.all (stays e)) ∙ append-nil next.held) in
        (nil_from_length front.0 (omega (arith, size, ap length same, ap length held, length-append ahead.held front.0)), ap not (stays e)) in
        let here : InTurn (IsItem texts (not next.is_all)) item_bytes (items_bytes h.items ++ (ahead.held ++ front.0)) h.items (ahead.held ++ front.0) = shows_longer texts ahead.is_all (not next.is_all) ahead.held front.0 h.items last h.shows in
        let there : InTurn (IsItem texts (not next.is_all)) item_bytes (items_bytes h.items ++ (items_bytes k.items ++ next.held)) h.items (items_bytes k.items ++ next.held) =
        subst (λ b. InTurn (IsItem texts (not next.is_all)) item_bytes (items_bytes h.items ++ b) h.items b) (sym held) here in
        let both = turns_more (IsItem texts (not next.is_all)) item_bytes (items_bytes h.items ++ (items_bytes k.items ++ next.held)) (items_bytes k.items ++ next.held) next.held h.items k.items there k.shows in
        let bytes : items_bytes (h.items ++ k.items) ++ next.held ≡ items_bytes h.items ++ (items_bytes k.items ++ next.held) = ap (λ b. b ++ next.held) (bytes_more h.items k.items) ∙ append_assoc (items_bytes h.items) (items_bytes k.items) next.held in
        record {
          items = h.items ++ k.items;
          pieces_are = ap (λ z. z ++ ys) h.pieces_are ∙ ap (λ z. map piece_of h.items ++ z) k.pieces_are ∙ sym (map_more h.items k.items);
          whole = h.whole ∙ ap (λ r. items_bytes h.items ++ r) k.whole ∙ sym (append_assoc (items_bytes h.items) (items_bytes k.items) after) ∙ ap (λ b. b ++ after) (sym (bytes_more h.items k.items));
          left = k.left;
          follows = k.follows;
          shows = subst (λ b. InTurn (IsItem texts (not next.is_all)) item_bytes b (h.items ++ k.items) next.held) (sym bytes) both;
          within = omega (arith, ap length bytes, length-append (items_bytes h.items) (items_bytes k.items ++ next.held), k.within, counted, front_within);
          all = k.all;
        }

    held_so : (held left : List ℕ) → rest ≡ held ++ left → Front ahead.held held → ahead.is_all ≡ false → HoldsRaw texts held [] →
        HoldsRaw texts (concat_pieces piece_bytes xs ++ held) xs × (stream ≡ (concat_pieces piece_bytes xs ++ held) ++ left)
    held_so held left follows front reads k =
        let bytes : concat_pieces piece_bytes xs ≡ items_bytes h.items = ap (concat_pieces piece_bytes) h.pieces_are ∙ pieces_bytes h.items in
        let nothing : k.items ≡ [] = none_mapped k.items k.pieces_are in
        let rest_is : held ≡ k.rest = subst (λ (items : List Item). InTurn (IsItem texts true) item_bytes held items k.rest) nothing k.turns in
        let last : ahead.is_all ≡ true → (front.0 ≡ []) × (true ≡ false) = λ e. absurd (apart (sym e ∙ reads)) in
        let here : InTurn (IsItem texts true) item_bytes (items_bytes h.items ++ (ahead.held ++ front.0)) h.items (ahead.held ++ front.0) = shows_longer texts ahead.is_all true ahead.held front.0 h.items last h.shows in
        let there : InTurn (IsItem texts true) item_bytes (items_bytes h.items ++ held) h.items held = subst (λ b. InTurn (IsItem texts true) item_bytes (items_bytes h.items ++ b) h.items b) (sym front.1) here in (
          record {
            items = h.items;
            pieces_are = h.pieces_are;
            rest = held;
            turns = subst (λ b. InTurn (IsItem texts true) item_bytes (b ++ held) h.items held) (sym bytes) there;
            none = subst (NoItem (IsItem texts true)) (sym rest_is) k.none;
          },
          h.whole ∙ ap (λ b. b ++ rest) (sym bytes) ∙ ap (λ r. concat_pieces piece_bytes xs ++ r) follows ∙ sym (append_assoc (concat_pieces piece_bytes xs) held left),
        )
      where
        apart : ◌≡◌ {A = Bool} true false → ⊥
        apart e = cc

  pub raw_is_reading : IsReading (raw_reading texts)
  raw_is_reading = record {
    once = once;
    some = some;
    suits = suits;
    none = none;
    first = λ n ahead stream xs ys rest end h k. first n ahead stream rest xs h ys end k;
    more = λ n ahead next stream mid rest xs ys h k front stays. more n ahead stream mid xs h next rest ys k front stays;
    all = λ n ahead stream rest xs ys end h k. all n ahead stream rest xs h ys end k;
    held = λ n ahead stream held left xs h front reads k. held_so n ahead stream (held ++ left) xs h held left refl front reads k;
    ended = ended;
  }
