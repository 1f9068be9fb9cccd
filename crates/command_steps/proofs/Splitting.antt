-- Pieces at the front of an input are the first of those that it splits into.
use Rattle.std.proofs.Common.{◌≡◌, ◌⊎◌, inl, inr, Bool, true, false, ℕ, zero, suc, ◌+◌, ◌-◌, ◌≤◌, ◌<◌, List, [], ◌∷◌, ◌++◌, length, take, map, Option, Some, None, refl, sym, ap, ◌∙◌, subst, arith, append_assoc, length-append}
use Rattle.std.specs.Prelude.{nat_lt, ◌==◌}
use Rattle.std.proofs.lemmas.Bool.Decides.{nat_tests}
use Rattle.std.specs.List.{AllByRecursion}
use Rattle.std.proofs.lemmas.List.{append-nil, append_cancel_left}
use Rattle.std.proofs.lemmas.List.Concat.{flat_map-append}
use Rattle.std.proofs.Math.Seq.{take-append-add}
use Rattle.open_framing.specs.Heads.{IsBytes}
use Rattle.open_framing.specs.Pieces.{Pieces, concat_pieces}
use Rattle.open_framing.specs.Frames.{Item, frame_of, IsFrame, first_item, Cut, CutEnd, cut_of}
use Rattle.open_framing.specs.Frames as frames
use Rattle.open_framing.specs.Lines.{IsLine, LineEnd, first_line, lines_of}
use Rattle.open_framing.specs.Lines as lines
use Rattle.open_framing.proofs.FrameLemmas.{cut_more, cut_once, cut_found, frame_complete}
use Rattle.open_framing.proofs.LineLemmas.{lines_once, lines_found, lines_more, line_complete}
use Rattle.command_steps.specs.Ahead.{Ahead, none_ahead}
use Rattle.command_steps.specs.Splits.{Reading, Frames, Lines, Once, Nothing, Others, Piece, Frame, Line, Whole, piece_bytes, ended_piece, line_pieces, PieceEnd, End, frames_end, lines_end, Splits, Leads, Begins, Keeps, Holds}
use Rattle.command_steps.specs.Reaches.{ReachesIf, Reaches}
use Rattle.command_steps.specs.Steps.{reading_after, once_if}
use Rattle.command_steps.specs.declared.kept.Kept.{Kept}

-- ---- there is one way to split, and there is one

pub some_same : {X : Type 0} {x y : X} → ◌≡◌ {A = Option X} (Some x) (Some y) → x ≡ y
some_same h = cc

pub none_some : {X : Type 0} {x : X} → ◌≡◌ {A = Option X} None (Some x) → ⊥
none_some h = cc

pub splits_once : (reading : Reading) (stream : List ℕ) (xs ys : List Piece) (a b : PieceEnd) → Splits reading stream xs a → Splits reading stream ys b → (xs ≡ ys) × (a ≡ b)
splits_once (Frames limits) stream xs ys a b h k =
    let same = cut_once stream limits.frame limits.input h.0 k.0 h.1 k.1 h.2 k.2 in
    (h.3 ∙ ap (map Frame) same.0 ∙ sym k.3, h.4 ∙ ap frames_end same.1 ∙ sym k.4)
splits_once (Lines input) stream xs ys a b h k =
    let same = lines_once stream input h.0 k.0 h.1 k.1 h.2 k.2 in
    (h.3 ∙ ap (line_pieces (length stream)) same.0 ∙ sym k.3, h.4 ∙ ap lines_end same.1 ∙ sym k.4)
splits_once Once stream xs ys a b h k = (h.0 ∙ sym k.0, h.1 ∙ sym k.1)
splits_once Nothing stream xs ys a b h k = (h.0 ∙ sym k.0, h.1 ∙ sym k.1)
splits_once (Others reading laws input) stream xs ys a b h k = laws.once input stream xs ys a b h k

pub splits_some : (reading : Reading) (stream : List ℕ) → IsBytes stream → (pieces : List Piece) × (end : PieceEnd) × Splits reading stream pieces end
splits_some (Frames limits) stream good =
    let cut = cut_of stream limits.frame limits.input in
    (map Frame cut.0, frames_end cut.1, (cut.0, cut.1, cut_found stream limits.frame limits.input good, refl, refl))
splits_some (Lines input) stream good =
    let cut = lines_of stream input in
    (line_pieces (length stream) cut.0, lines_end cut.1, (cut.0, cut.1, lines_found stream input, refl, refl))
splits_some Once stream good = (Whole ∷ [], End, (refl, refl))
splits_some Nothing stream good = ([], End, (refl, refl))
splits_some (Others reading laws input) stream good = laws.some input stream good

-- ---- one list of items before another

module _ {X : Type 0} (IsItem : X → Type 0) (bytes_of : X → List ℕ) where
  pub each_more : (xs ys : List X) → AllByRecursion IsItem xs → AllByRecursion IsItem ys → AllByRecursion IsItem (xs ++ ys)
  each_more [] ys all there = there
  each_more (y ∷ xs) ys all there = (all.0, each_more xs ys all.1 there)

  pub joined_more : (xs ys : List X) → concat_pieces bytes_of (xs ++ ys) ≡ concat_pieces bytes_of xs ++ concat_pieces bytes_of ys
  joined_more xs ys = flat_map-append bytes_of xs ys

  -- the first items and then those of their rest
  pub leads_on : (bytes mid rest : List ℕ) (xs ys : List X) → Leads IsItem bytes_of bytes xs mid → Leads IsItem bytes_of mid ys rest → Leads IsItem bytes_of bytes (xs ++ ys) rest
  leads_on bytes mid rest xs ys h k = record {
    whole = h.whole ∙ ap (λ x. concat_pieces bytes_of xs ++ x) k.whole ∙ sym (append_assoc (concat_pieces bytes_of xs) (concat_pieces bytes_of ys) rest) ∙ ap (λ x. x ++ rest) (sym (joined_more xs ys));
    each = each_more xs ys h.each k.each;
  }

  module _ (first : List ℕ → Option X) (complete : (x : X) (more : List ℕ) → IsItem x → first (bytes_of x ++ more) ≡ Some x) where
    -- items at the front of bytes are the first of all their pieces
    pub leads_first : (xs ys : List X) (bytes more rest : List ℕ) → bytes ≡ concat_pieces bytes_of xs ++ more → AllByRecursion IsItem xs → Pieces IsItem bytes_of bytes ys rest → (tail : List X) × (ys ≡ xs ++ tail)
    leads_first [] ys bytes more rest e all cut = (ys, refl)
    leads_first (x ∷ xs) [] bytes more rest e all cut = absurd (cut.longest x (concat_pieces bytes_of xs ++ more) all.0 (sym cut.whole ∙ e ∙ append_assoc (bytes_of x) (concat_pieces bytes_of xs) more))
    leads_first (x ∷ xs) (y ∷ ys) bytes more rest e all cut =
        let at_x : bytes ≡ bytes_of x ++ (concat_pieces bytes_of xs ++ more) = e ∙ append_assoc (bytes_of x) (concat_pieces bytes_of xs) more in
        let at_y : bytes ≡ bytes_of y ++ (concat_pieces bytes_of ys ++ rest) = cut.whole ∙ append_assoc (bytes_of y) (concat_pieces bytes_of ys) rest in
        let first_x : first bytes ≡ Some x = ap first at_x ∙ complete x (concat_pieces bytes_of xs ++ more) all.0 in
        let first_y : first bytes ≡ Some y = ap first at_y ∙ complete y (concat_pieces bytes_of ys ++ rest) cut.each.0 in
        let same : x ≡ y = some_same (sym first_x ∙ first_y) in
        let later : concat_pieces bytes_of xs ++ more ≡ concat_pieces bytes_of ys ++ rest = append_cancel_left (bytes_of x) (concat_pieces bytes_of xs ++ more) (concat_pieces bytes_of ys ++ rest) (sym at_x ∙ at_y ∙ ap (λ z. bytes_of z ++ (concat_pieces bytes_of ys ++ rest)) (sym same)) in
        let found = leads_first xs ys (concat_pieces bytes_of xs ++ more) more rest refl all.1 (record { whole = later; each = cut.each.1; longest = cut.longest }) in
        (found.0, ap (λ z. z ∷ ys) (sym same) ∙ ap (λ z. x ∷ z) found.1)

-- bytes within a limit stay at the front of what the limit leaves
taken_front : (stream front rest : List ℕ) (limit : ℕ) → stream ≡ front ++ rest → length front ≤ limit → take limit stream ≡ front ++ take (limit - length front) rest
taken_front stream front rest limit e within =
    let n = limit - length front in
    let whole : limit ≡ length front + n = omega (arith, within) in
    ap (take limit) e ∙ ap (λ k. take k (front ++ rest)) whole ∙ take-append-add front rest n

map_more : {X Y : Type 0} (f : X → Y) (xs ys : List X) → map f (xs ++ ys) ≡ map f xs ++ map f ys
map_more f [] ys = refl
map_more f (x ∷ xs) ys = ap (λ r. f x ∷ r) (map_more f xs ys)

-- ---- lines as pieces

-- a byte more is there
pub has_end : (line : List ℕ) (count : ℕ) → length line < count → nat_lt (length line) count ≡ true
has_end line count h = grind (arith, nat_tests, h)

pub ended_size : (line : List ℕ) → length (lines.ended line) ≡ length line + 1
ended_size line = omega (arith, length-append line (lines.line_end ∷ []))

same_line : (line : List ℕ) (more : List Piece) (t u : Bool) → t ≡ u → ◌≡◌ {A = List Piece} (Line line t ∷ more) (Line line u ∷ more)
same_line line more t u e = ap (λ b. Line line b ∷ more) e

-- lines whose ends are there, and then those of the rest
pieces_counted : (all more : List (List ℕ)) (count rest : ℕ) → count ≡ length (concat_pieces lines.ended all) + rest → line_pieces count (all ++ more) ≡ map ended_piece all ++ line_pieces rest more
pieces_counted [] more count rest e = let same : count ≡ rest = omega (arith, e) in ap (λ n. line_pieces n more) same
pieces_counted (x ∷ all) more count rest e =
    let size : length (concat_pieces lines.ended (x ∷ all)) ≡ (length x + 1) + length (concat_pieces lines.ended all) = length-append (lines.ended x) (concat_pieces lines.ended all) ∙ ap (λ n. n + length (concat_pieces lines.ended all)) (ended_size x) in
    let there : length x < count = omega (arith, e, size) in
    let left : count - (length x + 1) ≡ length (concat_pieces lines.ended all) + rest = omega (arith, e, size) in
    same_line x (line_pieces (count - (length x + 1)) (all ++ more)) (nat_lt (length x) count) true (has_end x count there)
    ∙ ap (λ z. ended_piece x ∷ z) (pieces_counted all more (count - (length x + 1)) rest left)

pub pieces_on : (all more : List (List ℕ)) (stream rest : List ℕ) → stream ≡ concat_pieces lines.ended all ++ rest → line_pieces (length stream) (all ++ more) ≡ map ended_piece all ++ line_pieces (length rest) more
pieces_on all more stream rest e = pieces_counted all more (length stream) (length rest) (ap length e ∙ length-append (concat_pieces lines.ended all) rest)

pub pieces_ended : (all : List (List ℕ)) (stream rest : List ℕ) → stream ≡ concat_pieces lines.ended all ++ rest → line_pieces (length stream) all ≡ map ended_piece all
pieces_ended all stream rest e = ap (line_pieces (length stream)) (sym (append-nil all)) ∙ pieces_on all [] stream rest e ∙ append-nil (map ended_piece all)

-- ---- pieces at the front are the first ones

pub begins_first : (reading : Reading) (ahead : Ahead) (stream : List ℕ) (xs ys : List Piece) (rest : List ℕ) (end : PieceEnd) → Begins reading ahead stream xs rest → Splits reading stream ys end → (tail : List Piece) × (ys ≡ xs ++ tail)
begins_first (Frames limits) ahead stream xs ys rest end h k =
    let front = taken_front stream (concat_pieces frame_of h.0) rest limits.input h.1.whole h.2 in
    let found = leads_first (IsFrame limits.frame) frame_of (first_item limits.frame) (frame_complete limits.frame) h.0 k.0 (take limits.input stream) _ k.2.rest front h.1.each k.2.pieces in
    (map Frame found.0, k.3 ∙ ap (map Frame) found.1 ∙ map_more Frame h.0 found.0 ∙ ap (λ z. z ++ map Frame found.0) (sym h.3))
begins_first (Lines input) ahead stream xs ys rest end h k =
    let front = taken_front stream (concat_pieces lines.ended h.0) rest input h.1.whole h.2 in
    let last = lines.last_of (nat_lt input (length stream)) k.2.rest in
    let found = leads_first IsLine lines.ended first_line line_complete h.0 k.2.before (take input stream) _ k.2.rest front h.1.each k.2.pieces in (
      line_pieces (length rest) (found.0 ++ last.0),
      k.3 ∙ ap (line_pieces (length stream)) (k.2.all ∙ ap (λ z. z ++ last.0) found.1 ∙ append_assoc h.0 found.0 last.0) ∙ pieces_on h.0 (found.0 ++ last.0) stream rest h.1.whole
          ∙ ap (λ z. z ++ line_pieces (length rest) (found.0 ++ last.0)) (sym h.3),
    )
begins_first Once ahead stream xs ys rest end h k = elim h.0 [
  | inl none ↦ (ys, ap (λ z. z ++ ys) (sym none))
  | inr one ↦ ([], k.0 ∙ ap (λ z. z ++ []) (sym one))
]
begins_first Nothing ahead stream xs ys rest end h k = (ys, ap (λ z. z ++ ys) (sym h.0))
begins_first (Others reading laws input) ahead stream xs ys rest end h k = laws.first input ahead stream xs ys rest end h k

-- ---- pieces follow pieces

pub begins_none : (reading : Reading) (stream : List ℕ) → Begins reading none_ahead stream [] stream
begins_none (Frames limits) stream = ([], record { whole = refl; each = tt }, omega arith, refl)
begins_none (Lines input) stream = ([], record { whole = refl; each = tt }, omega arith, refl)
begins_none Once stream = (inl refl, refl)
begins_none Nothing stream = (refl, refl)
begins_none (Others reading laws input) stream = laws.none input stream

frames_bytes : (items : List Item) → concat_pieces piece_bytes (map Frame items) ≡ concat_pieces frame_of items
frames_bytes [] = refl
frames_bytes (item ∷ items) = ap (λ r. frame_of item ++ r) (frames_bytes items)

lines_bytes : (all : List (List ℕ)) → concat_pieces piece_bytes (map ended_piece all) ≡ concat_pieces lines.ended all
lines_bytes [] = refl
lines_bytes (line ∷ all) = ap (λ r. lines.ended line ++ r) (lines_bytes all)

-- so many bytes and pieces are counted
pub record Counts (kept : Kept) (pieces : List Piece) : Type 0 where
  pub items : kept.items ≡ length pieces
  pub bytes : kept.bytes ≡ length (concat_pieces piece_bytes pieces)

frames_counted : (kept : Kept) (pieces : List Piece) (items : List Item) → Counts kept pieces → pieces ≡ map Frame items → kept.bytes ≡ length (concat_pieces frame_of items)
frames_counted kept pieces items c e = c.bytes ∙ ap (λ ps. length (concat_pieces piece_bytes ps)) e ∙ ap length (frames_bytes items)

lines_counted : (kept : Kept) (pieces : List Piece) (all : List (List ℕ)) → Counts kept pieces → pieces ≡ map ended_piece all → kept.bytes ≡ length (concat_pieces lines.ended all)
lines_counted kept pieces all c e = c.bytes ∙ ap (λ ps. length (concat_pieces piece_bytes ps)) e ∙ ap length (lines_bytes all)

no_more : {x : Piece} {xs : List Piece} → ◌≡◌ {A = List Piece} [] (x ∷ xs) → ⊥
no_more h = cc

-- the tests of the count
is_none : (n : ℕ) (t : Bool) → (n == 0) ≡ t → n ≡ 0 → once_if t ≡ Once
is_none n true h e = refl
is_none n false h e = absurd (apart (sym h ∙ hit))
  where
    hit : (n == 0) ≡ true
    hit = grind (arith, nat_tests)

    apart : ◌≡◌ {A = Bool} false true → ⊥
    apart k = cc

is_one : (n : ℕ) (t : Bool) → (n == 0) ≡ t → n ≡ 1 → once_if t ≡ Nothing
is_one n true h e = absurd (apart (sym miss ∙ h))
  where
    miss : (n == 0) ≡ false
    miss = grind (arith, nat_tests)

    apart : ◌≡◌ {A = Bool} false true → ⊥
    apart k = cc
is_one n false h e = refl

-- whether the one job is still to do
pub once_none : (kept : Kept) → kept.items ≡ 0 → reading_after Once kept ≡ Once
once_none kept e = is_none kept.items (kept.items == 0) refl e

pub once_one : (kept : Kept) → kept.items ≡ 1 → reading_after Once kept ≡ Nothing
once_one kept e = is_one kept.items (kept.items == 0) refl e

-- one job was done, or none yet
once_done : (kept : Kept) (pieces : List Piece) → Counts kept pieces → pieces ≡ Whole ∷ [] → reading_after Once kept ≡ Nothing
once_done kept pieces c e = once_one kept (c.items ∙ ap length e)

once_left : (kept : Kept) (pieces : List Piece) → Counts kept pieces → pieces ≡ [] → reading_after Once kept ≡ Once
once_left kept pieces c e = once_none kept (c.items ∙ ap length e)

pub begins_more : (reading : Reading) (kept : Kept) (ahead next : Ahead) (stream mid rest : List ℕ) (xs ys : List Piece) → Counts kept xs → Begins reading ahead stream xs mid → Begins (reading_after reading kept) next mid ys rest →
    Keeps reading ahead.held (concat_pieces piece_bytes ys ++ next.held) → (ahead.is_all ≡ true → next.is_all ≡ true) → Begins reading next stream (xs ++ ys) rest
begins_more (Frames limits) kept ahead next stream mid rest xs ys c h k keeps stays = (
  h.0 ++ k.0,
  leads_on (IsFrame limits.frame) frame_of stream mid rest h.0 k.0 h.1 k.1,
  omega (arith, ap length (joined_more (IsFrame limits.frame) frame_of h.0 k.0), length-append (concat_pieces frame_of h.0) (concat_pieces frame_of k.0), h.2, k.2, frames_counted kept xs h.0 c h.3),
  ap (λ z. z ++ ys) h.3 ∙ ap (λ z. map Frame h.0 ++ z) k.3 ∙ sym (map_more Frame h.0 k.0),
)
begins_more (Lines input) kept ahead next stream mid rest xs ys c h k keeps stays = (
  h.0 ++ k.0,
  leads_on IsLine lines.ended stream mid rest h.0 k.0 h.1 k.1,
  omega (arith, ap length (joined_more IsLine lines.ended h.0 k.0), length-append (concat_pieces lines.ended h.0) (concat_pieces lines.ended k.0), h.2, k.2, lines_counted kept xs h.0 c h.3),
  ap (λ z. z ++ ys) h.3 ∙ ap (λ z. map ended_piece h.0 ++ z) k.3 ∙ sym (map_more ended_piece h.0 k.0),
)
begins_more Once kept ahead next stream mid rest xs ys c h k keeps stays = elim h.0 [
  | inl none ↦
      let there : Begins Once next mid ys rest = subst (λ r. Begins r next mid ys rest) (once_left kept xs c none) k in
      (subst (λ z. (z ++ ys ≡ []) ⊎ (z ++ ys ≡ Whole ∷ [])) (sym none) there.0, there.1 ∙ h.1)
  | inr one ↦
      let there : Begins Nothing next mid ys rest = subst (λ r. Begins r next mid ys rest) (once_done kept xs c one) k in
      (inr (ap (λ z. z ++ ys) one ∙ ap (λ z. Whole ∷ z) there.0), there.1 ∙ h.1)
]
begins_more Nothing kept ahead next stream mid rest xs ys c h k keeps stays = (ap (λ z. z ++ ys) h.0 ∙ k.0, k.1 ∙ h.1)
begins_more (Others reading laws input) kept ahead next stream mid rest xs ys c h k keeps stays =
    laws.more input ahead next stream mid rest xs ys h (subst (λ n. reading.Begins (input - n) next mid ys rest) c.bytes k) keeps stays

-- ---- an end after pieces is the end of all

cuts_on : (items more : List Item) (rest : List ℕ) (limit n : ℕ) (end : CutEnd) → AllByRecursion (IsFrame limit) items → Cut rest limit n more end →
    Cut (concat_pieces frame_of items ++ rest) limit (length (concat_pieces frame_of items) + n) (items ++ more) end
cuts_on [] more rest limit n end all cut = let same : n ≡ 0 + n = omega arith in subst (λ k. Cut rest limit k more end) same cut
cuts_on (x ∷ items) after_all rest limit n end all cut =
    let later = cuts_on items after_all rest limit n end all.1 cut in
    let more = cut_more (concat_pieces frame_of items ++ rest) limit (length (concat_pieces frame_of items) + n) x (items ++ after_all) end all.0 later in
    let size : length (frame_of x) + (length (concat_pieces frame_of items) + n) ≡ length (frame_of x ++ concat_pieces frame_of items) + n = omega (arith, length-append (frame_of x) (concat_pieces frame_of items)) in
    subst (λ s. Cut s limit (length (frame_of x ++ concat_pieces frame_of items) + n) (x ∷ (items ++ after_all)) end) (sym (append_assoc (frame_of x) (concat_pieces frame_of items) rest))
    (subst (λ k. Cut (frame_of x ++ (concat_pieces frame_of items ++ rest)) limit k (x ∷ (items ++ after_all)) end) size more)

cut_items : (items : List Item) (rest : List ℕ) (limit n : ℕ) (end : CutEnd) → AllByRecursion (IsFrame limit) items → Cut rest limit n [] end →
    Cut (concat_pieces frame_of items ++ rest) limit (length (concat_pieces frame_of items) + n) items end
cut_items [] rest limit n end all cut = let same : n ≡ 0 + n = omega arith in subst (λ k. Cut rest limit k [] end) same cut
cut_items (x ∷ items) rest limit n end all cut =
    let later = cut_items items rest limit n end all.1 cut in
    let more = cut_more (concat_pieces frame_of items ++ rest) limit (length (concat_pieces frame_of items) + n) x items end all.0 later in
    let size : length (frame_of x) + (length (concat_pieces frame_of items) + n) ≡ length (frame_of x ++ concat_pieces frame_of items) + n = omega (arith, length-append (frame_of x) (concat_pieces frame_of items)) in
    subst (λ s. Cut s limit (length (frame_of x ++ concat_pieces frame_of items) + n) (x ∷ items) end) (sym (append_assoc (frame_of x) (concat_pieces frame_of items) rest))
    (subst (λ k. Cut (frame_of x ++ (concat_pieces frame_of items ++ rest)) limit k (x ∷ items) end) size more)

lines_items : (all more : List (List ℕ)) (rest : List ℕ) (n : ℕ) (end : LineEnd) → AllByRecursion IsLine all → lines.Lines rest n more end →
    lines.Lines (concat_pieces lines.ended all ++ rest) (length (concat_pieces lines.ended all) + n) (all ++ more) end
lines_items [] more rest n end good cut = let same : n ≡ 0 + n = omega arith in subst (λ k. lines.Lines rest k more end) same cut
lines_items (x ∷ all) after_all rest n end good cut =
    let later = lines_items all after_all rest n end good.1 cut in
    let more = lines_more (concat_pieces lines.ended all ++ rest) (length (concat_pieces lines.ended all) + n) x (all ++ after_all) end good.0 later in
    let size : length (lines.ended x) + (length (concat_pieces lines.ended all) + n) ≡ length (lines.ended x ++ concat_pieces lines.ended all) + n = omega (arith, length-append (lines.ended x) (concat_pieces lines.ended all)) in
    subst (λ s. lines.Lines s (length (lines.ended x ++ concat_pieces lines.ended all) + n) (x ∷ (all ++ after_all)) end) (sym (append_assoc (lines.ended x) (concat_pieces lines.ended all) rest))
    (subst (λ k. lines.Lines (lines.ended x ++ (concat_pieces lines.ended all ++ rest)) k (x ∷ (all ++ after_all)) end) size more)

-- what maps to nothing is nothing
none_mapped : {X : Type 0} (f : X → Piece) (xs : List X) → [] ≡ map f xs → xs ≡ []
none_mapped f [] e = refl
none_mapped f (x ∷ xs) e = absurd (no_more e)

-- no pieces are of no lines
no_lines : (count : ℕ) (all : List (List ℕ)) → [] ≡ line_pieces count all → all ≡ []
no_lines count [] e = refl
no_lines count (x ∷ all) e = absurd (no_more e)

-- the lines of the rest follow those at the front
lines_on : (input : ℕ) (kept : Kept) (stream rest : List ℕ) (xs : List Piece) (all more : List (List ℕ)) (end : LineEnd) → Counts kept xs →
    Leads IsLine lines.ended stream all rest × (length (concat_pieces lines.ended all) ≤ input) × (xs ≡ map ended_piece all) → lines.Lines rest (input - kept.bytes) more end → lines.Lines stream input (all ++ more) end
lines_on input kept stream rest xs all more end c h cut =
    let size : length (concat_pieces lines.ended all) + (input - kept.bytes) ≡ input = omega (arith, h.1, lines_counted kept xs all c h.2) in
    let found = lines_items all more rest (input - kept.bytes) end h.0.each cut in
    subst (λ s. lines.Lines s input (all ++ more) end) (sym h.0.whole) (subst (λ n. lines.Lines (concat_pieces lines.ended all ++ rest) n (all ++ more) end) size found)

pub splits_after : (reading : Reading) (kept : Kept) (ahead : Ahead) (stream rest : List ℕ) (xs : List Piece) (end : PieceEnd) → Counts kept xs → Begins reading ahead stream xs rest → Splits (reading_after reading kept) rest [] end → Splits reading stream xs end
splits_after (Frames limits) kept ahead stream rest xs end c h k =
    let size : length (concat_pieces frame_of h.0) + (limits.input - kept.bytes) ≡ limits.input = omega (arith, h.2, frames_counted kept xs h.0 c h.3) in
    let none : Cut rest limits.frame (limits.input - kept.bytes) [] k.1 = subst (λ (items : List Item). Cut rest limits.frame (limits.input - kept.bytes) items k.1) (none_mapped Frame k.0 k.3) k.2 in
    let all = cut_items h.0 rest limits.frame (limits.input - kept.bytes) k.1 h.1.each none in (
      h.0,
      k.1,
      subst (λ s. Cut s limits.frame limits.input h.0 k.1) (sym h.1.whole) (subst (λ n. Cut (concat_pieces frame_of h.0 ++ rest) limits.frame n h.0 k.1) size all),
      h.3,
      k.4,
    )
splits_after (Lines input) kept ahead stream rest xs end c h k =
    let all = lines_on input kept stream rest xs h.0 k.0 k.1 c (h.1, h.2, h.3) k.2 in
    let none : k.0 ≡ [] = no_lines (length rest) k.0 k.3 in
    (h.0, k.1, subst (λ (ls : List (List ℕ)). lines.Lines stream input ls k.1) (ap (λ (ls : List (List ℕ)). h.0 ++ ls) none ∙ append-nil h.0) all, h.3 ∙ sym (pieces_ended h.0 stream rest h.1.whole), k.4)
splits_after Once kept ahead stream rest xs end c h k = elim h.0 [
  | inl none ↦ let there : Splits Once rest [] end = subst (λ r. Splits r rest [] end) (once_left kept xs c none) k in absurd (no_more there.0)
  | inr one ↦ let there : Splits Nothing rest [] end = subst (λ r. Splits r rest [] end) (once_done kept xs c one) k in (one, there.1)
]
splits_after Nothing kept ahead stream rest xs end c h k = (h.0, k.1)
splits_after (Others reading laws input) kept ahead stream rest xs end c h k =
    subst (λ ps. reading.Splits input stream ps end) (append-nil xs) (laws.all input ahead stream rest xs [] end h (subst (λ n. reading.Splits (input - n) rest [] end) c.bytes k))

-- ---- what is whole in the bytes that were given

pub holds_after : (reading : Reading) (kept : Kept) (ahead : Ahead) (stream held left : List ℕ) (xs : List Piece) → Counts kept xs → Begins reading ahead stream xs (held ++ left) → Keeps reading ahead.held held → ahead.is_all ≡ false →
    Holds (reading_after reading kept) held [] →
    Holds reading (concat_pieces piece_bytes xs ++ held) xs × (stream ≡ (concat_pieces piece_bytes xs ++ held) ++ left)
holds_after (Frames limits) kept ahead stream held left xs c h keeps reads k =
    let bytes : concat_pieces piece_bytes xs ≡ concat_pieces frame_of h.0 = ap (concat_pieces piece_bytes) h.3 ∙ frames_bytes h.0 in
    let none : [] ≡ k.0 = sym (none_mapped Frame k.0 k.3) in
    let rest : held ≡ k.1 = k.2.whole ∙ ap (λ (items : List Item). concat_pieces frame_of items ++ k.1) (sym none) in (
      (h.0, held, record { whole = ap (λ b. b ++ held) bytes; each = h.1.each; longest = λ x more is e. k.2.longest x more is (sym rest ∙ e) }, h.3),
      h.1.whole ∙ ap (λ b. b ++ (held ++ left)) (sym bytes) ∙ sym (append_assoc (concat_pieces piece_bytes xs) held left),
    )
holds_after (Lines input) kept ahead stream held left xs c h keeps reads k =
    let bytes : concat_pieces piece_bytes xs ≡ concat_pieces lines.ended h.0 = ap (concat_pieces piece_bytes) h.3 ∙ lines_bytes h.0 in
    let none : [] ≡ k.0 = sym (none_mapped ended_piece k.0 k.3) in
    let rest : held ≡ k.1 = k.2.whole ∙ ap (λ (all : List (List ℕ)). concat_pieces lines.ended all ++ k.1) (sym none) in (
      (h.0, held, record { whole = ap (λ b. b ++ held) bytes; each = h.1.each; longest = λ x more is e. k.2.longest x more is (sym rest ∙ e) }, h.3),
      h.1.whole ∙ ap (λ b. b ++ (held ++ left)) (sym bytes) ∙ sym (append_assoc (concat_pieces piece_bytes xs) held left),
    )
holds_after Once kept ahead stream held left xs c h keeps reads k = by (kept.items == 0) k
  where
    by : {P : Type 0} (t : Bool) → Holds (once_if t) held [] → P
    by true f = absurd f
    by false f = absurd f
holds_after Nothing kept ahead stream held left xs c h keeps reads k = absurd k
holds_after (Others reading laws input) kept ahead stream held left xs c h keeps reads k = laws.held input ahead stream held left xs h keeps reads k

-- ---- an input whose end was met

-- all pieces of the rest follow those at the front
splits_more : (reading : Reading) (kept : Kept) (ahead : Ahead) (stream rest : List ℕ) (xs ys : List Piece) (end : PieceEnd) → Counts kept xs → Begins reading ahead stream xs rest → Splits (reading_after reading kept) rest ys end → Splits reading stream (xs ++ ys) end
splits_more (Frames limits) kept ahead stream rest xs ys end c h k =
    let size : length (concat_pieces frame_of h.0) + (limits.input - kept.bytes) ≡ limits.input = omega (arith, h.2, frames_counted kept xs h.0 c h.3) in
    let all = cuts_on h.0 k.0 rest limits.frame (limits.input - kept.bytes) k.1 h.1.each k.2 in (
      h.0 ++ k.0,
      k.1,
      subst (λ s. Cut s limits.frame limits.input (h.0 ++ k.0) k.1) (sym h.1.whole) (subst (λ n. Cut (concat_pieces frame_of h.0 ++ rest) limits.frame n (h.0 ++ k.0) k.1) size all),
      ap (λ z. z ++ ys) h.3 ∙ ap (λ z. map Frame h.0 ++ z) k.3 ∙ sym (map_more Frame h.0 k.0),
      k.4,
    )
splits_more (Lines input) kept ahead stream rest xs ys end c h k = (
  h.0 ++ k.0,
  k.1,
  lines_on input kept stream rest xs h.0 k.0 k.1 c (h.1, h.2, h.3) k.2,
  ap (λ z. z ++ ys) h.3 ∙ ap (λ z. map ended_piece h.0 ++ z) k.3 ∙ sym (pieces_on h.0 k.0 stream rest h.1.whole),
  k.4,
)
splits_more Once kept ahead stream rest xs ys end c h k = elim h.0 [
  | inl none ↦ let there : Splits Once rest ys end = subst (λ r. Splits r rest ys end) (once_left kept xs c none) k in (ap (λ z. z ++ ys) none ∙ there.0, there.1)
  | inr one ↦ let there : Splits Nothing rest ys end = subst (λ r. Splits r rest ys end) (once_done kept xs c one) k in (ap (λ z. z ++ ys) one ∙ ap (λ z. Whole ∷ z) there.0, there.1)
]
splits_more Nothing kept ahead stream rest xs ys end c h k = (ap (λ z. z ++ ys) h.0 ∙ k.0, k.1)
splits_more (Others reading laws input) kept ahead stream rest xs ys end c h k = laws.all input ahead stream rest xs ys end h (subst (λ n. reading.Splits (input - n) rest ys end) c.bytes k)

-- pieces follow those that an input begins with
pub reaches_more : (met : Bool) (reading : Reading) (kept : Kept) (ahead next : Ahead) (stream mid rest : List ℕ) (xs ys : List Piece) → Counts kept xs → Begins reading ahead stream xs mid →
    ReachesIf met next (reading_after reading kept) mid ys rest → Keeps reading ahead.held (concat_pieces piece_bytes ys ++ next.held) → (ahead.is_all ≡ true → next.is_all ≡ true) → ReachesIf met next reading stream (xs ++ ys) rest
reaches_more false reading kept ahead next stream mid rest xs ys c h k keeps stays = begins_more reading kept ahead next stream mid rest xs ys c h k keeps stays
reaches_more true reading kept ahead next stream mid rest xs ys c h k keeps stays = (splits_more reading kept ahead stream mid xs ys End c h k.0, k.1)

-- what is in a piece is in the bytes of that one piece
pub keeps_one : (reading : Reading) (seen : List ℕ) (piece : Piece) (held : List ℕ) → Keeps reading seen (piece_bytes piece ++ held) → Keeps reading seen (concat_pieces piece_bytes (piece ∷ []) ++ held)
keeps_one reading seen piece held h = subst (λ b. Keeps reading seen (b ++ held)) (sym (append-nil (piece_bytes piece))) h

-- what an input reaches is the first of its pieces
pub reaches_first : (met : Bool) (ahead : Ahead) (reading : Reading) (stream : List ℕ) (xs ys : List Piece) (rest : List ℕ) (end : PieceEnd) → ReachesIf met ahead reading stream xs rest → Splits reading stream ys end → (tail : List Piece) × (ys ≡ xs ++ tail)
reaches_first false ahead reading stream xs ys rest end h k = begins_first reading ahead stream xs ys rest end h k
reaches_first true ahead reading stream xs ys rest end h k = ([], (splits_once reading stream ys xs end End k h.0).0 ∙ sym (append-nil xs))

pub taken_none : (n : ℕ) → ◌≡◌ {A = List ℕ} (take n []) []
taken_none zero = refl
taken_none (suc n) = refl

pub rest_none : (xs ys : List ℕ) → [] ≡ xs ++ ys → ys ≡ []
rest_none [] ys e = sym e
rest_none (x ∷ xs) ys e = cc

pub none_below : (n : ℕ) → nat_lt n 0 ≡ false
none_below n = grind (arith, nat_tests)

-- nothing ends with nothing left
cut_of_none : (limit n : ℕ) (items : List Item) (end : CutEnd) → Cut [] limit n items end → end ≡ frames.End
cut_of_none limit n items end h =
    let rest : h.rest ≡ [] = rest_none (concat_pieces frame_of items) h.rest (sym (taken_none n) ∙ h.pieces.whole) in
    h.ends ∙ ap (λ r. frames.end_of limit (nat_lt n 0) r) rest ∙ ap (λ t. frames.end_of limit t []) (none_below n)

lines_of_none : (n : ℕ) (all : List (List ℕ)) (end : LineEnd) → lines.Lines [] n all end → end ≡ lines.End
lines_of_none n all end h =
    let rest : h.rest ≡ [] = rest_none (concat_pieces lines.ended h.before) h.rest (sym (taken_none n) ∙ h.pieces.whole) in
    h.ends ∙ ap (λ r. (lines.last_of (nat_lt n 0) r).1) rest ∙ ap (λ t. (lines.last_of t []).1) (none_below n)

-- where the end was met, nothing else can be
pub none_ended : (reading : Reading) (kept : Kept) (stream : List ℕ) (xs : List Piece) (end : PieceEnd) → Counts kept xs → Splits reading stream xs End → Splits (reading_after reading kept) [] [] end → end ≡ End
none_ended (Frames limits) kept stream xs end c h k = k.4 ∙ ap frames_end (cut_of_none limits.frame (limits.input - kept.bytes) k.0 k.1 k.2)
none_ended (Lines input) kept stream xs end c h k = k.4 ∙ ap lines_end (lines_of_none (input - kept.bytes) k.0 k.1 k.2)
none_ended Once kept stream xs end c h k = let there : Splits Nothing [] [] end = subst (λ r. Splits r [] [] end) (once_done kept xs c h.0) k in there.1
none_ended Nothing kept stream xs end c h k = k.1
none_ended (Others reading laws input) kept stream xs end c h k = laws.ended (input - kept.bytes) end k
