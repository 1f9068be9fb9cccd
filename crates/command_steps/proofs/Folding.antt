-- The answers to pieces one after another: there is one fold, and it goes on piece by piece. It rests on one fact about a command: each piece has exactly one reply.
use Rattle.std.proofs.Common.{◌≡◌, ℕ, Bool, ◌+◌, ◌-◌, List, [], ◌∷◌, ◌++◌, length, map, refl, sym, ap, ◌∙◌, subst, arith, append_assoc, length-append}
use Rattle.std.proofs.lemmas.List.{append-nil}
use Rattle.std.specs.List.{AllByRecursion}
use Rattle.open_framing.specs.Pieces.{concat_pieces}
use Rattle.open_framing.specs.Frames.{Item}
use Rattle.sbe_base.specs.declared.status.Limits.{Limits}
use Rattle.command_steps.specs.Splits.{OtherReading, IsReading, Reading, Frames, Lines, Once, Nothing, Others, Piece, Frame, Line, Whole, Other, piece_bytes, line_pieces, PieceEnd, Splits}
use Rattle.replies.specs.Reply.{Written, Reply, none_written, written_of, then_written}
use Rattle.command_steps.specs.Replies.{Answering, by_frames, by_lines, by_whole, counted, Replies}
use Rattle.command_steps.specs.declared.kept.Kept.{Kept}

-- ---- each piece has exactly one reply

abbrev pub Suits : Reading → Piece → Type 0
Suits (Frames limits) (Frame item) = Unit {0}
Suits (Frames limits) (Line line has_end) = ⊥
Suits (Frames limits) Whole = ⊥
Suits (Frames limits) (Other bytes kind) = ⊥
Suits (Lines input) (Frame item) = ⊥
Suits (Lines input) (Line line has_end) = Unit {0}
Suits (Lines input) Whole = ⊥
Suits (Lines input) (Other bytes kind) = ⊥
Suits Once (Frame item) = ⊥
Suits Once (Line line has_end) = ⊥
Suits Once Whole = Unit {0}
Suits Once (Other bytes kind) = ⊥
Suits Nothing piece = ⊥
Suits (Others reading laws input) piece = reading.Suits piece

-- Each piece of its input has exactly one reply.
pub record AnswersOnce (on : Answering) : Type 0 where
  pub some : (kept : Kept) (piece : Piece) → Suits on.reading piece → (reply : Reply) × on.IsReply kept piece reply
  pub only : (kept : Kept) (piece : Piece) (a b : Reply) → on.IsReply kept piece a → on.IsReply kept piece b → a ≡ b

-- It is enough to know this of frames,
pub frames_once : (limits : Limits) (spares : Bool) (last : Kept → List ℕ) (IsAnswer : Kept → Item → Reply → Type 0) → ((kept : Kept) (item : Item) → (reply : Reply) × IsAnswer kept item reply)
    → ((kept : Kept) (item : Item) (a b : Reply) → IsAnswer kept item a → IsAnswer kept item b → a ≡ b) → AnswersOnce (by_frames limits spares last IsAnswer)
frames_once limits spares last IsAnswer some only = record { some = some_so; only = only_so }
  where
    some_so : (kept : Kept) (piece : Piece) → Suits (Frames limits) piece → (reply : Reply) × (by_frames limits spares last IsAnswer).IsReply kept piece reply
    some_so kept (Frame item) suits = some kept item
    some_so kept (Line line has_end) suits = absurd suits
    some_so kept Whole suits = absurd suits
    some_so kept (Other bytes kind) suits = absurd suits

    only_so : (kept : Kept) (piece : Piece) (a b : Reply) → (by_frames limits spares last IsAnswer).IsReply kept piece a → (by_frames limits spares last IsAnswer).IsReply kept piece b → a ≡ b
    only_so kept (Frame item) a b h k = only kept item a b h k
    only_so kept (Line line has_end) a b h k = absurd h
    only_so kept Whole a b h k = absurd h
    only_so kept (Other bytes kind) a b h k = absurd h

-- of lines,
pub lines_once : (input : ℕ) (last : Kept → List ℕ) (IsAnswer : Kept → List ℕ → Reply → Type 0) → ((kept : Kept) (line : List ℕ) → (reply : Reply) × IsAnswer kept line reply)
    → ((kept : Kept) (line : List ℕ) (a b : Reply) → IsAnswer kept line a → IsAnswer kept line b → a ≡ b) → AnswersOnce (by_lines input last IsAnswer)
lines_once input last IsAnswer some only = record { some = some_so; only = only_so }
  where
    some_so : (kept : Kept) (piece : Piece) → Suits (Lines input) piece → (reply : Reply) × (by_lines input last IsAnswer).IsReply kept piece reply
    some_so kept (Frame item) suits = absurd suits
    some_so kept (Line line has_end) suits = some kept line
    some_so kept Whole suits = absurd suits
    some_so kept (Other bytes kind) suits = absurd suits

    only_so : (kept : Kept) (piece : Piece) (a b : Reply) → (by_lines input last IsAnswer).IsReply kept piece a → (by_lines input last IsAnswer).IsReply kept piece b → a ≡ b
    only_so kept (Frame item) a b h k = absurd h
    only_so kept (Line line has_end) a b h k = only kept line a b h k
    only_so kept Whole a b h k = absurd h
    only_so kept (Other bytes kind) a b h k = absurd h

-- or of the whole job.
pub whole_once : (IsAnswer : Reply → Type 0) → ((reply : Reply) × IsAnswer reply) → ((a b : Reply) → IsAnswer a → IsAnswer b → a ≡ b) → AnswersOnce (by_whole IsAnswer)
whole_once IsAnswer some only = record { some = some_so; only = only_so }
  where
    some_so : (kept : Kept) (piece : Piece) → Suits Once piece → (reply : Reply) × (by_whole IsAnswer).IsReply kept piece reply
    some_so kept (Frame item) suits = absurd suits
    some_so kept (Line line has_end) suits = absurd suits
    some_so kept Whole suits = some
    some_so kept (Other bytes kind) suits = absurd suits

    only_so : (kept : Kept) (piece : Piece) (a b : Reply) → (by_whole IsAnswer).IsReply kept piece a → (by_whole IsAnswer).IsReply kept piece b → a ≡ b
    only_so kept (Frame item) a b h k = absurd h
    only_so kept (Line line has_end) a b h k = absurd h
    only_so kept Whole a b h k = only a b h k
    only_so kept (Other bytes kind) a b h k = absurd h

-- ---- there is one fold

pub replies_once : (on : Answering) (kept : Kept) (pieces : List Piece) (a b : Written) (x y : Kept) → AnswersOnce on → Replies on kept pieces a x → Replies on kept pieces b y → (a ≡ b) × (x ≡ y)
replies_once on kept [] a b x y placed h k = (h.0 ∙ sym k.0, h.1 ∙ sym k.1)
replies_once on kept (piece ∷ pieces) a b x y placed h k =
    let same : h.0 ≡ k.0 = placed.only kept piece h.0 k.0 h.2 k.2 in
    let there : Replies on (counted kept piece k.0.verdict) pieces h.1 x = subst (λ (r : Reply). Replies on (counted kept piece r.verdict) pieces h.1 x) same h.3 in
    let later = replies_once on (counted kept piece k.0.verdict) pieces h.1 k.1 x y placed there k.3 in
    (h.4 ∙ ap (λ (r : Reply). then_written (written_of r) h.1) same ∙ ap (λ (w : Written). then_written (written_of k.0) w) later.0 ∙ sym k.4, later.1)

abbrev pub AllSuit : Reading → List Piece → Type 0
AllSuit reading [] = Unit {0}
AllSuit reading (piece ∷ pieces) = Suits reading piece × AllSuit reading pieces

pub replies_some : (on : Answering) (kept : Kept) (pieces : List Piece) → AnswersOnce on → AllSuit on.reading pieces → (written : Written) × (after : Kept) × Replies on kept pieces written after
replies_some on kept [] placed suit = (none_written, kept, (refl, refl))
replies_some on kept (piece ∷ pieces) placed suit =
    let here = placed.some kept piece suit.0 in
    let there = replies_some on (counted kept piece here.0.verdict) pieces placed suit.1 in
    (then_written (written_of here.0) there.0, there.1, (here.0, there.0, here.1, there.2, refl))

frames_suit : (reading : Reading) (items : List Item) → ((item : Item) → Suits reading (Frame item)) → AllSuit reading (map Frame items)
frames_suit reading [] all = tt
frames_suit reading (item ∷ items) all = (all item, frames_suit reading items all)

lines_suit : (input count : ℕ) (all : List (List ℕ)) → AllSuit (Lines input) (line_pieces count all)
lines_suit input count [] = tt
lines_suit input count (line ∷ all) = (tt, lines_suit input (count - (length line + 1)) all)

all_suit : (reading : OtherReading) (laws : IsReading reading) (input : ℕ) (pieces : List Piece) → AllByRecursion reading.Suits pieces → AllSuit (Others reading laws input) pieces
all_suit reading laws input [] h = tt
all_suit reading laws input (piece ∷ pieces) h = (h.0, all_suit reading laws input pieces h.1)

pub splits_suit : (reading : Reading) (stream : List ℕ) (pieces : List Piece) (end : PieceEnd) → Splits reading stream pieces end → AllSuit reading pieces
splits_suit (Frames limits) stream pieces end h = subst (AllSuit (Frames limits)) (sym h.3) (frames_suit (Frames limits) h.0 (λ item. tt))
splits_suit (Lines input) stream pieces end h = subst (AllSuit (Lines input)) (sym h.3) (lines_suit input (length stream) h.0)
splits_suit Once stream pieces end h = subst (AllSuit Once) (sym h.0) (tt, tt)
splits_suit Nothing stream pieces end h = subst (AllSuit Nothing) (sym h.0) tt
splits_suit (Others reading laws input) stream pieces end h = all_suit reading laws input pieces (laws.suits input stream pieces end h)

-- ---- the fold goes on

abbrev as_written : List ℕ → List ℕ → Written
as_written output notes = record { output = output; notes = notes }

same_written : {a b c d : List ℕ} → a ≡ b → c ≡ d → as_written a c ≡ as_written b d
same_written {b = b} {c = c} h k = ap (λ o. as_written o c) h ∙ ap (λ n. as_written b n) k

written_nil : (a : Written) → then_written a none_written ≡ a
written_nil a = same_written (append-nil a.output) (append-nil a.notes)

pub written_assoc : (a b c : Written) → then_written (then_written a b) c ≡ then_written a (then_written b c)
written_assoc a b c = same_written (append_assoc a.output b.output c.output) (append_assoc a.notes b.notes c.notes)

-- one more piece
pub replies_more : (on : Answering) (kept mid : Kept) (pieces : List Piece) (piece : Piece) (written : Written) (reply : Reply) → Replies on kept pieces written mid → on.IsReply mid piece reply →
    Replies on kept (pieces ++ piece ∷ []) (then_written written (written_of reply)) (counted mid piece reply.verdict)
replies_more on kept mid [] piece written reply h here =
    (reply, none_written, subst (λ (k : Kept). on.IsReply k piece reply) h.1 here, (refl, ap (λ (k : Kept). counted k piece reply.verdict) h.1), ap (λ (w : Written). then_written w (written_of reply)) h.0 ∙ sym (written_nil (written_of reply)))
replies_more on kept mid (x ∷ pieces) piece written reply h here = (
  h.0,
  then_written h.1 (written_of reply),
  h.2,
  replies_more on (counted kept x h.0.verdict) mid pieces piece h.1 reply h.3 here,
  ap (λ (w : Written). then_written w (written_of reply)) h.4 ∙ written_assoc (written_of h.0) h.1 (written_of reply),
)

-- the answers to the first pieces are a front of those to all
pub replies_front : (on : Answering) (kept after mid : Kept) (xs ys : List Piece) (all some : Written) → AnswersOnce on → Replies on kept (xs ++ ys) all after → Replies on kept xs some mid → (more : Written) × (all ≡ then_written some more)
replies_front on kept after mid [] ys all some placed h k = (all, ap (λ (w : Written). then_written w all) (sym k.0))
replies_front on kept after mid (x ∷ xs) ys all some placed h k =
    let same : h.0 ≡ k.0 = placed.only kept x h.0 k.0 h.2 k.2 in
    let there : Replies on (counted kept x k.0.verdict) (xs ++ ys) h.1 after = subst (λ (r : Reply). Replies on (counted kept x r.verdict) (xs ++ ys) h.1 after) same h.3 in
    let later = replies_front on (counted kept x k.0.verdict) after mid xs ys h.1 k.1 placed there k.3 in (
      later.0,
      h.4 ∙ ap (λ (r : Reply). then_written (written_of r) h.1) same ∙ ap (λ (w : Written). then_written (written_of k.0) w) later.1 ∙ sym (written_assoc (written_of k.0) k.1 later.0) ∙ ap (λ (w : Written). then_written w later.0) (sym k.4),
    )

-- ---- what is counted

abbrev pub pieces_bytes : List Piece → List ℕ
pieces_bytes pieces = concat_pieces piece_bytes pieces

pub bytes_counted : (on : Answering) (kept after : Kept) (pieces : List Piece) (written : Written) → Replies on kept pieces written after → after.bytes ≡ kept.bytes + length (pieces_bytes pieces)
bytes_counted on kept after [] written h = ap (λ (k : Kept). k.bytes) h.1 ∙ omega arith
bytes_counted on kept after (piece ∷ pieces) written h =
    let later = bytes_counted on (counted kept piece h.0.verdict) after pieces h.1 h.3 in
    omega (arith, later, length-append (piece_bytes piece) (pieces_bytes pieces))

pub items_counted : (on : Answering) (kept after : Kept) (pieces : List Piece) (written : Written) → Replies on kept pieces written after → after.items ≡ kept.items + length pieces
items_counted on kept after [] written h = ap (λ (k : Kept). k.items) h.1 ∙ omega arith
items_counted on kept after (piece ∷ pieces) written h =
    let later = items_counted on (counted kept piece h.0.verdict) after pieces h.1 h.3 in
    omega (arith, later)
