-- The items of a stream by bytes at its front.
use Rattle.std.proofs.Common.{◌≡◌, ℕ, Bool, true, false, List, [], ◌∷◌, ◌++◌, map, Option, Some, inl, inr, refl, sym, ap, ◌∙◌, subst, append_assoc}
use Rattle.std.proofs.lemmas.List.{append-nil, append_cancel_left}
use Rattle.std.proofs.lemmas.List.Concat.{flat_map-append}
use Rattle.open_framing.specs.Pieces.{concat_pieces}
use Rattle.command_steps.specs.Splits.{piece_bytes}
use Rattle.raw_fix.specs.Turns.{InTurn}
use Rattle.raw_fix.specs.Raw.{Texts, Kind, Message, Garbled, Item, IsItem, IsItemOf, IsRun, RunsOn, item_bytes}
use Rattle.raw_fix.proofs.TurnLemmas.{FindsItems, NoItem}
use Rattle.raw_fix.proofs.StepLemmas.{message_longer, garbled_longer, mark_longer}
use Rattle.raw_reading.specs.Reading.{piece_of, items_bytes, Shows}

-- ---- lists of items

-- the items of a front, and then those of the rest
pub turns_more : {X : Type 0} (At : List ℕ → X → Type 0) (bytes_of : X → List ℕ) (bytes mid rest : List ℕ) (xs ys : List X) → InTurn At bytes_of bytes xs mid → InTurn At bytes_of mid ys rest → InTurn At bytes_of bytes (xs ++ ys) rest
turns_more At bytes_of bytes mid rest [] ys h k = subst (λ b. InTurn At bytes_of b ys rest) (sym h) k
turns_more At bytes_of bytes mid rest (x ∷ xs) ys h k = (h.0, (h.1.0, h.1.1, turns_more At bytes_of h.1.0 mid rest xs ys h.1.2 k))

-- items at the front are the first of a list that is as long as can be
pub turns_first : {X : Type 0} {At : List ℕ → X → Type 0} {b : X → List ℕ} {first : List ℕ → Option X} → FindsItems At b first →
    (bytes mid rest : List ℕ) (xs ys : List X) → InTurn At b bytes xs mid → InTurn At b bytes ys rest → NoItem At rest → (tail : List X) × (ys ≡ xs ++ tail)
turns_first reads bytes mid rest [] ys h k none = (ys, refl)
turns_first {At = At} reads bytes mid rest (x ∷ xs) [] h k none = absurd (none x (subst (λ t. At t x) k h.0))
turns_first {X} {At} {b} {first} reads bytes mid rest (x ∷ xs) (y ∷ ys) h k none =
    let first_x : first bytes ≡ Some x = reads.complete bytes x h.0 in
    let first_y : first bytes ≡ Some y = reads.complete bytes y k.0 in
    let same : x ≡ y = cc in
    let later : h.1.0 ≡ k.1.0 = append_cancel_left (b x) h.1.0 k.1.0 (sym h.1.1 ∙ k.1.1 ∙ ap (λ z. b z ++ k.1.0) (sym same)) in
    let found = turns_first reads h.1.0 mid rest xs ys h.1.2 (subst (λ t. InTurn At b t ys rest) (sym later) k.1.2) none in
    (found.0, ap (λ z. z ∷ ys) (sym same) ∙ ap (λ z. x ∷ z) found.1)

-- ---- what stays whatever follows

run_longer : (goes_on : Bool) (bytes more run : List ℕ) → IsRun true bytes run → IsRun goes_on (bytes ++ more) run
run_longer goes_on bytes more run is = record {
  byte = is.byte;
  after = is.after ++ more;
  front = is.front;
  begins = ap (λ b. b ++ more) is.begins;
  runs = is.runs;
  ends = on_longer is.ends;
} where
  on_longer : RunsOn true is.after is.front → RunsOn goes_on (is.after ++ more) is.front
  on_longer (inl there) = inl (mark_longer is.after more is.front there)
  on_longer (inr last) = let no : true ≡ false = last.0 in cc

of_longer : (texts : Texts) (goes_on : Bool) (bytes more item : List ℕ) (kind : Kind) → IsItemOf texts true bytes item kind → IsItemOf texts goes_on (bytes ++ more) item kind
of_longer texts goes_on bytes more item Message is = message_longer texts bytes more item is
of_longer texts goes_on bytes more item (Garbled code) is = (garbled_longer texts goes_on bytes more code is.0, run_longer goes_on bytes more item is.1)

pub item_longer : (texts : Texts) (goes_on : Bool) (bytes more : List ℕ) (item : Item) → IsItem texts true bytes item → IsItem texts goes_on (bytes ++ more) item
item_longer texts goes_on bytes more item is = of_longer texts goes_on bytes more item.bytes item.kind is

turns_longer : (texts : Texts) (goes_on : Bool) (bytes held more : List ℕ) (items : List Item) → InTurn (IsItem texts true) item_bytes bytes items held → InTurn (IsItem texts goes_on) item_bytes (bytes ++ more) items (held ++ more)
turns_longer texts goes_on bytes held more [] h = ap (λ b. b ++ more) h
turns_longer texts goes_on bytes held more (item ∷ items) h =
    (item_longer texts goes_on bytes more item h.0, (h.1.0 ++ more, ap (λ b. b ++ more) h.1.1 ∙ append_assoc (item_bytes item) h.1.0 more, turns_longer texts goes_on h.1.0 held more items h.1.2))

-- what bytes show they show with more after them; where they are all, none are
pub shows_longer : (texts : Texts) (is_all goes_on : Bool) (held more : List ℕ) (items : List Item) → (is_all ≡ true → (more ≡ []) × (goes_on ≡ false)) → Shows texts is_all items held →
    InTurn (IsItem texts goes_on) item_bytes (items_bytes items ++ (held ++ more)) items (held ++ more)
shows_longer texts false goes_on held more items last h =
    subst (λ b. InTurn (IsItem texts goes_on) item_bytes b items (held ++ more)) (append_assoc (items_bytes items) held more) (turns_longer texts goes_on (items_bytes items ++ held) held more items h)
shows_longer texts true goes_on held more items last h =
    let at = last refl in
    let same : held ≡ held ++ more = sym (append-nil held) ∙ ap (λ m. held ++ m) (sym at.0) in
    subst (λ b. InTurn (IsItem texts goes_on) item_bytes (items_bytes items ++ b) items b) same (subst (λ t. InTurn (IsItem texts t) item_bytes (items_bytes items ++ held) items held) (sym at.1) h)

-- ---- items as pieces

pub pieces_bytes : (items : List Item) → concat_pieces piece_bytes (map piece_of items) ≡ items_bytes items
pieces_bytes [] = refl
pieces_bytes (item ∷ items) = ap (λ r. item_bytes item ++ r) (pieces_bytes items)

pub map_more : (xs ys : List Item) → map piece_of (xs ++ ys) ≡ map piece_of xs ++ map piece_of ys
map_more [] ys = refl
map_more (x ∷ xs) ys = ap (λ r. piece_of x ∷ r) (map_more xs ys)

pub bytes_more : (xs ys : List Item) → items_bytes (xs ++ ys) ≡ items_bytes xs ++ items_bytes ys
bytes_more xs ys = flat_map-append item_bytes xs ys

pub none_mapped : (items : List Item) → [] ≡ map piece_of items → items ≡ []
none_mapped [] e = refl
none_mapped (x ∷ items) e = cc
