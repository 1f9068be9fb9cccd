-- A frame is read back from its bytes, and a stream is cut into frames in one way.
use Rattle.std.proofs.Common.{◌≡◌, ◌+◌, ◌<◌, ◌∷◌, append_assoc, ℕ, ◌-◌, ◌^◌, ◌≤◌, Bool, true, false, List, ◌++◌, length, take, drop, Result, Ok, Err, Some, None, refl, sym, ap, ◌∙◌, subst, arith, length-append, length-take-le, length-drop, take-append-drop}
use Rattle.std.proofs.Math.Seq.{take-append-add, take-append_seam}
use Rattle.std.specs.Prelude.{nat_lt, nat_le, if◌then◌else◌}
use Rattle.std.proofs.lemmas.Bool.{leb-true, le-leb}
use Rattle.std.proofs.lemmas.Bool.Decides.{nat_tests}
use Rattle.std.proofs.lemmas.List.{drop-take, drop-drop}
use Rattle.byte_digits.specs.Digits.{IsBytes, digits_high_first}
use Rattle.byte_digits.proofs.Bytes.{IsBytes-take, IsBytes-drop, IsBytes-back}
use Rattle.byte_digits.proofs.HighFirst.{number-digits-fit, digits-number, number-lt}
use Rattle.open_framing.specs.Pieces.{concat_pieces}
use Rattle.open_framing.specs.declared.head.TheConstants.{HEAD_BYTES}
use Rattle.open_framing.specs.declared.head.Head.{Head}
use Rattle.open_framing.specs.declared.head.HeadErr.{HeadErr}
use Rattle.open_framing.specs.declared.head.HeadErr.TheVariants.{HeadShort, LengthShort, LengthOver, Encoding}
use Rattle.open_framing.specs.Heads.{length_in, encoding_in, is_encoding, head_by, head_of}
use Rattle.open_framing.specs.Frames.{Item, frame_of, IsFrame, item_by, first_item, items_of, Cut, CutEnd, cut_of, end_of}
use Rattle.open_framing.proofs.PieceLemmas.{more_behind, FindsPieces, pieces_found, rest_found, pieces_once}

-- two numbers that make a head
pub record AreHead (size encoding limit : ℕ) : Type 0 where
  pub counts : HEAD_BYTES ≤ size
  pub within : size ≤ limit
  pub known : is_encoding encoding ≡ true

pub judged_ok : (size encoding limit : ℕ) → AreHead size encoding limit → head_by size encoding limit ≡ Ok (record { length = size; encoding = encoding })
judged_ok size encoding limit are = grind (arith, nat_tests, are.known, are.counts, are.within)

pub head_whole : (bytes : List ℕ) (limit : ℕ) → HEAD_BYTES ≤ length bytes → AreHead (length_in bytes) (encoding_in bytes) limit →
    head_of bytes limit ≡ Ok (record { length = length_in bytes; encoding = encoding_in bytes })
head_whole bytes limit long are = let is = judged_ok (length_in bytes) (encoding_in bytes) limit are in grind (arith, nat_tests, is)

-- the head of bytes that show these numbers
head_is : (bytes : List ℕ) (limit size encoding : ℕ) → HEAD_BYTES ≤ length bytes → length_in bytes ≡ size → encoding_in bytes ≡ encoding → AreHead size encoding limit →
    head_of bytes limit ≡ Ok (record { length = size; encoding = encoding })
head_is bytes limit size encoding long e f are =
    head_whole bytes limit long (subst (λ k. AreHead k (encoding_in bytes) limit) (sym e) (subst (λ k. AreHead size k limit) (sym f) are)) ∙ ap (λ k. Ok (record { length = k; encoding = encoding_in bytes })) e ∙ ap (λ k. Ok (record { length = size; encoding = k })) f

-- what the tests of a head say where they end in one
by_tests : (short less over known : Bool) (size encoding : ℕ) (head : Head) →
    (if short then Err HeadShort else (if less then Err (LengthShort size) else if over then Err (LengthOver size) else if known then Ok (record { length = size; encoding = encoding }) else Err (Encoding encoding))) ≡ Ok head →
    (short ≡ false) × (less ≡ false) × (over ≡ false) × (known ≡ true) × (head ≡ record { length = size; encoding = encoding })
by_tests true less over known size encoding head h = cc
by_tests false true over known size encoding head h = cc
by_tests false false true known size encoding head h = cc
by_tests false false false false size encoding head h = cc
by_tests false false false true size encoding head h = (refl, refl, refl, refl, cc)

pub record IsHeadOf (bytes : List ℕ) (limit : ℕ) (head : Head) : Type 0 where
  pub long : HEAD_BYTES ≤ length bytes
  pub are : AreHead (length_in bytes) (encoding_in bytes) limit
  pub same : head ≡ record { length = length_in bytes; encoding = encoding_in bytes }

pub head_told : (bytes : List ℕ) (limit : ℕ) (head : Head) → head_of bytes limit ≡ Ok head → IsHeadOf bytes limit head
head_told bytes limit head h =
    let tests = by_tests (nat_lt (length bytes) HEAD_BYTES) (nat_lt (length_in bytes) HEAD_BYTES) (nat_lt limit (length_in bytes)) (is_encoding (encoding_in bytes)) (length_in bytes) (encoding_in bytes) head h in
    let long : HEAD_BYTES ≤ length bytes = grind (arith, nat_tests, tests.0) in
    let counts : HEAD_BYTES ≤ length_in bytes = grind (arith, nat_tests, tests.1) in
    let within : length_in bytes ≤ limit = grind (arith, nat_tests, tests.2) in
    record { long = long; are = record { counts = counts; within = within; known = tests.3 }; same = tests.4 }

-- the parts of a frame of n bytes make up the bytes
parts : (n : ℕ) (bytes : List ℕ) → ((take 4 bytes ++ take 2 (drop 4 bytes)) ++ drop HEAD_BYTES (take (HEAD_BYTES + n) bytes)) ++ drop n (drop HEAD_BYTES bytes) ≡ bytes
parts n bytes =
    let body : drop HEAD_BYTES (take (HEAD_BYTES + n) bytes) ++ drop n (drop HEAD_BYTES bytes) ≡ drop HEAD_BYTES bytes = rw (drop-take HEAD_BYTES n bytes) (take-append-drop n (drop HEAD_BYTES bytes)) in
    let after : take 2 (drop 4 bytes) ++ drop HEAD_BYTES bytes ≡ drop 4 bytes = rw (← drop-drop 2 4 bytes) (take-append-drop 2 (drop 4 bytes)) in
    append_assoc (take 4 bytes ++ take 2 (drop 4 bytes)) (drop HEAD_BYTES (take (HEAD_BYTES + n) bytes)) (drop n (drop HEAD_BYTES bytes))
    ∙ ap (λ back. (take 4 bytes ++ take 2 (drop 4 bytes)) ++ back) body
    ∙ append_assoc (take 4 bytes) (take 2 (drop 4 bytes)) (drop HEAD_BYTES bytes)
    ∙ ap (λ back. take 4 bytes ++ back) after
    ∙ take-append-drop 4 bytes

-- the item of a head is there where all its bytes are
by_whole : (bytes : List ℕ) (head : Head) (item : Item) (whole : Bool) → nat_le head.length (length bytes) ≡ whole →
    (if whole then Some (record { encoding = head.encoding; body = drop HEAD_BYTES (take head.length bytes) }) else None) ≡ Some item →
    (head.length ≤ length bytes) × (item ≡ record { encoding = head.encoding; body = drop HEAD_BYTES (take head.length bytes) })
by_whole bytes head item false is h = cc
by_whole bytes head item true is h = (leb-true head.length (length bytes) is, cc)

-- what an item that is found says of the head
pub record IsItemOf (bytes : List ℕ) (r : Result Head HeadErr) (item : Item) : Type 0 where
  pub head : Head
  pub read : r ≡ Ok head
  pub whole : head.length ≤ length bytes
  pub same : item ≡ record { encoding = head.encoding; body = drop HEAD_BYTES (take head.length bytes) }

item_told : (bytes : List ℕ) (r : Result Head HeadErr) (item : Item) → item_by bytes r ≡ Some item → IsItemOf bytes r item
item_told bytes (Err fault) item h = cc
item_told bytes (Ok head) item h =
    let told = by_whole bytes head item (nat_le head.length (length bytes)) refl h in
    record { head = head; read = refl; whole = told.0; same = told.1 }

item_there : (bytes : List ℕ) (head : Head) (body : List ℕ) → head.length ≤ length bytes → drop HEAD_BYTES (take head.length bytes) ≡ body →
    item_by bytes (Ok head) ≡ Some (record { encoding = head.encoding; body = body })
item_there bytes head body whole e = rw (le-leb head.length (length bytes) whole, e) refl

join : (a a' b b' c c' d : List ℕ) → a ≡ a' → b ≡ b' → c ≡ c' → ((a ++ b) ++ c) ++ d ≡ ((a' ++ b') ++ c') ++ d
join a a' b b' c c' d e f g = cc

-- the bytes of a whole frame are those of its item
frame_there : (limit : ℕ) (bytes : List ℕ) → IsBytes bytes → HEAD_BYTES ≤ length bytes → AreHead (length_in bytes) (encoding_in bytes) limit → length_in bytes ≤ length bytes →
    (item : Item) → item ≡ record { encoding = encoding_in bytes; body = drop HEAD_BYTES (take (length_in bytes) bytes) } → IsFrame limit item × ((more : List ℕ) × (bytes ≡ frame_of item ++ more))
frame_there limit bytes good long are whole item same =
    let n : ℕ = length_in bytes - HEAD_BYTES in
    let counts : HEAD_BYTES ≤ length_in bytes = are.counts in
    let taken : length (take (length_in bytes) bytes) ≡ length_in bytes = length-take-le (length_in bytes) bytes whole in
    let body : item.body ≡ drop HEAD_BYTES (take (length_in bytes) bytes) = ap (λ (i : Item). i.body) same in
    let encoding : item.encoding ≡ encoding_in bytes = ap (λ (i : Item). i.encoding) same in
    let size : length item.body + HEAD_BYTES ≡ length_in bytes = omega (arith, ap length body, length-drop HEAD_BYTES (take (length_in bytes) bytes)) in
    let four : length (take 4 bytes) ≡ 4 = length-take-le 4 bytes (omega arith) in
    let after : 2 ≤ length (drop 4 bytes) = omega (arith, length-drop 4 bytes) in
    let two : length (take 2 (drop 4 bytes)) ≡ 2 = length-take-le 2 (drop 4 bytes) after in
    let below : length_in bytes < 256 ^ 4 = subst (λ k. length_in bytes < 256 ^ k) four (number-lt (take 4 bytes) (IsBytes-take 4 bytes good)) in
    let fits : length item.body + HEAD_BYTES < 256 ^ 4 = rw size below in
    let first : digits_high_first 4 (length item.body + HEAD_BYTES) ≡ take 4 bytes = ap (digits_high_first 4) size ∙ digits-number 4 (take 4 bytes) four (IsBytes-take 4 bytes good) in
    let second : digits_high_first 2 item.encoding ≡ take 2 (drop 4 bytes) = ap (digits_high_first 2) encoding ∙ digits-number 2 (take 2 (drop 4 bytes)) two (IsBytes-take 2 (drop 4 bytes) (IsBytes-drop 4 bytes good)) in
    let split : length_in bytes ≡ HEAD_BYTES + n = omega arith in
    let third : item.body ≡ drop HEAD_BYTES (take (HEAD_BYTES + n) bytes) = body ∙ ap (λ k. drop HEAD_BYTES (take k bytes)) split in
    let more = drop n (drop HEAD_BYTES bytes) in
    let known : is_encoding item.encoding ≡ true = ap is_encoding encoding ∙ are.known in (
      record { fits = fits; within = omega (arith, are.within); known = known },
      (more, sym (join (digits_high_first 4 (length item.body + HEAD_BYTES)) (take 4 bytes) (digits_high_first 2 item.encoding) (take 2 (drop 4 bytes)) item.body (drop HEAD_BYTES (take (HEAD_BYTES + n) bytes)) more first second third ∙ parts n bytes)),
    )

pub frame_sound : (limit : ℕ) (bytes : List ℕ) (item : Item) → IsBytes bytes → first_item limit bytes ≡ Some item → IsFrame limit item × ((more : List ℕ) × (bytes ≡ frame_of item ++ more))
frame_sound limit bytes item good h =
    let told = item_told bytes (head_of bytes limit) item h in
    let head = head_told bytes limit told.head told.read in
    let size : told.head.length ≡ length_in bytes = ap (λ (k : Head). k.length) head.same in
    let encoding : told.head.encoding ≡ encoding_in bytes = ap (λ (k : Head). k.encoding) head.same in
    let same : item ≡ record { encoding = encoding_in bytes; body = drop HEAD_BYTES (take (length_in bytes) bytes) } = told.same ∙ ap (λ (k : Head). record { encoding = k.encoding; body = drop HEAD_BYTES (take k.length bytes) }) head.same in
    frame_there limit bytes good head.long head.are (rw (← size) told.whole) item same

-- an encoding type has two bytes
known_fits : (n : ℕ) → is_encoding n ≡ true → n < 256 ^ 2
known_fits n h = grind (arith, nat_tests, h)

pub frame_complete : (limit : ℕ) (item : Item) (more : List ℕ) → IsFrame limit item → first_item limit (frame_of item ++ more) ≡ Some item
frame_complete limit item more is =
    let bytes = frame_of item ++ more in
    let size : ℕ = length item.body + HEAD_BYTES in
    let at_length : length_in bytes ≡ size = number-digits-fit 4 size is.fits in
    let at_encoding : encoding_in bytes ≡ item.encoding = number-digits-fit 2 item.encoding (known_fits item.encoding is.known) in
    let all : length bytes ≡ size + length more = omega (arith, length-append item.body more) in
    let are : AreHead size item.encoding limit = record { counts = omega arith; within = is.within; known = is.known } in
    let whole : head_of bytes limit ≡ Ok (record { length = size; encoding = item.encoding }) =
    head_is bytes limit size item.encoding (omega arith) at_length at_encoding are in
    let own : length (frame_of item) ≡ size = omega arith in
    let front : take size bytes ≡ frame_of item = ap (λ k. take k bytes) (sym own) ∙ take-append_seam (frame_of item) more in
    let body : drop HEAD_BYTES (take size bytes) ≡ item.body = ap (drop HEAD_BYTES) front in
    ap (item_by bytes) whole ∙ item_there bytes (record { length = size; encoding = item.encoding }) item.body (omega arith) body

pub frame_reads : (limit : ℕ) → FindsPieces IsBytes (IsFrame limit) frame_of (first_item limit)
frame_reads limit = record { sound = frame_sound limit; complete = frame_complete limit; filled = λ item is. omega arith; after = IsBytes-back }

-- the reader gives a cut
pub cut_found : (stream : List ℕ) (limit input : ℕ) → IsBytes stream → Cut stream limit input (cut_of stream limit input).0 (cut_of stream limit input).1
unfolding cut_of items_of
cut_found stream limit input good =
    let bytes = take input stream in
    let found = pieces_found (frame_reads limit) (length bytes) bytes (IsBytes-take input stream good) (omega arith) in
    record { rest = found.0; pieces = found.1; ends = ap (end_of limit (nat_lt input (length stream))) (rest_found found.1) }

-- a stream is cut in one way
pub cut_once : (stream : List ℕ) (limit input : ℕ) (xs ys : List Item) (a b : CutEnd) → Cut stream limit input xs a → Cut stream limit input ys b → (xs ≡ ys) × (a ≡ b)
cut_once stream limit input xs ys a b c d =
    let same = pieces_once (frame_reads limit) (take input stream) xs ys c.rest d.rest c.pieces d.pieces in
    (same.0, c.ends ∙ ap (end_of limit (nat_lt input (length stream))) same.1 ∙ sym d.ends)

-- a head's six bytes show its two numbers
pub head_back : (size encoding limit : ℕ) → size < 256 ^ 4 → encoding < 256 ^ 2 → head_of (digits_high_first 4 size ++ digits_high_first 2 encoding) limit ≡ head_by size encoding limit
head_back size encoding limit fits fits' =
    ap (λ k. head_by k (encoding_in (digits_high_first 4 size ++ digits_high_first 2 encoding)) limit) (number-digits-fit 4 size fits)
    ∙ ap (λ k. head_by size k limit) (number-digits-fit 2 encoding fits')

-- one more frame at the front of a stream
pub cut_more : (stream : List ℕ) (limit input : ℕ) (item : Item) (items : List Item) (end : CutEnd) → IsFrame limit item → Cut stream limit input items end →
    Cut (frame_of item ++ stream) limit (length (frame_of item) + input) (item ∷ items) end
cut_more stream limit input item items end is cut =
    let goes_on : nat_lt (length (frame_of item) + input) (length (frame_of item ++ stream)) ≡ nat_lt input (length stream) = more_behind (frame_of item) stream input in
    let all = cut.pieces in
    record {
      rest = cut.rest;
      pieces = record {
        whole = take-append-add (frame_of item) stream input ∙ ap (λ back. frame_of item ++ back) all.whole ∙ sym (append_assoc (frame_of item) (concat_pieces frame_of items) cut.rest);
        each = (is, all.each);
        longest = all.longest;
      };
      ends = cut.ends ∙ ap (λ k. end_of limit k cut.rest) (sym goes_on);
    }
