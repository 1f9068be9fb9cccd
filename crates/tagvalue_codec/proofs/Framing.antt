-- The bytes between two offsets of a memory, and what is put around them.
use Rattle.std.proofs.Common.{◌≡◌, ℕ, ◌+◌, ◌-◌, ◌/◌, ◌%◌, ◌≤◌, ◌<◌, Bool, true, false, List, [], ◌∷◌, ◌++◌, length, take, drop, sum, refl, ap, sym, ◌∙◌, subst, arith, append_assoc, length-append, length-take-le, length-drop, take-take, take_all, take-append-drop, drop_at, take_at}
use Rattle.std.proofs.lemmas.List.{drop-drop, drop-take, drop-append-le, take-append-le}
use Rattle.std.proofs.lemmas.List.Sums.{sum_by-append, sum_by-take-le}
use Rattle.std.proofs.Math.Seq.{take-append-add, take-append_seam}
use Rattle.std.specs.Prelude.{decimal, nat_lt}
use Rattle.std.proofs.lemmas.Bool.Decides.{nat_tests}
use Rattle.std.proofs.lemmas.Fmt.{decimal_step, decimal_digit}
use Rattle.byte_places.specs.Places.{IsPlaced, IsPut}
use Rattle.tagvalue_codec.specs.Fields.{soh, field_bytes}
use Rattle.tagvalue_codec.specs.Texts.{sum_field, three_digits}
use Rattle.tagvalue_codec.specs.Rooms.{front_over, text_from, sum_of_bytes, IsPutBefore}

-- the bytes between two offsets
abbrev pub part : ℕ → ℕ → List ℕ → List ℕ
part from to m = drop from (take to m)

pub part_is : (from to : ℕ) (m : List ℕ) → from ≤ to → part from to m ≡ take (to - from) (drop from m)
part_is from to m order =
    let whole : to ≡ from + (to - from) = omega arith in
    ap (λ n. drop from (take n m)) whole ∙ drop-take from (to - from) m

-- memories that are the same from an offset on have the same parts there
pub part_after : (from to : ℕ) (m n : List ℕ) → from ≤ to → drop from m ≡ drop from n → part from to m ≡ part from to n
part_after from to m n order same = part_is from to m order ∙ ap (take (to - from)) same ∙ sym (part_is from to n order)

pub later_same : (i j : ℕ) (a b : List ℕ) → i ≤ j → drop i b ≡ drop i a → drop j b ≡ drop j a
later_same i j a b later same =
    let whole : j ≡ i + (j - i) = omega arith in
    ap (λ n. drop n b) whole ∙ sym (drop-drop (j - i) i b) ∙ ap (drop (j - i)) same ∙ drop-drop (j - i) i a ∙ ap (λ n. drop n a) (sym whole)

-- a part is that up to an offset, and that from it on
pub split : (from mid to : ℕ) (m : List ℕ) → from ≤ mid → mid ≤ to → mid ≤ length m → part from to m ≡ part from mid m ++ part mid to m
split from mid to m first second within =
    let whole : take to m ≡ take mid m ++ part mid to m = sym (take-append-drop mid (take to m)) ∙ ap (λ l. l ++ part mid to m) (take-take mid to m second) in
    ap (drop from) whole ∙ drop-append-le from (take mid m) (part mid to m) (omega (arith, length-take-le mid m within))

-- bytes that were placed are there
pub placed_there : (old new : List ℕ) (at : ℕ) (bytes : List ℕ) (end : ℕ) → IsPlaced old new at bytes end → at ≤ length old → part at end new ≡ bytes
placed_there old new at bytes end p within = ap (drop at) p.front ∙ drop_at (take at old) bytes at (omega (arith, length-take-le at old within))

-- what was before them is there
pub before_placed : (old new : List ℕ) (at : ℕ) (bytes : List ℕ) (end k : ℕ) → IsPlaced old new at bytes end → at ≤ length old → k ≤ at → take k new ≡ take k old
before_placed old new at bytes end k p within less =
    sym (take-take k end new (omega (arith, p.moved, less))) ∙ ap (take k) p.front
    ∙ take-append-le k (take at old) bytes (omega (arith, length-take-le at old within, less)) ∙ take-take k at old less

pub put_before : (old new : List ℕ) (from : ℕ) (bytes : List ℕ) (at : ℕ) → IsPut old new from bytes at → from ≤ length old → IsPutBefore old new at bytes from
put_before old new from bytes at p within = record { front = placed_there old new from bytes at p.placed within; rest = p.rest; moved = p.placed.moved; long = p.placed.long }

-- without the first of them
pub fewer_before : (old new : List ℕ) (from at : ℕ) (first bytes all : List ℕ) (now : ℕ) → all ≡ first ++ bytes → now ≡ from + length first → IsPutBefore old new at all from → IsPutBefore old new at bytes now
fewer_before old new from at first bytes all now is later p = record {
  front = ap (λ n. drop n (take at new)) later ∙ sym (drop-drop (length first) from (take at new)) ∙ ap (drop (length first)) (p.front ∙ is) ∙ drop_at first bytes (length first) (omega arith);
  rest = p.rest;
  moved = omega (arith, p.moved, ap length is, length-append first bytes, later);
  long = p.long;
}

-- two pieces, one after the other
pub both_before : (a b c : List ℕ) (from mid at : ℕ) (x y : List ℕ) → IsPut a b from x mid → IsPut b c mid y at → from ≤ length a → mid ≤ length b → IsPutBefore a c at (x ++ y) from
both_before a b c from mid at x y p q first second = record {
  front = split from mid at c (omega (arith, p.placed.moved)) (omega (arith, q.placed.moved)) (omega (arith, second, q.placed.long))
      ∙ ap (λ l. drop from l ++ part mid at c) (before_placed b c mid y at mid q.placed second (omega arith))
      ∙ ap (λ l. l ++ part mid at c) (placed_there a b from x mid p.placed first)
      ∙ ap (λ l. x ++ l) (placed_there b c mid y at q.placed second);
  rest = q.rest ∙ later_same mid at a b (omega (arith, q.placed.moved)) p.rest;
  moved = omega (arith, p.placed.moved, q.placed.moved, length-append x y);
  long = q.placed.long ∙ p.placed.long;
}

-- ---- digits

pub three_is : (n : ℕ) → 100 ≤ n → n < 1000 → decimal n ≡ three_digits n
three_is n some few =
    decimal_step n (omega arith) (omega arith)
    ∙ ap (λ d. d ++ ((48 + n % 10) ∷ [])) (decimal_step (n / 10) (omega arith) (omega arith)
    ∙ ap (λ d. d ++ ((48 + n / 10 % 10) ∷ [])) (decimal_digit (n / 10 / 10) (omega arith) ∙ ap (λ q. (48 + q) ∷ []) (omega arith)))

pub two_are : (n : ℕ) → 10 ≤ n → n < 100 → three_digits n ≡ (48 ∷ []) ++ decimal n
two_are n some few =
    let high : 48 + n / 100 ≡ 48 = omega arith in
    let middle : 48 + n / 10 % 10 ≡ 48 + n / 10 = omega arith in
    (λ i. high i ∷ middle i ∷ (48 + n % 10) ∷ [])
    ∙ ap (λ d. 48 ∷ d) (sym (decimal_step n (omega arith) (omega arith) ∙ ap (λ d. d ++ ((48 + n % 10) ∷ [])) (decimal_digit (n / 10) (omega arith))))

pub one_is : (n : ℕ) → n < 10 → three_digits n ≡ (48 ∷ 48 ∷ []) ++ decimal n
one_is n few =
    let high : 48 + n / 100 ≡ 48 = omega arith in
    let middle : 48 + n / 10 % 10 ≡ 48 = omega arith in
    let low : 48 + n % 10 ≡ 48 + n = omega arith in
    (λ i. high i ∷ middle i ∷ low i ∷ []) ∙ ap (λ d. 48 ∷ 48 ∷ d) (sym (decimal_digit n few))

-- a number below a thousand ends its three digits
three_by : (n : ℕ) (one two : Bool) → nat_lt n 10 ≡ one → nat_lt n 100 ≡ two → n < 1000 → (first : List ℕ) × (three_digits n ≡ first ++ decimal n) × (length first + length (decimal n) ≡ 3)
three_by n true two is more few =
    let less : n < 10 = grind (arith, nat_tests, is) in
    let all = one_is n less in
    (48 ∷ 48 ∷ [], all, omega (arith, ap length all))
three_by n false true is more few =
    let some : 10 ≤ n = grind (arith, nat_tests, is) in
    let less : n < 100 = grind (arith, nat_tests, more) in
    let all = two_are n some less in
    (48 ∷ [], all, omega (arith, ap length all))
three_by n false false is more few =
    let some : 100 ≤ n = grind (arith, nat_tests, more) in
    let all = three_is n some few in
    ([], sym all, omega (arith, ap length all))

pub three_end : (n : ℕ) → n < 1000 → (first : List ℕ) × (three_digits n ≡ first ++ decimal n) × (length first + length (decimal n) ≡ 3)
three_end n few = three_by n (nat_lt n 10) (nat_lt n 100) refl refl few

-- three digits and SOH are placed, and the number is what they end with
pub few_before : (old new : List ℕ) (n at end digits : ℕ) (bytes : List ℕ) → IsPut old new (at - 4) bytes end → bytes ≡ three_digits n ++ (soh ∷ []) → digits ≡ length (decimal n) → n < 1000 → 4 ≤ at → at ≤ length old →
    IsPutBefore old new at (decimal n ++ (soh ∷ [])) (at - 1 - digits)
few_before old new n at end digits bytes p is long few room within =
    let t = three_end n few in
    let here : end ≡ at = omega (arith, p.placed.moved, ap length is, room) in
    let all : bytes ≡ t.0 ++ (decimal n ++ (soh ∷ [])) = is ∙ ap (λ l. l ++ (soh ∷ [])) t.1 ∙ append_assoc t.0 (decimal n) (soh ∷ []) in
    let put : IsPutBefore old new at bytes (at - 4) = put_before old new (at - 4) bytes at (subst (IsPut old new (at - 4) bytes) here p) (omega (arith, within)) in
    fewer_before old new (at - 4) at t.0 (decimal n ++ (soh ∷ [])) bytes (at - 1 - digits) all (omega (arith, t.2, long, room)) put

-- ---- sums

-- a part whose rest was cleared has the sum of what precedes the rest
pub padded_sum : (old new : List ℕ) (from to end : ℕ) (zeros : List ℕ) → take (to + length zeros) new ≡ take to old ++ zeros → sum zeros ≡ 0 → from ≤ to → to ≤ end → end ≤ to + length zeros → to ≤ length old → length new ≡ length old →
    sum (part from end new) ≡ sum (part from to old)
padded_sum old new from to end zeros is none order more most within long =
    let kept : take to new ≡ take to old =
    sym (take-take to (to + length zeros) new (omega arith)) ∙ ap (take to) is ∙ take_at (take to old) zeros to (omega (arith, length-take-le to old within)) in
    let cleared : part to end new ≡ take (end - to) zeros =
    ap (drop to) (sym (take-take end (to + length zeros) new most) ∙ ap (take end) is)
    ∙ part_is to end (take to old ++ zeros) more ∙ ap (take (end - to)) (drop_at (take to old) zeros to (omega (arith, length-take-le to old within))) in
    let nothing : sum (take (end - to) zeros) ≡ 0 = omega (arith, sum_by-take-le (λ (x : ℕ). x) zeros (end - to), none) in
    ap sum (split from to end new order more (omega (arith, within, long)))
    ∙ sum_by-append (λ (x : ℕ). x) (part from to new) (part to end new)
    ∙ (λ i. sum (drop from (kept i)) + sum (cleared i))
    ∙ omega (arith, nothing)

-- ---- the whole text

-- a head before what was put before an offset
pub head_before : (a b c : List ℕ) (from mid at : ℕ) (head bytes : List ℕ) → IsPutBefore a b at bytes mid → IsPut b c from head mid → at ≤ length a → IsPutBefore a c at (head ++ bytes) from
head_before a b c from mid at head bytes p q within =
    let first : from ≤ mid = omega (arith, q.placed.moved) in
    let second : mid ≤ at = omega (arith, p.moved) in
    record {
      front = split from mid at c first second (omega (arith, second, within, p.long, q.placed.long))
          ∙ ap (λ l. l ++ part mid at c) (placed_there b c from head mid q.placed (omega (arith, first, second, within, p.long)))
          ∙ ap (λ l. head ++ l) (part_after mid at c b second q.rest ∙ p.front);
      rest = later_same mid at b c second q.rest ∙ p.rest;
      moved = omega (arith, p.moved, q.placed.moved, length-append head bytes);
      long = q.placed.long ∙ p.long;
    }

-- a head, a number and SOH before a body
pub front_there : (a b : List ℕ) (from start len : ℕ) (head number : List ℕ) → IsPutBefore a b start (head ++ (number ++ (soh ∷ []))) from → start ≤ len → len ≤ length a →
    part from len b ≡ head ++ (number ++ (soh ∷ part start len a))
front_there a b from start len head number p later within =
    split from start len b (omega (arith, p.moved)) later (omega (arith, later, within, p.long))
    ∙ (λ i. p.front i ++ part_after start len b a later p.rest i)
    ∙ append_assoc head (number ++ (soh ∷ [])) (part start len a)
    ∙ ap (λ l. head ++ l) (append_assoc number (soh ∷ []) (part start len a))

-- a part with what was put after it
pub last_there : (b c d : List ℕ) (from len end : ℕ) (last : List ℕ) → take len c ≡ take len b → take end d ≡ take len c ++ last → from ≤ len → len ≤ length b → part from end d ≡ part from len b ++ last
last_there b c d from len end last kept front order within =
    ap (drop from) (front ∙ ap (λ l. l ++ last) kept) ∙ drop-append-le from (take len b) last (omega (arith, length-take-le len b within, order))

-- what precedes it is the same
pub still_there : (b c d : List ℕ) (len end : ℕ) (last : List ℕ) → take len c ≡ take len b → take end d ≡ take len c ++ last → len ≤ end → len ≤ length b → take len d ≡ take len b
still_there b c d len end last kept front later within =
    sym (take-take len end d later) ∙ ap (take len) (front ∙ ap (λ l. l ++ last) kept) ∙ take_at (take len b) last len (omega (arith, length-take-le len b within))

-- the text of a head and a body, by the sum of what precedes its last field
pub text_there : (whole front head body : List ℕ) (n : ℕ) → whole ≡ front ++ field_bytes (sum_of_bytes n) → front ≡ front_over head body → n ≡ sum front % 256 → whole ≡ text_from head body
text_there whole front head body n is front_is sum_is =
    is ∙ ap (λ k. front ++ field_bytes (sum_of_bytes k)) sum_is ∙ ap (λ f. f ++ field_bytes (sum_field f)) front_is

-- a body goes on with what is placed at its end
pub body_grows : (old new : List ℕ) (start len end : ℕ) (piece : List ℕ) → IsPlaced old new len piece end → start ≤ len → len ≤ length old → part start end new ≡ part start len old ++ piece
body_grows old new start len end piece p order within = ap (drop start) p.front ∙ drop-append-le start (take len old) piece (omega (arith, length-take-le len old within, order))

-- the same for a tag, a value and what ends them
pub field_grows : (a b c d : List ℕ) (start len i j end : ℕ) (tag value last : List ℕ) → IsPlaced a b len tag i → IsPlaced b c i value j → IsPlaced c d j last end → start ≤ len → len ≤ length a →
    part start end d ≡ part start len a ++ (tag ++ (value ++ last))
field_grows a b c d start len i j end tag value last p q r order within =
    let front : take end d ≡ take len a ++ (tag ++ (value ++ last)) =
    r.front ∙ ap (λ l. l ++ last) (q.front ∙ ap (λ l. l ++ value) p.front)
    ∙ append_assoc (take len a ++ tag) value last ∙ append_assoc (take len a) tag (value ++ last) in
    ap (drop start) front ∙ drop-append-le start (take len a) (tag ++ (value ++ last)) (omega (arith, length-take-le len a within, order))

-- four pieces after others
pub four_pieces : (b w x y z : List ℕ) → (((b ++ w) ++ x) ++ y) ++ z ≡ b ++ ((w ++ x) ++ (y ++ z))
four_pieces b w x y z = append_assoc ((b ++ w) ++ x) y z ∙ ap (λ l. l ++ (y ++ z)) (append_assoc b w x) ∙ append_assoc b (w ++ x) (y ++ z)

-- the first of bytes that were placed
pub fewer_placed : (old new : List ℕ) (at end : ℕ) (bytes first more : List ℕ) (n : ℕ) → IsPlaced old new at bytes end → bytes ≡ first ++ more → length first ≡ n → at ≤ length old → take (at + n) new ≡ take at old ++ first
fewer_placed old new at end bytes first more n p is long within =
    let here : length (take at old) ≡ at = length-take-le at old within in
    sym (take-take (at + n) end new (omega (arith, p.moved, ap length is, length-append first more, long))) ∙ ap (take (at + n)) (p.front ∙ ap (λ l. take at old ++ l) is)
    ∙ ap (λ k. take (at + k) (take at old ++ (first ++ more))) (sym long)
    ∙ ap (λ k. take (k + length first) (take at old ++ (first ++ more))) (sym here)
    ∙ take-append-add (take at old) (first ++ more) (length first) ∙ ap (λ l. take at old ++ l) (take-append_seam first more)

-- six bytes, put as four and two
pub six_put : (a b c : List ℕ) (at i j : ℕ) (six : List ℕ) → IsPut a b (at - 6) (take 4 six) i → IsPut b c (at - 6 + 4) (take 2 (drop 4 six)) j → length six ≡ 6 → 6 ≤ at → at ≤ length a → IsPutBefore a c at six (at - 6)
six_put a b c at i j six p q long some within =
    let rest : length (drop 4 six) ≡ 2 = omega (arith, length-drop 4 six, long) in
    let first : i ≡ at - 6 + 4 = omega (arith, p.placed.moved, length-take-le 4 six (omega (arith, long))) in
    let second : j ≡ at = omega (arith, q.placed.moved, length-take-le 2 (drop 4 six) (omega (arith, rest)), some) in
    let whole : take 4 six ++ take 2 (drop 4 six) ≡ six = ap (λ l. take 4 six ++ l) (take_all 2 (drop 4 six) (omega (arith, rest))) ∙ take-append-drop 4 six in
    subst (λ (l : List ℕ). IsPutBefore a c at l (at - 6)) whole
    (both_before a b c (at - 6) (at - 6 + 4) at (take 4 six) (take 2 (drop 4 six)) (subst (IsPut a b (at - 6) (take 4 six)) first p) (subst (IsPut b c (at - 6 + 4) (take 2 (drop 4 six))) second q)
    (omega (arith, within)) (omega (arith, within, some, p.placed.long)))

-- a part with what was put before it
pub led_part : (old new : List ℕ) (from at to : ℕ) (bytes : List ℕ) → IsPutBefore old new at bytes from → at ≤ to → to ≤ length old → part from to new ≡ bytes ++ part at to old
led_part old new from at to bytes p order within =
    split from at to new (omega (arith, p.moved)) order (omega (arith, order, within, p.long))
    ∙ (λ i. p.front i ++ part_after at to new old order p.rest i)

-- a part after it is the same
pub part_stays : (old new : List ℕ) (from at first to : ℕ) (bytes : List ℕ) → IsPutBefore old new at bytes from → at ≤ first → first ≤ to → part first to new ≡ part first to old
part_stays old new from at first to bytes p later order = part_after first to new old order (later_same at first old new later p.rest)

-- a memory that was lent and written is what was written
pub lent_back : (n : ℕ) (written : List ℕ) → length written ≡ n → (more : List ℕ) → take n (written ++ more) ≡ written
lent_back n written long more = take_at written more n long
