-- A text is refused by its sum, by its type, and by the walk over its body.
use Rattle.std.proofs.Common.{◌≡◌, ℕ, ◌+◌, ◌-◌, ◌/◌, ◌%◌, ◌≤◌, ◌<◌, true, false, List, [], ◌∷◌, ◌++◌, length, take, drop, get_or, sum, None, Result, Ok, Err, refl, sym, ap, ◌∙◌, subst, arith, append_assoc, length-append, true≢false}
use Rattle.std.specs.Result.{is_ok}
use Rattle.std.specs.Str.{bytes_eq}
use Rattle.std.specs.Prelude.{nat_lt, ◌==◌}
use Rattle.std.specs.Str.Parse.{digits_value}
use Rattle.std.proofs.lemmas.Bool.{and_parts, eqb-true, ltb-true}
use Rattle.std.proofs.lemmas.List.{drop-take, length-take-le, take-take}
use Rattle.std.proofs.lemmas.Slice.Eq.{bytes_eq-Decides}
use Rattle.std.proofs.Math.Seq.{take-append_seam, drop-append_seam}
use Rattle.tagvalue_codec.specs.declared.data_tags.Pair.{Pair}
use Rattle.tagvalue_codec.specs.declared.table.FixField.{FixField}
use Rattle.tagvalue_codec.specs.declared.read.FixFault.{FixFault}
use Rattle.tagvalue_codec.specs.Fields.{Field, field_bytes, is_number}
use Rattle.tagvalue_codec.specs.Texts.{Free, FixText, front, three_digits}
use Rattle.tagvalue_codec.specs.Reading.{plain_len, tagged_read, text_read}
use Rattle.tagvalue_codec.specs.Places.{FoundAt, TagAt, ends_at, filled, is_sum_field}
use Rattle.tagvalue_codec.proofs.Placing.{field_found, size_found, tagged_found}
use Rattle.tagvalue_codec.proofs.Judging.{Split, opened, split, no_kind, body_fault}
use Rattle.tagvalue_codec.proofs.Told as told
use Rattle.tagvalue_codec.proofs.Whole.{text_sound}
use Rattle.raw_walk.specs.Openings.{OpensAt}
use Rattle.raw_walk.specs.Walks.{Stops, step}
use Rattle.raw_walk.proofs.Plain.{plain_after, plain_at}

-- ---- the sum

-- a text is its front and its last field
parted : (tags : List Pair) (fields : List Field) (text : List ℕ) (is : FixText tags fields text) → text ≡ front is.parts ++ is.parts.last
parted tags fields text is =
    let p = is.parts in
    let a = field_bytes p.begin in
    let b = field_bytes p.size in
    let c = field_bytes p.kind ++ p.rest in
    is.typed.spans.opens.text_is ∙ ap (λ x. a ++ x) (sym (append_assoc b c p.last)) ∙ sym (append_assoc a (b ++ c) p.last)

text_summed : (tags : List Pair) (fields : List Field) (text : List ℕ) (stop n : ℕ) → stop + 7 ≡ length text → n ≡ sum (take stop text) % 256 → FixText tags fields text → is_sum_field (drop stop text) n ≡ true
text_summed tags fields text stop n long is_sum is =
    let p = is.parts in
    let all = parted tags fields text is in
    let place : stop ≡ length (front p) = omega (arith, long, ap length all, length-append (front p) p.last, is.typed.spans.seven) in
    let before : take stop text ≡ front p = ap (λ k. take k text) place ∙ ap (take (length (front p))) all ∙ take-append_seam (front p) p.last in
    let last : drop stop text ≡ p.last = ap (λ k. drop k text) place ∙ ap (drop (length (front p))) all ∙ drop-append_seam (front p) p.last in
    let amount : sum (front p) % 256 ≡ n = ap (λ b. sum b % 256) (sym before) ∙ sym is_sum in
    (bytes_eq-Decides (drop stop text) (field_bytes (record { tag = 10; value = three_digits n }))).1 (last ∙ is.sum_is ∙ ap (λ k. field_bytes (record { tag = 10; value = three_digits k })) amount)

sum_by : (tags : List Pair) (text : List ℕ) (stop n : ℕ) (r : Result (List Field) FixFault) → text_read tags text ≡ r → stop + 7 ≡ length text → n ≡ sum (take stop text) % 256 → is_sum_field (drop stop text) n ≡ false → is_ok r ≡ false
sum_by tags text stop n (Ok fields) told long is_sum bad = absurd (true≢false (sym (text_summed tags fields text stop n long is_sum (text_sound tags text fields told)) ∙ bad))
sum_by tags text stop n (Err fault) told long is_sum bad = refl

pub sum_refused : (tags : List Pair) (text : List ℕ) (stop n : ℕ) → stop + 7 ≡ length text → n ≡ sum (take stop text) % 256 → is_sum_field (drop stop text) n ≡ false → is_ok (text_read tags text) ≡ false
sum_refused tags text stop n long is_sum bad = sum_by tags text stop n (text_read tags text) refl long is_sum bad

-- the last field by its bytes
pub same_as_sum : (last : List ℕ) (n : ℕ) → is_sum_field last n ≡ bytes_eq last (49 ∷ 48 ∷ 61 ∷ (48 + n / 100) ∷ (48 + n / 10 % 10) ∷ (48 + n % 10) ∷ 1 ∷ [])
same_as_sum last n = told.same_as_sum last n

-- ---- the fields

split_at : (text : List ℕ) (body stop : ℕ) (o : OpensAt text body) → stop + 7 ≡ length text → Split text o.begin o.size stop (take stop text)
split_at text body stop o long = split text o.begin o.size o.number stop (opened text o.begin o.size o.number o.first (o.second, o.number_is)) o.right (omega (arith, long))

pub kind_refused : (tags : List Pair) (text : List ℕ) (body stop : ℕ) → OpensAt text body → stop + 7 ≡ length text → tagged_read 35 (drop body (take stop text)) ≡ None → is_ok (text_read tags text) ≡ false
kind_refused tags text body stop o long none =
    ap is_ok (no_kind tags text o.begin o.size stop (take stop text) (split_at text body stop o long) (ap (λ k. tagged_read 35 (drop k (take stop text))) (sym o.body_is) ∙ none))

body_by : (tags : List Pair) (text : List ℕ) (body stop : ℕ) (kind : FixField) (o : OpensAt text body) (r : Result (List FixField) FixFault) → filled tags Free (o.begin ∷ o.size ∷ kind ∷ []) (kind.to + 1) (take stop text) ≡ r → is_ok r ≡ false →
    stop + 7 ≡ length text → FoundAt (tagged_read 35) (take stop text) (o.size.to + 1) kind → is_ok (text_read tags text) ≡ false
body_by tags text body stop kind o (Ok table) told bad long h = absurd (true≢false bad)
body_by tags text body stop kind o (Err fault) told bad long h =
    ap is_ok (body_fault tags text o.begin o.size kind stop (take stop text) fault (record { split = split_at text body stop o long; third = h }) told)

pub body_refused : (tags : List Pair) (text : List ℕ) (body stop : ℕ) (kind : FixField) → OpensAt text body → stop + 7 ≡ length text → FoundAt (tagged_read 35) (take stop text) body kind → Stops tags (take stop text) (step 3 (kind.to + 1)) → is_ok (text_read tags text) ≡ false
body_refused tags text body stop kind o long h stops =
    body_by tags text body stop kind o (filled tags Free (o.begin ∷ o.size ∷ kind ∷ []) (kind.to + 1) (take stop text)) refl (stops (o.begin ∷ o.size ∷ kind ∷ []) refl) long
    (subst (λ k. FoundAt (tagged_read 35) (take stop text) k kind) o.body_is h)

-- ---- the same of the bytes that are held

pub sum_in : (tags : List Pair) (held : List ℕ) (stop size n : ℕ) → size ≤ length held → size ≡ stop + 7 → n ≡ sum (take stop held) % 256 → is_sum_field (take (size - stop) (drop stop held)) n ≡ false → is_ok (text_read tags (take size held)) ≡ false
sum_in tags held stop size n within is is_sum bad =
    let text = take size held in
    let long : stop + 7 ≡ length text = omega (arith, is, length-take-le size held within) in
    let before : take stop held ≡ take stop text = sym (take-take stop size held (omega (arith, is))) in
    let amount : size ≡ stop + (size - stop) = omega (arith, is) in
    let last : take (size - stop) (drop stop held) ≡ drop stop text = sym (ap (λ k. drop stop (take k held)) amount ∙ drop-take stop (size - stop) held) in
    sum_refused tags text stop n long (is_sum ∙ ap (λ b. sum b % 256) before) (ap (λ b. is_sum_field b n) (sym last) ∙ bad)

front_in : (held : List ℕ) (stop : ℕ) → take stop held ≡ take stop (take (stop + 7) held)
front_in held stop = sym (take-take stop (stop + 7) held (omega arith))

pub kind_in : (tags : List Pair) (held : List ℕ) (body stop : ℕ) → stop + 7 ≤ length held → OpensAt (take (stop + 7) held) body → tagged_read 35 (drop body (take stop held)) ≡ None → is_ok (text_read tags (take (stop + 7) held)) ≡ false
kind_in tags held body stop within o none =
    kind_refused tags (take (stop + 7) held) body stop o (sym (length-take-le (stop + 7) held within)) (ap (λ b. tagged_read 35 (drop body b)) (sym (front_in held stop)) ∙ none)

pub body_in : (tags : List Pair) (held : List ℕ) (body stop : ℕ) (kind : FixField) → stop + 7 ≤ length held → OpensAt (take (stop + 7) held) body → FoundAt (tagged_read 35) (take stop held) body kind → Stops tags (take stop held) (step 3 (kind.to + 1)) → is_ok (text_read tags (take (stop + 7) held)) ≡ false
body_in tags held body stop kind within o h stops =
    let same = front_in held stop in
    body_refused tags (take (stop + 7) held) body stop kind o (sym (length-take-le (stop + 7) held within)) (subst (λ b. FoundAt (tagged_read 35) b body kind) same h) (subst (λ b. Stops tags b (step 3 (kind.to + 1))) same stops)

-- the last place of a field in a front
pub within_front : (held : List ℕ) (stop body : ℕ) (kind : FixField) → stop ≤ length held → FoundAt (tagged_read 35) (take stop held) body kind → kind.to + 1 ≤ stop
within_front held stop body kind low h = omega (arith, h.within, length-take-le stop held low)

-- ---- the first two fields

pub begin_found : (text : List ℕ) (tag from soh : ℕ) → TagAt text 0 tag from → tag ≡ 8 → from < soh → soh ≤ plain_len text → ends_at soh text ≡ true → FoundAt (tagged_read 8) text 0 (record { tag = tag; at = 0; from = from; to = soh })
begin_found text tag from soh t same low plain ends =
    let both = and_parts (nat_lt soh (length text)) (get_or text soh 0 == 1) ends in
    let within : soh < length text = ltb-true soh (length text) both.0 in
    let here : get_or text soh 0 ≡ 1 = eqb-true _ 1 both.1 in
    let is : plain_len text ≡ soh = plain_at text soh here plain within in
    let rest = plain_after text from (omega (arith, low, plain)) in
    let end : soh ≡ from + plain_len (drop from text) = omega (arith, is, rest) in
    tagged_found text 0 8 (record { tag = tag; at = 0; from = from; to = soh }) (field_found text 0 tag from soh t end within (λ e. omega (arith, e, low))) same

pub opens_found : (text : List ℕ) (begin size : FixField) (number : ℕ) → FoundAt (tagged_read 8) text 0 begin → FoundAt (tagged_read 9) text (begin.to + 1) size →
    (is_number (take (size.to - size.from) (drop size.from text)) ≡ true) × (number ≡ digits_value 10 (take (size.to - size.from) (drop size.from text))) → number + 7 ≡ length text - (size.to + 1) → OpensAt text (size.to + 1)
opens_found text begin size number first second digits right = record {
  begin = begin;
  size = size;
  number = number;
  first = first;
  second = size_found text (begin.to + 1) size second digits.0;
  number_is = digits.1;
  body_is = refl;
  right = right;
}
