-- How long a text is, and what a writer leaves.
use Rattle.std.proofs.Common.{◌≡◌, ℕ, ◌+◌, ◌≤◌, ◌<◌, ◌/◌, ◌%◌, List, [], ◌∷◌, ◌++◌, length, min, sym, ap, ◌∙◌, subst, arith, append_assoc, length-append, take}
use Rattle.std.proofs.Math.Seq.{take-append_seam}
use Rattle.std.specs.Prelude.{decimal, ⊤, Result, Ok, Err, OnOk, IfErr}
use Rattle.std.proofs.lemmas.Fmt.{decimal_step, decimal_digit, length-decimal-le}
use Rattle.tagvalue_codec.specs.declared.write.Phase.{Phase}
use Rattle.tagvalue_codec.specs.declared.write.Phase.TheVariants.{Open}
use Rattle.tagvalue_codec.specs.declared.write.Full.{Full}
use Rattle.tagvalue_codec.specs.Fields.{soh, tag_bytes, field_bytes}
use Rattle.tagvalue_codec.specs.Texts.{sum_over, sum_field, text_over}
use Rattle.tagvalue_codec.specs.Drafts.{IsFull, IsReady, typed, field_of, ready_bytes, data_bytes, ready_data_bytes}
use Rattle.tagvalue_codec.specs.declared.framed.TheConstants.{BEFORE, SPARE}
use Rattle.tagvalue_codec.specs.Rooms.{front_over, text_from, head_bytes, needed_for, begin_in, Around, Keeps}
use Rattle.tagvalue_codec.proofs.Judging.{last_bytes}

-- the length of a text
pub text_long : (head body : List ℕ) → length (text_from head body) ≡ needed_for (length head) (length body)
text_long head body =
    let last : length (field_bytes (sum_field (front_over head body))) ≡ 7 = ap length (last_bytes (sum_over (front_over head body))) in
    omega (arith, length-append (front_over head body) (field_bytes (sum_field (front_over head body))), length-append head (decimal (length body) ++ (soh ∷ body)), length-append (decimal (length body)) (soh ∷ body))

eight : decimal 8 ≡ 56 ∷ []
eight = decimal_digit 8 (omega arith)

nine : decimal 9 ≡ 57 ∷ []
nine = decimal_digit 9 (omega arith)

thirty_five : decimal 35 ≡ 51 ∷ 53 ∷ []
thirty_five = decimal_step 35 (omega arith) (omega arith) ∙ ap (λ d. d ++ (53 ∷ [])) (decimal_digit 3 (omega arith))

-- the bytes before the number after 9
pub head_is : (begin : List ℕ) → head_bytes begin ≡ ((56 ∷ 61 ∷ []) ++ (begin ++ (soh ∷ []))) ++ (57 ∷ 61 ∷ [])
head_is begin = (λ i. ((eight i ++ (61 ∷ [])) ++ (begin ++ (soh ∷ []))) ++ (nine i ++ (61 ∷ [])))

pub typed_is : (msg_type : List ℕ) → field_bytes (typed msg_type) ≡ (51 ∷ 53 ∷ 61 ∷ []) ++ (msg_type ++ (soh ∷ []))
typed_is msg_type = ap (λ d. (d ++ (61 ∷ [])) ++ (msg_type ++ (soh ∷ []))) thirty_five

pub head_long : (begin : List ℕ) → length (head_bytes begin) ≡ length begin + 5
head_long begin = ap length (head_is begin) ∙ omega (arith, length-append ((56 ∷ 61 ∷ []) ++ (begin ++ (soh ∷ []))) (57 ∷ 61 ∷ []), length-append begin (soh ∷ []))

pub typed_long : (msg_type : List ℕ) → length (field_bytes (typed msg_type)) ≡ length msg_type + 4
typed_long msg_type = ap length (typed_is msg_type) ∙ omega (arith, length-append msg_type (soh ∷ []))

-- the text of a begin value
pub over_is : (begin body : List ℕ) → text_from (head_bytes begin) body ≡ text_over begin body
over_is begin body =
    let front : front_over (head_bytes begin) body ≡ field_bytes (field_of 8 begin) ++ (field_bytes (field_of 9 (decimal (length body))) ++ body) =
    append_assoc (field_bytes (field_of 8 begin)) (tag_bytes 9) (decimal (length body) ++ (soh ∷ body))
    ∙ ap (λ x. field_bytes (field_of 8 begin) ++ x) (sym (append_assoc (tag_bytes 9) (decimal (length body) ++ (soh ∷ [])) body ∙ ap (λ x. tag_bytes 9 ++ x) (append_assoc (decimal (length body)) (soh ∷ []) body))) in
    ap (λ f. f ++ field_bytes (sum_field f)) front

-- the length of the text over a value and a body
over_long : (begin body : List ℕ) → length (text_over begin body) ≡ needed_for (length (head_bytes begin)) (length body)
over_long begin body = ap length (sym (over_is begin body)) ∙ text_long (head_bytes begin) body

-- a text within the limit, by the lengths of its head and its body
pub within_by : (limit n m : ℕ) (begin body : List ℕ) → n ≡ length (head_bytes begin) → m ≡ length body → needed_for n m ≤ limit → length (text_over begin body) ≤ limit
within_by limit n m begin body first second fits = subst (λ (k : ℕ). k ≤ limit) (sym (over_long begin body ∙ (λ i. needed_for (sym first i) (sym second i)))) fits

pub full_by : (limit n m : ℕ) (begin body : List ℕ) (full : Full) → n ≡ length (head_bytes begin) → m ≡ length body →
    (limit < needed_for n m) × (full.needed ≡ min (needed_for n m) 18446744073709551615) × (full.limit ≡ limit) → IsFull limit begin body full
full_by limit n m begin body full first second h =
    let long : needed_for n m ≡ length (text_over begin body) = (λ i. needed_for (first i) (second i)) ∙ sym (over_long begin body) in
    record { over = subst (λ (k : ℕ). limit < k) long h.0; needed = h.1 ∙ ap (λ k. min k 18446744073709551615) long; limit_is = h.2 }

-- a text whose head and body leave 28 bytes is within the limit
pub around_fits : (head body limit : ℕ) → body < 18446744073709551616 → head + body + 28 ≤ limit → needed_for head body ≤ limit
around_fits head body limit small most =
    let few : length (decimal body) ≤ 20 = length-decimal-le 20 body (omega arith) (omega (arith, small)) (omega (arith, small)) in
    omega (arith, few, most)

-- ---- the value after `8=`

pub begin_here : (begin : List ℕ) → begin_in (length begin) (head_bytes begin) ≡ begin
begin_here begin =
    ap (begin_in (length begin)) (head_is begin)
    ∙ ap (take (length begin)) (append_assoc begin (soh ∷ []) (57 ∷ 61 ∷ []))
    ∙ take-append_seam begin (soh ∷ 57 ∷ 61 ∷ [])

-- ---- what is appended to the body

pub field_long : (value digits : List ℕ) (tag : ℕ) → digits ≡ decimal tag → length (field_bytes (field_of tag value)) ≡ length digits + length value + 2
field_long value digits tag is =
    omega (arith, ap length is, length-append (tag_bytes tag) (value ++ (soh ∷ [])), length-append (decimal tag) (61 ∷ []), length-append value (soh ∷ []))

pub ready_long : (tag value : List ℕ) → length (ready_bytes tag value) ≡ length tag + length value + 1
ready_long tag value = omega (arith, length-append tag (value ++ (soh ∷ [])), length-append value (soh ∷ []))

-- the bytes of a tag are few
pub ready_short : (tag : List ℕ) → IsReady tag → length tag ≤ 10
ready_short tag is =
    let few : length (decimal is.tag) ≤ 9 = length-decimal-le 9 is.tag (omega arith) (omega (arith, is.tagged.below)) (omega (arith, is.tagged.below)) in
    omega (arith, ap length is.bytes_are, length-append (decimal is.tag) (61 ∷ []))

pub data_long : (value length_digits count digits : List ℕ) (length_tag tag : ℕ) → length_digits ≡ decimal length_tag → count ≡ decimal (length value) → digits ≡ decimal tag →
    length (data_bytes length_tag tag value) ≡ length length_digits + length count + 2 + (length digits + length value + 2)
data_long value length_digits count digits length_tag tag first amount second =
    let one = field_long (decimal (length value)) length_digits length_tag first in
    let two = field_long value digits tag second in
    omega (arith, one, two, ap length amount, length-append (field_bytes (field_of length_tag (decimal (length value)))) (field_bytes (field_of tag value)))

pub field_laid_out : (body value digits : List ℕ) (tag : ℕ) → digits ≡ decimal tag → body ++ ready_bytes (digits ++ (61 ∷ [])) value ≡ body ++ field_bytes (field_of tag value)
field_laid_out body value digits tag is = ap (λ d. body ++ ready_bytes (d ++ (61 ∷ [])) value) is

pub data_laid_out : (body value length_digits count digits : List ℕ) (length_tag tag : ℕ) → length_digits ≡ decimal length_tag → count ≡ decimal (length value) → digits ≡ decimal tag →
    (body ++ ready_bytes (length_digits ++ (61 ∷ [])) count) ++ ready_bytes (digits ++ (61 ∷ [])) value ≡ body ++ data_bytes length_tag tag value
data_laid_out body value length_digits count digits length_tag tag first amount second =
    (λ i. (body ++ ready_bytes (first i ++ (61 ∷ [])) (amount i)) ++ ready_bytes (second i ++ (61 ∷ [])) value)
    ∙ append_assoc body (field_bytes (field_of length_tag (decimal (length value)))) (field_bytes (field_of tag value))

pub ready_data_long : (length_tag count tag value : List ℕ) → count ≡ decimal (length value) →
    length (ready_data_bytes length_tag tag value) ≡ length length_tag + length count + 1 + (length tag + length value + 1)
ready_data_long length_tag count tag value amount =
    let one = ready_long length_tag (decimal (length value)) in
    let two = ready_long tag value in
    omega (arith, one, two, ap length amount, length-append (ready_bytes length_tag (decimal (length value))) (ready_bytes tag value))

pub ready_data_laid_out : (body length_tag count tag value : List ℕ) → count ≡ decimal (length value) →
    (body ++ ready_bytes length_tag count) ++ ready_bytes tag value ≡ body ++ ready_data_bytes length_tag tag value
ready_data_laid_out body length_tag count tag value amount =
    (λ i. (body ++ ready_bytes length_tag (amount i)) ++ ready_bytes tag value)
    ∙ append_assoc body (ready_bytes length_tag (decimal (length value))) (ready_bytes tag value)

-- ---- what is known of an answer

pub on_ok : {P Q : Type 0} (r : Result ⊤ Full) → (P → Q) → OnOk r P → OnOk r Q
on_ok (Ok u) f h = f h
on_ok (Err e) f h = tt

pub if_err : {P Q : Full → Type 0} (r : Result ⊤ Full) → ((full : Full) → P full → Q full) → IfErr r P → IfErr r Q
if_err (Ok u) f h = tt
if_err (Err e) f h = f e h

-- a begun text goes on with a longer body
pub goes_on : (p : Phase) (begin text : List ℕ) (old new : Around) (piece : List ℕ) (limit : ℕ) → p ≡ Open → Keeps p begin text old limit → new.bytes ≡ old.bytes ++ piece → new.start ≡ old.start → length (text_over begin (old.bytes ++ piece)) ≤ limit → Keeps p begin text new limit
goes_on p begin text old new piece limit open_is keeps is same fits =
    let kept : Keeps Open begin text old limit = subst (λ (q : Phase). Keeps q begin text old limit) open_is keeps in
    subst (λ (q : Phase). Keeps q begin text new limit) (sym open_is) (kept.0, subst (λ (x : List ℕ). length (text_over begin x) ≤ limit) (sym is) fits, same ∙ kept.2)

-- there is room in the memory for what is within the limit
pub has_room : (begin text : List ℕ) (body : Around) (limit more : ℕ) → body.size ≡ limit + SPARE → text ≡ head_bytes begin → body.start ≡ length text + BEFORE → length (head_bytes begin) + length body.bytes + more ≤ limit →
    body.start + length body.bytes + more ≤ body.size
has_room begin text body limit more size head start fits =
    let long : length text ≡ length (head_bytes begin) = ap length head in
    omega (arith, size, long, start, fits)

-- ---- the finished text

pub kept_open : (p : Phase) (begin text : List ℕ) (body : Around) (limit : ℕ) → p ≡ Open → Keeps p begin text body limit → (text ≡ head_bytes begin) × (length (text_over begin body.bytes) ≤ limit) × (body.start ≡ length text + BEFORE)
kept_open p begin text body limit open_is keeps = subst (λ (q : Phase). Keeps q begin text body limit) open_is keeps

-- the text of a head is that over the value in it
pub from_over : (begin text body : List ℕ) → text ≡ head_bytes begin → text_from text body ≡ text_over begin body
from_over begin text body is = ap (λ t. text_from t body) is ∙ over_is begin body

-- a finished text has as many bytes
pub parts_fit : (begin text body : List ℕ) (limit : ℕ) → text ≡ head_bytes begin → length (text_over begin body) ≤ limit → length text + length body + 8 ≤ limit
parts_fit begin text body limit is fits =
    let long : length (text_over begin body) ≡ needed_for (length (head_bytes begin)) (length body) = ap length (sym (over_is begin body)) ∙ text_long (head_bytes begin) body in
    omega (arith, long, fits, ap length is)

-- ---- digits

-- how many digits a number below a thousand has
pub one_digit : (n : ℕ) → n < 10 → length (decimal n) ≡ 1
one_digit n few = ap length (decimal_digit n (omega arith))

pub two_digits : (n : ℕ) → 10 ≤ n → n < 100 → length (decimal n) ≡ 2
two_digits n some few = ap length (decimal_step n (omega arith) (omega arith) ∙ ap (λ d. d ++ ((48 + n % 10) ∷ [])) (decimal_digit (n / 10) (omega arith)))

pub three_digits : (n : ℕ) → 100 ≤ n → n < 1000 → length (decimal n) ≡ 3
three_digits n some few =
    ap length (decimal_step n (omega arith) (omega arith))
    ∙ omega (arith, length-append (decimal (n / 10)) ((48 + n % 10) ∷ []), two_digits (n / 10) (omega arith) (omega arith))
