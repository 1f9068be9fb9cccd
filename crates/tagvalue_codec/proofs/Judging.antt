-- A text is judged as its places are found.
use Rattle.std.proofs.Common.{◌≡◌, ◌≢◌, ℕ, suc, ◌+◌, ◌-◌, ◌/◌, ◌%◌, ◌≤◌, true, false, List, [], ◌∷◌, ◌++◌, length, take, drop, None, Result, Ok, Err, refl, sym, ap, ◌∙◌, arith, append_assoc, length-append, length-drop}
use Rattle.std.specs.Prelude.{◌==◌, decimal, sum}
use Rattle.std.specs.Str.Parse.{digits_value}
use Rattle.std.proofs.lemmas.Bool.{eq-eqb, ne_eqb}
use Rattle.std.proofs.lemmas.List.{drop-drop, drop-take, take-append-drop, length-take-le, take-take}
use Rattle.std.proofs.lemmas.Fmt.{decimal_step, decimal_digit}
use Rattle.std.proofs.Math.Seq.{take-append_seam}
use Rattle.tagvalue_codec.specs.declared.data_tags.Pair.{Pair}
use Rattle.tagvalue_codec.specs.declared.table.FixField.{FixField}
use Rattle.tagvalue_codec.specs.declared.read.TCode.TheVariants as code
use Rattle.tagvalue_codec.specs.declared.read.FixFault.{FixFault}
use Rattle.tagvalue_codec.specs.Fields.{soh, Field, field_bytes, bytes_of}
use Rattle.tagvalue_codec.specs.Texts.{Owed, Free, Body, owed_after, most_between, sum_over, three_digits, body_at, front_of, parts}
use Rattle.tagvalue_codec.specs.Reading.{tagged_read, size_read, fault_at, walk, placed_at, placed, after_body, after_kind, after_size, text_read}
use Rattle.tagvalue_codec.specs.Places.{FoundAt, after_table, filled, Read, is_sum_field}
use Rattle.tagvalue_codec.proofs.Walking.{ok_is, err_is, ok_not_err, walk_sound}
use Rattle.tagvalue_codec.proofs.Whole.{at_sound, size_sound}
use Rattle.tagvalue_codec.proofs.Filling.{next_place}

-- ---- the field 8

pub no_begin : (tags : List Pair) (text : List ℕ) → tagged_read 8 text ≡ None → text_read tags text ≡ Err (fault_at code.FirstTag 0)
unfolding text_read
no_begin tags text none = rw none refl

-- after the field 8
pub begun : (tags : List Pair) (text : List ℕ) (begin : FixField) (h : FoundAt (tagged_read 8) text 0 begin) → text_read tags text ≡ after_size tags h.field (size_read (drop (begin.to + 1) text))
unfolding text_read
begun tags text begin h = rw h.found refl

-- ---- the field 9

pub no_size : (tags : List Pair) (text : List ℕ) (begin : FixField) → FoundAt (tagged_read 8) text 0 begin → size_read (drop (begin.to + 1) text) ≡ None → text_read tags text ≡ Err (fault_at code.BodyLength (begin.to + 1))
no_size tags text begin h none =
    begun tags text begin h ∙ rw none (ap (λ k. Err (fault_at code.BodyLength k)) (sym (next_place (tagged_read 8) text 0 begin h ∙ omega arith)))

-- the first two fields
pub record Opened (text : List ℕ) (begin size : FixField) (number : ℕ) : Type 0 where
  pub first : FoundAt (tagged_read 8) text 0 begin
  pub second : FoundAt size_read text (begin.to + 1) size
  pub number_is : number ≡ digits_value 10 second.field.value

pub opened : (text : List ℕ) (begin size : FixField) (number : ℕ) → FoundAt (tagged_read 8) text 0 begin →
    FoundAt size_read text (begin.to + 1) size × (number ≡ digits_value 10 (take (size.to - size.from) (drop size.from text))) → Opened text begin size number
opened text begin size number first second = record { first = first; second = second.0; number_is = second.1 ∙ ap (digits_value 10) (sym second.0.value_is) }

first_long : (text : List ℕ) (begin size : FixField) (number : ℕ) (o : Opened text begin size number) → begin.to + 1 ≡ length (field_bytes o.first.field)
first_long text begin size number o = omega (arith, next_place (tagged_read 8) text 0 begin o.first)

body_place : (text : List ℕ) (begin size : FixField) (number : ℕ) (o : Opened text begin size number) → size.to + 1 ≡ body_at o.first.field o.second.field
body_place text begin size number o = omega (arith, first_long text begin size number o, next_place size_read text (begin.to + 1) size o.second)

pub wrong_length : (tags : List Pair) (text : List ℕ) (begin size : FixField) (number after : ℕ) → Opened text begin size number → after ≡ length text - (size.to + 1) → number + 7 ≢ after →
    text_read tags text ≡ Err (record { code = code.LengthWrong; offset = begin.to + 1; detail = after - 7 })
wrong_length tags text begin size number after o long other =
    let left : length (drop (size.to + 1) text) ≡ after = length-drop (size.to + 1) text ∙ sym long in
    let test : (digits_value 10 o.second.field.value + 7 == length (drop (size.to + 1) text)) ≡ false =
    ne_eqb (digits_value 10 o.second.field.value + 7) (length (drop (size.to + 1) text)) (λ e. other (ap (λ k. k + 7) o.number_is ∙ e ∙ left)) in
    begun tags text begin o.first ∙ ap (after_size tags o.first.field) o.second.found
    ∙ rw (test, left, ← (first_long text begin size number o)) refl

-- ---- the field 35

-- the text up to its last seven bytes, and where they begin
pub record Split (text : List ℕ) (begin size : FixField) (stop : ℕ) (front : List ℕ) : Type 0 where
  pub number : ℕ
  pub opened : Opened text begin size number
  pub stop_is : stop + 7 ≡ length text
  pub front_is : front ≡ take stop text
  pub within : size.to + 1 ≤ stop
  pub right : number + 7 ≡ length text - (size.to + 1)

pub split : (text : List ℕ) (begin size : FixField) (number stop : ℕ) → Opened text begin size number → number + 7 ≡ length text - (size.to + 1) → stop ≡ length text - 7 → Split text begin size stop (take stop text)
split text begin size number stop o right is =
    record { number = number; opened = o; stop_is = omega arith; front_is = refl; within = omega arith; right = right }

spanned : (tags : List Pair) (text : List ℕ) (begin size : FixField) (stop : ℕ) (front : List ℕ) (s : Split text begin size stop front) →
    text_read tags text ≡ after_kind tags s.opened.first.field s.opened.second.field (drop stop text) (tagged_read 35 (drop (size.to + 1) front))
spanned tags text begin size stop front s =
    let o = s.opened in
    let after = drop (size.to + 1) text in
    let left : length after ≡ length text - (size.to + 1) = length-drop (size.to + 1) text in
    let test : (digits_value 10 o.second.field.value + 7 == length after) ≡ true = eq-eqb (digits_value 10 o.second.field.value + 7) (length after) (ap (λ k. k + 7) (sym o.number_is) ∙ s.right ∙ sym left) in
    let amount : size.to + 1 + (length after - 7) ≡ stop = omega (arith, s.stop_is, s.within) in
    let inside : take (length after - 7) after ≡ drop (size.to + 1) front =
    sym (drop-take (size.to + 1) (length after - 7) text) ∙ ap (λ k. drop (size.to + 1) (take k text)) amount ∙ ap (drop (size.to + 1)) (sym s.front_is) in
    let last : drop (length after - 7) after ≡ drop stop text = drop-drop (length after - 7) (size.to + 1) text ∙ ap (λ k. drop k text) amount in
    begun tags text begin o.first ∙ ap (after_size tags o.first.field) o.second.found ∙ rw (test, inside, last) refl

pub no_kind : (tags : List Pair) (text : List ℕ) (begin size : FixField) (stop : ℕ) (front : List ℕ) → Split text begin size stop front → tagged_read 35 (drop (size.to + 1) front) ≡ None →
    text_read tags text ≡ Err (fault_at code.MsgType (size.to + 1))
no_kind tags text begin size stop front s none =
    spanned tags text begin size stop front s ∙ rw none (ap (λ k. Err (fault_at code.MsgType k)) (sym (body_place text begin size s.number s.opened)))

-- the first three fields, and what was found of the body
pub record Three (text : List ℕ) (begin size kind : FixField) (stop : ℕ) (front : List ℕ) : Type 0 where
  pub split : Split text begin size stop front
  pub third : FoundAt (tagged_read 35) front (size.to + 1) kind

-- their fields
pub three_read : (tags : List Pair) (text : List ℕ) (begin size kind : FixField) (stop : ℕ) (front : List ℕ) (t : Three text begin size kind stop front) →
    text_read tags text ≡ after_body (parts t.split.opened.first.field t.split.opened.second.field t.third.field (drop (kind.to + 1) front) (drop stop text)) (walk tags (suc most_between) Free (kind.to + 1) (drop (kind.to + 1) front))
three_read tags text begin size kind stop front t =
    let next : body_at t.split.opened.first.field t.split.opened.second.field + length (field_bytes t.third.field) ≡ kind.to + 1 =
    omega (arith, body_place text begin size t.split.number t.split.opened, next_place (tagged_read 35) front (size.to + 1) kind t.third) in
    spanned tags text begin size stop front t.split ∙ rw (t.third.found, next) refl

-- ---- what stands before the last field

front_splits : (body stop : ℕ) (text front a b : List ℕ) → front ≡ take stop text → body ≤ stop → text ≡ (a ++ b) ++ drop body text → length (a ++ b) ≡ body → front ≡ a ++ (b ++ drop body front)
front_splits body stop text front a b is within all long =
    let begins : take body front ≡ a ++ b =
    ap (take body) is ∙ take-take body stop text within ∙ ap (take body) all ∙ ap (λ k. take k ((a ++ b) ++ drop body text)) (sym long) ∙ take-append_seam (a ++ b) (drop body text) in
    sym (take-append-drop body front) ∙ ap (λ x. x ++ drop body front) begins ∙ append_assoc a b (drop body front)

front_is : (text : List ℕ) (begin size kind : FixField) (stop : ℕ) (front : List ℕ) (t : Three text begin size kind stop front) →
    front ≡ front_of t.split.opened.first.field t.split.opened.second.field t.third.field (drop (kind.to + 1) front)
front_is text begin size kind stop front t =
    let o = t.split.opened in
    let one = (at_sound 8 text o.first.field (drop (begin.to + 1) text) o.first.found).1 in
    let two = (size_sound (drop (begin.to + 1) text) o.second.field (drop (size.to + 1) text) o.second.found).1 in
    let three = (at_sound 35 (drop (size.to + 1) front) t.third.field (drop (kind.to + 1) front) t.third.found).1 in
    let all : text ≡ (field_bytes o.first.field ++ field_bytes o.second.field) ++ drop (size.to + 1) text =
    one ∙ ap (λ x. field_bytes o.first.field ++ x) two ∙ sym (append_assoc (field_bytes o.first.field) (field_bytes o.second.field) (drop (size.to + 1) text)) in
    let long : length (field_bytes o.first.field ++ field_bytes o.second.field) ≡ size.to + 1 =
    length-append (field_bytes o.first.field) (field_bytes o.second.field) ∙ sym (body_place text begin size t.split.number o) in
    front_splits (size.to + 1) stop text front (field_bytes o.first.field) (field_bytes o.second.field) t.split.front_is t.split.within all long
    ∙ ap (λ x. field_bytes o.first.field ++ (field_bytes o.second.field ++ x)) three

-- ---- the fields of the body

-- a body is its fields' bytes
body_bytes : (tags : List Pair) (owed : Owed) (fs : List Field) (b : List ℕ) → Body tags owed fs b → b ≡ bytes_of fs
body_bytes tags owed [] b h = h.1
body_bytes tags owed (f ∷ fs) b h = h.1 ∙ ap (λ x. field_bytes f ++ x) (body_bytes tags (owed_after tags owed f) fs h.0 h.3)

-- fields in the table, and one more
placed_more : (at : ℕ) (fs : List Field) (g : Field) → placed at (fs ++ (g ∷ [])) ≡ placed at fs ++ (placed_at (at + length (bytes_of fs)) g ∷ [])
placed_more at [] g = ap (λ k. placed_at k g ∷ []) (omega arith)
placed_more at (f ∷ fs) g =
    let next : at + length (field_bytes f) + length (bytes_of fs) ≡ at + length (field_bytes f ++ bytes_of fs) = omega (arith, length-append (field_bytes f) (bytes_of fs)) in
    ap (λ x. placed_at at f ∷ x) (placed_more (at + length (field_bytes f)) fs g ∙ ap (λ k. placed (at + length (field_bytes f)) fs ++ (placed_at k g ∷ [])) next)

-- what went into the table
pub record Walked (tags : List Pair) (begin size kind : FixField) (front : List ℕ) (table : List FixField) : Type 0 where
  pub others : List Field
  pub walk_is : walk tags (suc most_between) Free (kind.to + 1) (drop (kind.to + 1) front) ≡ Ok others
  pub table_is : table ≡ (begin ∷ size ∷ kind ∷ []) ++ placed (kind.to + 1) others

walked_by : (tags : List Pair) (begin size kind : FixField) (front : List ℕ) (table : List FixField) (r : Result (List Field) FixFault) → walk tags (suc most_between) Free (kind.to + 1) (drop (kind.to + 1) front) ≡ r →
    after_table (begin ∷ size ∷ kind ∷ []) (kind.to + 1) r ≡ Ok table → Walked tags begin size kind front table
walked_by tags begin size kind front table (Err e) is h = absurd (ok_not_err (sym h))
walked_by tags begin size kind front table (Ok others) is h = record { others = others; walk_is = is; table_is = sym (ok_is h) }

pub walked : (tags : List Pair) (begin size kind : FixField) (front : List ℕ) (table : List FixField) → filled tags Free (begin ∷ size ∷ kind ∷ []) (kind.to + 1) front ≡ Ok table → Walked tags begin size kind front table
walked tags begin size kind front table h = walked_by tags begin size kind front table (walk tags (suc most_between) Free (kind.to + 1) (drop (kind.to + 1) front)) refl h

fault_by : (tags : List Pair) (begin size kind : FixField) (front : List ℕ) (fault : FixFault) (r : Result (List Field) FixFault) → walk tags (suc most_between) Free (kind.to + 1) (drop (kind.to + 1) front) ≡ r →
    after_table (begin ∷ size ∷ kind ∷ []) (kind.to + 1) r ≡ Err fault → walk tags (suc most_between) Free (kind.to + 1) (drop (kind.to + 1) front) ≡ Err fault
fault_by tags begin size kind front fault (Err e) is h = is ∙ ap Err (err_is h)
fault_by tags begin size kind front fault (Ok others) is h = absurd (ok_not_err h)

-- the body is at fault
pub body_fault : (tags : List Pair) (text : List ℕ) (begin size kind : FixField) (stop : ℕ) (front : List ℕ) (fault : FixFault) → Three text begin size kind stop front →
    filled tags Free (begin ∷ size ∷ kind ∷ []) (kind.to + 1) front ≡ Err fault → text_read tags text ≡ Err fault
body_fault tags text begin size kind stop front fault t h =
    three_read tags text begin size kind stop front t
    ∙ ap (after_body (parts t.split.opened.first.field t.split.opened.second.field t.third.field (drop (kind.to + 1) front) (drop stop text)))
    (fault_by tags begin size kind front fault (walk tags (suc most_between) Free (kind.to + 1) (drop (kind.to + 1) front)) refl h)

-- ---- the last field

ten : decimal 10 ≡ 49 ∷ 48 ∷ []
ten = decimal_step 10 (omega arith) (omega arith) ∙ ap (λ d. d ++ (48 ∷ [])) (decimal_digit 1 (omega arith))

-- the bytes of the last field
pub last_bytes : (n : ℕ) → field_bytes (record { tag = 10; value = three_digits n }) ≡ 49 ∷ 48 ∷ 61 ∷ (48 + n / 100) ∷ (48 + n / 10 % 10) ∷ (48 + n % 10) ∷ 1 ∷ []
last_bytes n = ap (λ d. (d ++ (61 ∷ [])) ++ (three_digits n ++ (soh ∷ []))) ten

last_placed : (stop n : ℕ) → placed_at stop (record { tag = 10; value = three_digits n }) ≡ record { tag = 10; at = stop; from = stop + 3; to = stop + 6 }
last_placed stop n = ap (λ d. record { tag = 10; at = stop; from = stop + length (d ++ (61 ∷ [])); to = stop + length (d ++ (61 ∷ [])) + 3 }) ten ∙ (λ i. record { tag = 10; at = stop; from = stop + 3; to = six i })
  where
    six : stop + 3 + 3 ≡ stop + 6
    six = omega arith

judged : (tags : List Pair) (text : List ℕ) (begin size kind : FixField) (stop : ℕ) (front : List ℕ) (table : List FixField) (t : Three text begin size kind stop front) (w : Walked tags begin size kind front table) →
    text_read tags text ≡ after_body (parts t.split.opened.first.field t.split.opened.second.field t.third.field (drop (kind.to + 1) front) (drop stop text)) (Ok w.others)
judged tags text begin size kind stop front table t w =
    three_read tags text begin size kind stop front t
    ∙ ap (after_body (parts t.split.opened.first.field t.split.opened.second.field t.third.field (drop (kind.to + 1) front) (drop stop text))) w.walk_is

-- the sum is wrong
pub wrong_sum : (tags : List Pair) (text : List ℕ) (begin size kind : FixField) (stop : ℕ) (front : List ℕ) (table : List FixField) (n : ℕ) → Three text begin size kind stop front → Walked tags begin size kind front table →
    n ≡ sum front % 256 → is_sum_field (drop stop text) n ≡ false → text_read tags text ≡ Err (record { code = code.CheckSum; offset = stop; detail = n })
wrong_sum tags text begin size kind stop front table n t w sum_is bad =
    let same = front_is text begin size kind stop front t in
    let sum_too : n ≡ sum_over (front_of t.split.opened.first.field t.split.opened.second.field t.third.field (drop (kind.to + 1) front)) = sum_is ∙ ap sum_over same in
    let place : stop ≡ length (front_of t.split.opened.first.field t.split.opened.second.field t.third.field (drop (kind.to + 1) front)) =
    sym (length-take-le stop text (omega (arith, t.split.stop_is))) ∙ ap length (sym t.split.front_is ∙ same) in
    judged tags text begin size kind stop front table t w ∙ rw (← sum_too, ← place, bad) refl

-- the places of the fields
places : (text : List ℕ) (begin size kind : FixField) (stop : ℕ) (front : List ℕ) (t : Three text begin size kind stop front) (fs : List Field) →
    placed 0 (t.split.opened.first.field ∷ t.split.opened.second.field ∷ t.third.field ∷ fs) ≡ begin ∷ size ∷ kind ∷ placed (kind.to + 1) fs
places text begin size kind stop front t fs =
    let o = t.split.opened in
    let at_size : 0 + length (field_bytes o.first.field) ≡ begin.to + 1 = sym (next_place (tagged_read 8) text 0 begin o.first) in
    let at_kind : 0 + length (field_bytes o.first.field) + length (field_bytes o.second.field) ≡ size.to + 1 = ap (λ k. k + length (field_bytes o.second.field)) at_size ∙ sym (next_place size_read text (begin.to + 1) size o.second) in
    let at_rest : 0 + length (field_bytes o.first.field) + length (field_bytes o.second.field) + length (field_bytes t.third.field) ≡ kind.to + 1 =
    ap (λ k. k + length (field_bytes t.third.field)) at_kind ∙ sym (next_place (tagged_read 35) front (size.to + 1) kind t.third) in
    (λ i. placed_at 0 o.first.field ∷ placed_at (at_size i) o.second.field ∷ placed_at (at_kind i) t.third.field ∷ placed (at_rest i) fs)
    ∙ (λ i. sym o.first.placed_is i ∷ sym o.second.placed_is i ∷ sym t.third.placed_is i ∷ placed (kind.to + 1) fs)

body_ends : (tags : List Pair) (text : List ℕ) (begin size kind : FixField) (stop : ℕ) (front : List ℕ) (table : List FixField) (t : Three text begin size kind stop front) (w : Walked tags begin size kind front table) →
    kind.to + 1 + length (bytes_of w.others) ≡ stop
body_ends tags text begin size kind stop front table t w =
    let body = (walk_sound tags (suc most_between) Free (kind.to + 1) (drop (kind.to + 1) front) w.others w.walk_is).0 in
    let long : length (drop (kind.to + 1) front) ≡ length (bytes_of w.others) = ap length (body_bytes tags Free w.others (drop (kind.to + 1) front) body) in
    let all : length front ≡ stop = ap length t.split.front_is ∙ length-take-le stop text (omega (arith, t.split.stop_is)) in
    omega (arith, length-drop (kind.to + 1) front, t.third.within)

-- the sum is right
pub right_sum : (tags : List Pair) (text : List ℕ) (begin size kind : FixField) (stop : ℕ) (front : List ℕ) (table all : List FixField) (n : ℕ) → Three text begin size kind stop front → Walked tags begin size kind front table →
    n ≡ sum front % 256 → is_sum_field (drop stop text) n ≡ true → all ≡ table ++ (record { tag = 10; at = stop; from = stop + 3; to = stop + 6 } ∷ []) → Read tags text all
right_sum tags text begin size kind stop front table all n t w sum_is good all_is =
    let same = front_is text begin size kind stop front t in
    let before = front_of t.split.opened.first.field t.split.opened.second.field t.third.field (drop (kind.to + 1) front) in
    let sum_too : n ≡ sum_over before = sum_is ∙ ap sum_over same in
    let last : Field = record { tag = 10; value = three_digits n } in
    let fields : List Field = t.split.opened.first.field ∷ t.split.opened.second.field ∷ t.third.field ∷ (w.others ++ (last ∷ [])) in
    record {
      fields = fields;
      is = judged tags text begin size kind stop front table t w ∙ rw (← sum_too, good) refl;
      table_is =
          all_is ∙ ap (λ x. x ++ (record { tag = 10; at = stop; from = stop + 3; to = stop + 6 } ∷ [])) w.table_is
          ∙ ap (λ x. begin ∷ size ∷ kind ∷ (placed (kind.to + 1) w.others ++ (x ∷ []))) (sym (last_placed stop n))
          ∙ ap (λ k. begin ∷ size ∷ kind ∷ (placed (kind.to + 1) w.others ++ (placed_at k last ∷ []))) (sym (body_ends tags text begin size kind stop front table t w))
          ∙ ap (λ x. begin ∷ size ∷ kind ∷ x) (sym (placed_more (kind.to + 1) w.others last))
          ∙ sym (places text begin size kind stop front t (w.others ++ (last ∷ [])));
    }

-- a table of three fields
pub table_of_three : (a b c d : List FixField) (x y z : FixField) → a ≡ [] → b ≡ a ++ (x ∷ []) → c ≡ b ++ (y ∷ []) → d ≡ c ++ (z ∷ []) → d ≡ x ∷ y ∷ z ∷ []
table_of_three a b c d x y z none one two three = three ∙ ap (λ t. t ++ (z ∷ [])) (two ∙ ap (λ t. t ++ (y ∷ [])) (one ∙ ap (λ t. t ++ (x ∷ [])) none))
