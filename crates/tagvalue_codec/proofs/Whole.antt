-- A text has one list of fields, or one first fault.
use Rattle.std.proofs.Common.{◌≡◌, ◌≢◌, ◌⊎◌, inl, inr, ℕ, zero, suc, ◌+◌, ◌-◌, ◌≤◌, Bool, true, false, cond, List, [], ◌∷◌, ◌++◌, length, take, drop, Result, Ok, Err, Option, Some, None, refl, sym, ap, ◌∙◌, subst, arith, length-append, length-drop}
use Rattle.std.specs.Prelude.{◌==◌}
use Rattle.std.specs.Str.{bytes_eq}
use Rattle.std.specs.Str.Parse.{digits_value}
use Rattle.std.proofs.lemmas.Bool.{eqb-true, eq-eqb, false≢true, ne_eqb}
use Rattle.std.proofs.Math.Seq.{take-append_seam, drop-append_seam}
use Rattle.std.proofs.lemmas.List.{take-append-drop, length-take-le}
use Rattle.std.proofs.lemmas.Slice.Eq.{bytes_eq-Decides}
use Rattle.tagvalue_codec.specs.declared.data_tags.Pair.{Pair}
use Rattle.tagvalue_codec.specs.declared.read.TCode.{TCode}
use Rattle.tagvalue_codec.specs.declared.read.TCode.TheVariants as code
use Rattle.tagvalue_codec.specs.declared.read.TCode.TheVariants.{FirstTag, BodyLength, LengthWrong, MsgType, CheckSum, Field as NoField, DataLength, TooMany}
use Rattle.tagvalue_codec.specs.declared.read.FixFault.{FixFault}
use Rattle.tagvalue_codec.specs.Fields.{Field, field_bytes, is_number}
use Rattle.tagvalue_codec.specs.Texts.{Owed, Free, Owes, Body, FaultHere, FaultAfter, owed_after, most_between, sum_over, sum_field, IsAt, IsSize, Opens, body_at, Spans, parts, Typed, front_of, front, FixText, BodyFault, FaultOf, IsFirstFault}
use Rattle.tagvalue_codec.specs.Reading.{field_read, tagged_read, size_read, walk, after_body, after_kind, after_size, after_begin, text_read}
use Rattle.tagvalue_codec.proofs.Finding.{field_sound, field_complete, kept_sound, kept_complete}
use Rattle.tagvalue_codec.proofs.Walking.{ok_is, err_is, ok_not_err, lacking, missing, walk_sound, walk_complete, place, walk_told, walk_only}

-- ---- fields at their places

pub at_sound : (tag : ℕ) (b : List ℕ) (f : Field) (rest : List ℕ) → tagged_read tag b ≡ Some (f, rest) → IsAt tag f × (b ≡ field_bytes f ++ rest)
at_sound tag b f rest h =
    let k = kept_sound (λ f. f.tag == tag) (field_read b) f rest h in
    let r = field_sound b f rest k.0 in
    (record { plain = r.0; same = eqb-true f.tag tag k.1 }, r.1)

pub at_complete : (tag : ℕ) (f : Field) (rest : List ℕ) → IsAt tag f → tagged_read tag (field_bytes f ++ rest) ≡ Some (f, rest)
at_complete tag f rest is = kept_complete (λ f. f.tag == tag) (field_read (field_bytes f ++ rest)) f rest (field_complete f rest is.plain) (eq-eqb f.tag tag is.same)

pub size_sound : (b : List ℕ) (f : Field) (rest : List ℕ) → size_read b ≡ Some (f, rest) → IsSize f × (b ≡ field_bytes f ++ rest)
size_sound b f rest h =
    let k = kept_sound (λ f. is_number f.value) (tagged_read 9 b) f rest h in
    let r = at_sound 9 b f rest k.0 in
    (record { at = r.0; digits = k.1 }, r.1)

pub size_complete : (f : Field) (rest : List ℕ) → IsSize f → size_read (field_bytes f ++ rest) ≡ Some (f, rest)
size_complete f rest is = kept_complete (λ f. is_number f.value) (tagged_read 9 (field_bytes f ++ rest)) f rest (at_complete 9 f rest is.at) is.digits

differ : (a b : List ℕ) → a ≢ b → bytes_eq a b ≡ false
differ a b h = by_test (bytes_eq a b) refl where
  by_test : (same : Bool) → bytes_eq a b ≡ same → same ≡ false
  by_test true is = absurd (h ((bytes_eq-Decides a b).0 is))
  by_test false is = refl

-- ---- the first three fields

-- a reader's answer is nothing, or a field at the front
abbrev pub Answer : Type 0
Answer = Option (Field × List ℕ)

-- the body and the last seven bytes
split_last : (n : ℕ) (after : List ℕ) → n + 7 ≡ length after →
    (after ≡ take (length after - 7) after ++ drop (length after - 7) after) × ((length (drop (length after - 7) after) ≡ 7) × (n ≡ length (take (length after - 7) after)))
split_last n after right = (
  sym (take-append-drop (length after - 7) after),
  (omega (arith, length-drop (length after - 7) after), omega (arith, length-take-le (length after - 7) after (omega arith))),
)

-- and back
body_there : (body last : List ℕ) → length last ≡ 7 → (take (length (body ++ last) - 7) (body ++ last) ≡ body) × (drop (length (body ++ last) - 7) (body ++ last) ≡ last)
body_there body last seven =
    let n : length (body ++ last) - 7 ≡ length body = omega (arith, length-append body last) in
    (ap (λ k. take k (body ++ last)) n ∙ take-append_seam body last, ap (λ k. drop k (body ++ last)) n ∙ drop-append_seam body last)

-- ---- what is read are the fields

last_sound : (begin size kind : Field) (rest last : List ℕ) (others fields : List Field) (same : Bool) → bytes_eq last (field_bytes (sum_field (front_of begin size kind rest))) ≡ same →
    cond {A = Result (List Field) FixFault} same (Ok (begin ∷ size ∷ kind ∷ (others ++ (sum_field (front_of begin size kind rest) ∷ []))))
    (Err (record { code = code.CheckSum; offset = length (front_of begin size kind rest); detail = sum_over (front_of begin size kind rest) })) ≡ Ok fields →
    (last ≡ field_bytes (sum_field (front_of begin size kind rest))) × (fields ≡ begin ∷ size ∷ kind ∷ (others ++ (sum_field (front_of begin size kind rest) ∷ [])))
last_sound begin size kind rest last others fields false is h = absurd (ok_not_err (sym h))
last_sound begin size kind rest last others fields true is h = ((bytes_eq-Decides last (field_bytes (sum_field (front_of begin size kind rest)))).0 is, sym (ok_is h))

body_sound : (tags : List Pair) (text : List ℕ) (begin size kind : Field) (rest last : List ℕ) (fields : List Field) (r : Result (List Field) FixFault) (at : ℕ) → walk tags (suc most_between) Free at rest ≡ r →
    Typed text (parts begin size kind rest last) → after_body (parts begin size kind rest last) r ≡ Ok fields → FixText tags fields text
body_sound tags text begin size kind rest last fields (Err e) at is typed h = absurd (ok_not_err (sym h))
body_sound tags text begin size kind rest last fields (Ok others) at is typed h =
    let w = walk_sound tags (suc most_between) Free at rest others is in
    let l = last_sound begin size kind rest last others fields (bytes_eq last (field_bytes (sum_field (front_of begin size kind rest)))) refl h in
    record { parts = parts begin size kind rest last; others = others; typed = typed; body = w.0; few = omega (arith, w.1); sum_is = l.0; fields_are = l.1 }

typed_of : (text : List ℕ) (begin size : Field) (body last : List ℕ) (kind : Field) (rest : List ℕ) → Spans text begin size body last → IsAt 35 kind × (body ≡ field_bytes kind ++ rest) → Typed text (parts begin size kind rest last)
typed_of text begin size body last kind rest spans is = record { spans = subst (λ (x : List ℕ). Spans text begin size x last) is.1 spans; third = is.0 }

kind_sound : (tags : List Pair) (text : List ℕ) (begin size : Field) (body last : List ℕ) (fields : List Field) (o : Answer) → tagged_read 35 body ≡ o →
    Spans text begin size body last → after_kind tags begin size last o ≡ Ok fields → FixText tags fields text
kind_sound tags text begin size body last fields None is spans h = absurd (ok_not_err (sym h))
kind_sound tags text begin size body last fields (Some r) is spans h =
    let at = body_at begin size + length (field_bytes r.0) in
    body_sound tags text begin size r.0 r.1 last fields (walk tags (suc most_between) Free at r.1) at refl (typed_of text begin size body last r.0 r.1 spans (at_sound 35 body r.0 r.1 is)) h

spans_of : (text : List ℕ) (begin size : Field) (after : List ℕ) → Opens text begin size after → digits_value 10 size.value + 7 ≡ length after →
    Spans text begin size (take (length after - 7) after) (drop (length after - 7) after)
spans_of text begin size after opens right =
    let s = split_last (digits_value 10 size.value) after right in
    record { opens = subst (Opens text begin size) s.0 opens; seven = s.1.0; right = s.1.1 }

length_sound : (tags : List Pair) (text : List ℕ) (begin size : Field) (after : List ℕ) (fields : List Field) (same : Bool) → (digits_value 10 size.value + 7 == length after) ≡ same → Opens text begin size after →
    cond {A = Result (List Field) FixFault} same (after_kind tags begin size (drop (length after - 7) after) (tagged_read 35 (take (length after - 7) after)))
    (Err (record { code = code.LengthWrong; offset = length (field_bytes begin); detail = length after - 7 })) ≡ Ok fields → FixText tags fields text
length_sound tags text begin size after fields false is opens h = absurd (ok_not_err (sym h))
length_sound tags text begin size after fields true is opens h =
    kind_sound tags text begin size (take (length after - 7) after) (drop (length after - 7) after) fields (tagged_read 35 (take (length after - 7) after)) refl
    (spans_of text begin size after opens (eqb-true (digits_value 10 size.value + 7) (length after) is)) h

opens_of : (text : List ℕ) (begin : Field) (after : List ℕ) (size : Field) (rest : List ℕ) → IsAt 8 begin × (text ≡ field_bytes begin ++ after) → IsSize size × (after ≡ field_bytes size ++ rest) → Opens text begin size rest
opens_of text begin after size rest first second = record { text_is = first.1 ∙ ap (λ x. field_bytes begin ++ x) second.1; first = first.0; second = second.0 }

size_found : (tags : List Pair) (text : List ℕ) (begin : Field) (after : List ℕ) (fields : List Field) (o : Answer) → size_read after ≡ o → IsAt 8 begin × (text ≡ field_bytes begin ++ after) →
    after_size tags begin o ≡ Ok fields → FixText tags fields text
size_found tags text begin after fields None is first h = absurd (ok_not_err (sym h))
size_found tags text begin after fields (Some r) is first h =
    length_sound tags text begin r.0 r.1 fields (digits_value 10 r.0.value + 7 == length r.1) refl (opens_of text begin after r.0 r.1 first (size_sound after r.0 r.1 is)) h

begin_found : (tags : List Pair) (text : List ℕ) (fields : List Field) (o : Answer) → tagged_read 8 text ≡ o → after_begin tags o ≡ Ok fields → FixText tags fields text
begin_found tags text fields None is h = absurd (ok_not_err (sym h))
begin_found tags text fields (Some r) is h = size_found tags text r.0 r.1 fields (size_read r.1) refl (at_sound 8 text r.0 r.1 is) h

pub text_sound : (tags : List Pair) (text : List ℕ) (fields : List Field) → text_read tags text ≡ Ok fields → FixText tags fields text
unfolding text_read
text_sound tags text fields h = begin_found tags text fields (tagged_read 8 text) refl h

-- ---- what is a text is read

-- as far as the fields 8 and 9
pub opens_read : (tags : List Pair) (text : List ℕ) (begin size : Field) (after : List ℕ) → Opens text begin size after → text_read tags text ≡ after_size tags begin (Some (size, after))
unfolding text_read
opens_read tags text begin size after opens =
    ap (λ t. after_begin tags (tagged_read 8 t)) opens.text_is
    ∙ rw (at_complete 8 begin (field_bytes size ++ after) opens.first, size_complete size after opens.second) refl

-- as far as the body
pub spans_read : (tags : List Pair) (text : List ℕ) (begin size : Field) (body last : List ℕ) → Spans text begin size body last → text_read tags text ≡ after_kind tags begin size last (tagged_read 35 body)
spans_read tags text begin size body last spans =
    let there = body_there body last spans.seven in
    let same : (digits_value 10 size.value + 7 == length (body ++ last)) ≡ true = eq-eqb (digits_value 10 size.value + 7) (length (body ++ last)) (omega (arith, spans.right, spans.seven, length-append body last)) in
    opens_read tags text begin size (body ++ last) spans.opens ∙ rw (same, there.0, there.1) refl

-- as far as the type
pub typed_read : (tags : List Pair) (text : List ℕ) (begin size kind : Field) (rest last : List ℕ) → Typed text (parts begin size kind rest last) →
    text_read tags text ≡ after_body (parts begin size kind rest last) (walk tags (suc most_between) Free (body_at begin size + length (field_bytes kind)) rest)
typed_read tags text begin size kind rest last typed =
    spans_read tags text begin size (field_bytes kind ++ rest) last typed.spans ∙ ap (after_kind tags begin size last) (at_complete 35 kind rest typed.third)

pub text_complete : (tags : List Pair) (text : List ℕ) (fields : List Field) → FixText tags fields text → text_read tags text ≡ Ok fields
text_complete tags text fields t =
    let p = t.parts in
    let same = (bytes_eq-Decides p.last (field_bytes (sum_field (front p)))).1 t.sum_is in
    typed_read tags text p.begin p.size p.kind p.rest p.last t.typed
    ∙ ap (after_body p) (walk_complete tags (suc most_between) Free (body_at p.begin p.size + length (field_bytes p.kind)) p.rest t.others t.body (omega (arith, t.few)))
    ∙ rw same (ap Ok (sym t.fields_are))

-- ---- a fault that is told is the first one

-- a fault of a body has one of three codes
abbrev pub IsBodyCode : TCode → Type 0
IsBodyCode c = (c ≡ NoField) ⊎ (c ≡ DataLength) ⊎ (c ≡ TooMany)

here_code : (tags : List Pair) (room : ℕ) (owed : Owed) (b : List ℕ) (c : TCode) → FaultHere tags room owed b c → IsBodyCode c
here_code tags zero owed b c h = inr (inr h)
here_code tags (suc room) Free b c h = elim h.1 [ inl e ↦ inl e.0 | inr e ↦ inr (inl e.0) ]
here_code tags (suc room) (Owes tag many) b c h = inr (inl h.0)

later_code : (tags : List Pair) (room : ℕ) (owed : Owed) (at : ℕ) (good : List Field) (b : List ℕ) (fault : FixFault) → FaultAfter tags (place room owed at) good b fault → IsBodyCode fault.code
later_code tags room owed at [] b fault h = here_code tags room owed b fault.code h.0
later_code tags zero owed at (f ∷ good) b fault h = absurd (omega (arith, h.0))
later_code tags (suc room) owed at (f ∷ good) b fault h = later_code tags room (owed_after tags owed f) (at + length (field_bytes f)) good h.1 fault h.4

body_fault : (tags : List Pair) (text : List ℕ) (c : TCode) (offset detail : ℕ) → IsBodyCode c → BodyFault tags text c offset detail → FaultOf tags text c offset detail
body_fault tags text c offset detail (inl e) h = subst (λ (k : TCode). FaultOf tags text k offset detail) (sym e) (subst (λ (k : TCode). BodyFault tags text k offset detail) e h)
body_fault tags text c offset detail (inr (inl e)) h = subst (λ (k : TCode). FaultOf tags text k offset detail) (sym e) (subst (λ (k : TCode). BodyFault tags text k offset detail) e h)
body_fault tags text c offset detail (inr (inr e)) h = subst (λ (k : TCode). FaultOf tags text k offset detail) (sym e) (subst (λ (k : TCode). BodyFault tags text k offset detail) e h)

last_told : (tags : List Pair) (text : List ℕ) (begin size kind : Field) (rest last : List ℕ) (others : List Field) (fault : FixFault) (same : Bool) →
    bytes_eq last (field_bytes (sum_field (front_of begin size kind rest))) ≡ same → Typed text (parts begin size kind rest last) → Body tags Free others rest → length others ≤ most_between →
    cond {A = Result (List Field) FixFault} same (Ok (begin ∷ size ∷ kind ∷ (others ++ (sum_field (front_of begin size kind rest) ∷ []))))
    (Err (record { code = code.CheckSum; offset = length (front_of begin size kind rest); detail = sum_over (front_of begin size kind rest) })) ≡ Err fault → IsFirstFault tags text fault
last_told tags text begin size kind rest last others fault true is typed body few h = absurd (ok_not_err h)
last_told tags text begin size kind rest last others fault false is typed body few h =
    let other : last ≢ field_bytes (sum_field (front_of begin size kind rest)) = λ e. false≢true (sym is ∙ (bytes_eq-Decides last (field_bytes (sum_field (front_of begin size kind rest)))).1 e) in
    subst (IsFirstFault tags text) (err_is h) (parts begin size kind rest last, others, typed, body, few, other, refl, refl)

body_told : (tags : List Pair) (text : List ℕ) (begin size kind : Field) (rest last : List ℕ) (fault : FixFault) (r : Result (List Field) FixFault) →
    walk tags (suc most_between) Free (body_at begin size + length (field_bytes kind)) rest ≡ r →
    Typed text (parts begin size kind rest last) → after_body (parts begin size kind rest last) r ≡ Err fault → IsFirstFault tags text fault
body_told tags text begin size kind rest last fault (Err e) is typed h =
    let t = walk_told tags (suc most_between) Free (body_at begin size + length (field_bytes kind)) rest e is in
    subst (IsFirstFault tags text) (err_is h)
    (body_fault tags text e.code e.offset e.detail (later_code tags (suc most_between) Free (body_at begin size + length (field_bytes kind)) t.good rest e t.is) (parts begin size kind rest last, t.good, typed, t.is))
body_told tags text begin size kind rest last fault (Ok others) is typed h =
    let w = walk_sound tags (suc most_between) Free (body_at begin size + length (field_bytes kind)) rest others is in
    last_told tags text begin size kind rest last others fault (bytes_eq last (field_bytes (sum_field (front_of begin size kind rest)))) refl typed w.0 (omega (arith, w.1)) h

kind_told : (tags : List Pair) (text : List ℕ) (begin size : Field) (body last : List ℕ) (fault : FixFault) (o : Answer) → tagged_read 35 body ≡ o →
    Spans text begin size body last → after_kind tags begin size last o ≡ Err fault → IsFirstFault tags text fault
kind_told tags text begin size body last fault None is spans h =
    subst (IsFirstFault tags text) (err_is h) (begin, size, body, last, spans, lacking (IsAt 35) body (tagged_read 35) (at_complete 35) is, refl, refl)
kind_told tags text begin size body last fault (Some r) is spans h =
    body_told tags text begin size r.0 r.1 last fault (walk tags (suc most_between) Free (body_at begin size + length (field_bytes r.0)) r.1) refl
    (typed_of text begin size body last r.0 r.1 spans (at_sound 35 body r.0 r.1 is)) h

length_told : (tags : List Pair) (text : List ℕ) (begin size : Field) (after : List ℕ) (fault : FixFault) (same : Bool) → (digits_value 10 size.value + 7 == length after) ≡ same → Opens text begin size after →
    cond {A = Result (List Field) FixFault} same (after_kind tags begin size (drop (length after - 7) after) (tagged_read 35 (take (length after - 7) after)))
    (Err (record { code = code.LengthWrong; offset = length (field_bytes begin); detail = length after - 7 })) ≡ Err fault → IsFirstFault tags text fault
length_told tags text begin size after fault false is opens h =
    subst (IsFirstFault tags text) (err_is h) (begin, size, after, opens, (λ e. false≢true (sym is ∙ eq-eqb _ _ e)), refl, refl)
length_told tags text begin size after fault true is opens h =
    kind_told tags text begin size (take (length after - 7) after) (drop (length after - 7) after) fault (tagged_read 35 (take (length after - 7) after)) refl
    (spans_of text begin size after opens (eqb-true (digits_value 10 size.value + 7) (length after) is)) h

size_told : (tags : List Pair) (text : List ℕ) (begin : Field) (after : List ℕ) (fault : FixFault) (o : Answer) → size_read after ≡ o → IsAt 8 begin × (text ≡ field_bytes begin ++ after) →
    after_size tags begin o ≡ Err fault → IsFirstFault tags text fault
size_told tags text begin after fault None is first h =
    subst (IsFirstFault tags text) (err_is h) (begin, after, first.1, first.0, lacking IsSize after size_read size_complete is, refl, refl)
size_told tags text begin after fault (Some r) is first h =
    length_told tags text begin r.0 r.1 fault (digits_value 10 r.0.value + 7 == length r.1) refl (opens_of text begin after r.0 r.1 first (size_sound after r.0 r.1 is)) h

begin_told : (tags : List Pair) (text : List ℕ) (fault : FixFault) (o : Answer) → tagged_read 8 text ≡ o → after_begin tags o ≡ Err fault → IsFirstFault tags text fault
begin_told tags text fault None is h = subst (IsFirstFault tags text) (err_is h) (lacking (IsAt 8) text (tagged_read 8) (at_complete 8) is, refl, refl)
begin_told tags text fault (Some r) is h = size_told tags text r.0 r.1 fault (size_read r.1) refl (at_sound 8 text r.0 r.1 is) h

pub text_told : (tags : List Pair) (text : List ℕ) (fault : FixFault) → text_read tags text ≡ Err fault → IsFirstFault tags text fault
unfolding text_read
text_told tags text fault h = begin_told tags text fault (tagged_read 8 text) refl h

-- ---- the first fault is told

-- a fault by its parts
abbrev pub fault_of : TCode → ℕ → ℕ → FixFault
fault_of c offset detail = record { code = c; offset = offset; detail = detail }

body_only : (tags : List Pair) (text : List ℕ) (c : TCode) (offset detail : ℕ) → BodyFault tags text c offset detail → text_read tags text ≡ Err (fault_of c offset detail)
body_only tags text c offset detail h =
    typed_read tags text h.0.begin h.0.size h.0.kind h.0.rest h.0.last h.2
    ∙ ap (after_body h.0) (walk_only tags (suc most_between) Free (body_at h.0.begin h.0.size + length (field_bytes h.0.kind)) h.1 h.0.rest (fault_of c offset detail) h.3)

parts_only : (tags : List Pair) (text : List ℕ) (c : TCode) (offset detail : ℕ) → FaultOf tags text c offset detail → text_read tags text ≡ Err (fault_of c offset detail)
unfolding text_read
parts_only tags text FirstTag offset detail h = rw (missing (IsAt 8) text (tagged_read 8 text) (at_sound 8 text) h.0, h.1, h.2) refl
parts_only tags text BodyLength offset detail h =
    ap (λ t. after_begin tags (tagged_read 8 t)) h.2
    ∙ rw (at_complete 8 h.0 h.1 h.3, missing IsSize h.1 (size_read h.1) (size_sound h.1) h.4, h.5, h.6) refl
parts_only tags text LengthWrong offset detail h =
    let other : (digits_value 10 h.1.value + 7 == length h.2) ≡ false = ne_eqb (digits_value 10 h.1.value + 7) (length h.2) h.4 in
    opens_read tags text h.0 h.1 h.2 h.3 ∙ rw (other, h.5, h.6) refl
parts_only tags text MsgType offset detail h =
    spans_read tags text h.0 h.1 h.2 h.3 h.4 ∙ rw (missing (IsAt 35) h.2 (tagged_read 35 h.2) (at_sound 35 h.2) h.5, h.6, h.7) refl
parts_only tags text NoField offset detail h = body_only tags text NoField offset detail h
parts_only tags text DataLength offset detail h = body_only tags text DataLength offset detail h
parts_only tags text TooMany offset detail h = body_only tags text TooMany offset detail h
parts_only tags text CheckSum offset detail h =
    let other : bytes_eq h.0.last (field_bytes (sum_field (front h.0))) ≡ false = differ h.0.last (field_bytes (sum_field (front h.0))) h.5 in
    typed_read tags text h.0.begin h.0.size h.0.kind h.0.rest h.0.last h.2
    ∙ ap (after_body h.0) (walk_complete tags (suc most_between) Free (body_at h.0.begin h.0.size + length (field_bytes h.0.kind)) h.0.rest h.1 h.3 (omega (arith, h.4)))
    ∙ rw (other, h.6, h.7) refl

pub text_only : (tags : List Pair) (text : List ℕ) (fault : FixFault) → IsFirstFault tags text fault → text_read tags text ≡ Err fault
text_only tags text fault h = parts_only tags text fault.code fault.offset fault.detail h

-- ---- the laws

pub one_text : (tags : List Pair) (text : List ℕ) (f g : List Field) → FixText tags f text → FixText tags g text → f ≡ g
one_text tags text f g a b = ok_is (sym (text_complete tags text f a) ∙ text_complete tags text g b)

pub one_fault : (tags : List Pair) (text : List ℕ) (f g : FixFault) → IsFirstFault tags text f → IsFirstFault tags text g → f ≡ g
one_fault tags text f g a b = err_is (sym (text_only tags text f a) ∙ text_only tags text g b)

pub not_both : (tags : List Pair) (text : List ℕ) (fields : List Field) (fault : FixFault) → FixText tags fields text → ¬ (IsFirstFault tags text fault)
not_both tags text fields fault a b = ok_not_err (sym (text_complete tags text fields a) ∙ text_only tags text fault b)

either : (tags : List Pair) (text : List ℕ) (r : Result (List Field) FixFault) → text_read tags text ≡ r → ((fields : List Field) × FixText tags fields text) ⊎ ((fault : FixFault) × IsFirstFault tags text fault)
either tags text (Ok fields) is = inl (fields, text_sound tags text fields is)
either tags text (Err fault) is = inr (fault, text_told tags text fault is)

pub text_or_fault : (tags : List Pair) (text : List ℕ) → ((fields : List Field) × FixText tags fields text) ⊎ ((fault : FixFault) × IsFirstFault tags text fault)
text_or_fault tags text = either tags text (text_read tags text) refl
