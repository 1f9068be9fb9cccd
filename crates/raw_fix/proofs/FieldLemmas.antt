-- The texts of a stream are those of some fields, and each is as long as it says.
use Rattle.std.proofs.Common.{◌≡◌, ℕ, true, false, List, [], ◌∷◌, ◌++◌, length, Result, Ok, Err, refl, sym, ap, ◌∙◌, arith, append_assoc, length-append}
use Rattle.std.specs.Prelude.{decimal}
use Rattle.std.specs.Result.{is_ok}
use Rattle.std.proofs.lemmas.Fmt.{decimal_digit}
use Rattle.tagvalue_codec.specs.declared.data_tags.Pair.{Pair}
use Rattle.tagvalue_codec.specs.declared.table.FixField.{FixField}
use Rattle.tagvalue_codec.specs.declared.read.FixFault.{FixFault}
use Rattle.tagvalue_codec.specs.Fields.{soh, Field, field_bytes, tag_bytes}
use Rattle.tagvalue_codec.specs.Texts.{FixText, IsFirstFault}
use Rattle.tagvalue_codec.specs.Reading.{text_read}
use Rattle.tagvalue_codec.specs.Places.{Holds}
use Rattle.tagvalue_codec.proofs.Whole.{text_sound, text_complete, text_only}
use Rattle.raw_fix.specs.Claims.{Opening, opening_bytes, field_of}
use Rattle.raw_fix.specs.Fields.{is_fix, fix_texts}
use Rattle.raw_fix.specs.Raw.{AreSized, IsSized}

pub fix_text : (tags : List Pair) (text : List ℕ) (fields : List Field) → FixText tags fields text → is_fix tags text ≡ true
fix_text tags text fields is = ap is_ok (text_complete tags text fields is)

read_fields : (tags : List Pair) (text : List ℕ) (r : Result (List Field) FixFault) → text_read tags text ≡ r → is_ok r ≡ true → (fields : List Field) × FixText tags fields text
read_fields tags text (Ok fields) told holds = (fields, text_sound tags text fields told)
read_fields tags text (Err fault) told holds = cc

pub fix_fields : (tags : List Pair) (text : List ℕ) → is_fix tags text ≡ true → (fields : List Field) × FixText tags fields text
fix_fields tags text holds = read_fields tags text (text_read tags text) refl holds

-- ---- what read_fix tells

pub is_read : (tags : List Pair) (text : List ℕ) (table : List FixField) → Holds tags text table → true ≡ is_fix tags text
is_read tags text table h = sym (fix_text tags text h.fields h.is)

pub is_refused : (tags : List Pair) (text : List ℕ) (fault : FixFault) → IsFirstFault tags text fault → false ≡ is_fix tags text
is_refused tags text fault h = sym (ap is_ok (text_only tags text fault h))

-- no bytes are no text
pub none_left : (tags : List Pair) (table : List FixField) → Holds tags [] table → table ≡ []
none_left tags table h =
    let p = h.is.parts in
    let begin = p.begin in
    let rest = field_bytes p.size ++ ((field_bytes p.kind ++ p.rest) ++ p.last) in
    let all : [] ≡ field_bytes begin ++ rest = h.is.typed.spans.opens.text_is in
    absurd (omega (arith, ap length all, length-append (field_bytes begin) rest, length-append (tag_bytes begin.tag) (begin.value ++ (soh ∷ [])), length-append begin.value (soh ∷ [])))

-- ---- how long a text is

eight : decimal 8 ≡ 56 ∷ []
eight = decimal_digit 8 (omega arith)

nine : decimal 9 ≡ 57 ∷ []
nine = decimal_digit 9 (omega arith)

-- a field whose tag has this one digit
laid_as : (tag digit : ℕ) → decimal tag ≡ digit ∷ [] → (f : Field) (rest : List ℕ) → f.tag ≡ tag → field_bytes f ++ rest ≡ field_of digit f.value ++ (soh ∷ rest)
laid_as tag digit shown f rest is =
    ap (λ d. ((d ++ (61 ∷ [])) ++ (f.value ++ (soh ∷ []))) ++ rest) (ap decimal is ∙ shown) ∙ ap (λ x. digit ∷ (61 ∷ x)) (append_assoc f.value (soh ∷ []) rest)

opening_laid : (o : Opening) (more : List ℕ) → opening_bytes o ++ more ≡ field_of 56 o.value ++ (soh ∷ (field_of 57 o.digits ++ (soh ∷ more)))
opening_laid o more =
    append_assoc (field_of 56 o.value) (soh ∷ (field_of 57 o.digits ++ (soh ∷ []))) more ∙ ap (λ x. field_of 56 o.value ++ (soh ∷ x)) (append_assoc (field_of 57 o.digits) (soh ∷ []) more)

fix_sized : (tags : List Pair) (text : List ℕ) (fields : List Field) → FixText tags fields text → IsSized text
fix_sized tags text fields is =
    let p = is.parts in
    let spans = is.typed.spans in
    let opens = spans.opens in
    let body = field_bytes p.kind ++ p.rest in
    let more = body ++ p.last in
    let o : Opening = record { value = p.begin.value; digits = p.size.value } in
    let laid : text ≡ field_of 56 p.begin.value ++ (soh ∷ (field_of 57 p.size.value ++ (soh ∷ more))) =
    opens.text_is ∙ laid_as 8 56 eight p.begin (field_bytes p.size ++ more) opens.first.same ∙ ap (λ x. field_of 56 p.begin.value ++ (soh ∷ x)) (laid_as 9 57 nine p.size more opens.second.at.same) in
    let begins : text ≡ opening_bytes o ++ more = laid ∙ sym (opening_laid o more) in
    record {
      opening = o;
      more = more;
      opens = record { some = opens.first.plain.some; plain = opens.first.plain.plain; size = opens.second.digits };
      begins = begins;
      counts = omega (arith, ap length begins, length-append (opening_bytes o) more, length-append body p.last, spans.seven, spans.right);
    }

pub fix_are_sized : (tags : List Pair) (most : ℕ) → AreSized (fix_texts tags most)
fix_are_sized tags most = λ text holds. let fields = fix_fields tags text holds in fix_sized tags text fields.0 fields.1
