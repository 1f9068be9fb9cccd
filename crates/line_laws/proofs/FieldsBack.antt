-- The fields and the data of a block read back.
use Rattle.std.proofs.Common.{◌≡◌, ◌≢◌, ℕ, suc, true, false, List, [], ◌∷◌, ◌++◌, Some, Ok, map, refl, sym, ap, ◌∙◌, arith}
use Rattle.std.specs.List.{AllByRecursion}
use Rattle.std.specs.Str.{IsUtf8, bytes_eq}
use Rattle.std.proofs.lemmas.Bool.{true≢false}
use Rattle.std.proofs.lemmas.Slice.Eq.{bytes_eq-Decides}
use Rattle.json.proofs.Printed.Utf8.{are_ascii, IsUtf8-are_ascii}
use Rattle.serde_json.specs.Data.{object, Members, no_members}
use Rattle.serde_json.specs.Find.{get_member}
use Rattle.sbe_types.specs.declared.kind.Order.{Order}
use Rattle.sbe_types.specs.declared.schema.Field.{Field}
use Rattle.sbe_types.specs.declared.schema.DataField.{DataField}
use Rattle.sbe_types.specs.declared.message.Value.{Value}
use Rattle.sbe_types.specs.declared.message.DataVal.{DataVal}
use Rattle.sbe_types.specs.declared.message.DataVal.TheVariants as dataval
use Rattle.sbe_types.specs.InForm.{IsName}
use Rattle.sbe_wire.specs.Fits.{FieldsFit, PartsFit}
use Rattle.schema_facts.specs.InOrder.{IsKindInOrder}
use Rattle.json_values.specs.Values.{Entry, listed, zipped, value_data}
use Rattle.tree_json.specs.Lines.{field_entry, part_entry}
use Rattle.line_values.specs.Refusals.{Reading, ◌>>=◌, inside}
use Rattle.line_values.specs.Objects.{part}
use Rattle.line_values.specs.Keys.{field_names, data_names}
use Rattle.line_reading.specs.Lines.{fields_read, data_there, parts_read}
use Rattle.line_laws.specs.AsRead.{put_all}
use Rattle.line_laws.specs.Listed.{IsNew, AreDistinct, Finds, AreKnown}
use Rattle.line_laws.specs.ValuesBack.{read_under}
use Rattle.line_laws.specs.LinesBack.{FieldsHaveBytes, PartHasBytes}
use Rattle.line_laws.proofs.Finding.{listed_is_known}
use Rattle.line_laws.proofs.Differ.{IsOther, DoDiffer}
use Rattle.line_laws.proofs.Shown.{IsPrinted, ArePrinted, listed_integers, listed_texts, listed_deep, deeper}
use Rattle.line_laws.proofs.TextBack.{text_back, text_printed, name_text}
use Rattle.line_laws.proofs.KindBack.{named_here, named_more, kind_good}

-- ---- names

pub differ_front : {X : Type 0} (xs ys : List X) → DoDiffer (xs ++ ys) → DoDiffer xs
differ_front [] ys h = tt
differ_front {X} (x ∷ xs) ys h = (front xs h.0, differ_front xs ys h.1)
  where
    front : (xs : List X) → IsOther x (xs ++ ys) → IsOther x xs
    front [] h = tt
    front (y ∷ zs) h = (h.0, front zs h.1)

pub differ_back : {X : Type 0} (xs ys : List X) → DoDiffer (xs ++ ys) → DoDiffer ys
differ_back [] ys h = h
differ_back (x ∷ xs) ys h = differ_back xs ys h.1

pub apart : (a b : List ℕ) → bytes_eq a b ≡ false → a ≢ b
apart a b h e = true≢false (sym ((bytes_eq-Decides a b).1 e) ∙ h)

pub ascii : (s : List ℕ) → are_ascii s ≡ true → IsUtf8 s
ascii s h = IsUtf8-are_ascii s h

-- an object of entries that are printed
pub object_printed : (n : ℕ) (es : List Entry) → ArePrinted n es → IsPrinted (suc n) (Some (object (listed es)))
object_printed n es h = record { integers = listed_integers n es h; texts = listed_texts n es h; deep = omega (arith, listed_deep n es h) }

-- an object inside whose members were listed
pub part_back : (key : List ℕ) (names : List (List ℕ)) (es : List Entry) (ms : Members) → get_member key ms ≡ Some (object (put_all (listed es) no_members)) → AreKnown names es
    → part key names ms ≡ Ok (put_all (listed es) no_members)
part_back key names es ms found h = rw (found, listed_is_known names es h) refl

-- ---- fields

abbrev pub names_of_fields : List Field → List (List ℕ)
names_of_fields fs = map (λ (f : Field). f.name) fs

pub fields_known : (fs : List Field) (vs : List Value) → AreKnown (field_names fs) (zipped field_entry fs vs)
fields_known [] vs = tt
fields_known (f ∷ fs) [] = tt
fields_known (f ∷ fs) (v ∷ vs) = (named_here f.name (field_names fs), named_more f.name (field_names fs) (zipped field_entry fs vs) (fields_known fs vs))

new_field : (name : List ℕ) (fs : List Field) (vs : List Value) → IsOther name (names_of_fields fs) → IsNew name (zipped field_entry fs vs)
new_field name [] vs h = tt
new_field name (f ∷ fs) [] h = tt
new_field name (f ∷ fs) (v ∷ vs) h = (h.0, new_field name fs vs h.1)

pub fields_distinct : (fs : List Field) (vs : List Value) → DoDiffer (names_of_fields fs) → AreDistinct (zipped field_entry fs vs)
fields_distinct [] vs h = tt
fields_distinct (f ∷ fs) [] h = tt
fields_distinct (f ∷ fs) (v ∷ vs) h = (new_field f.name fs vs h.0, fields_distinct fs vs h.1)

pub fields_back : (order : Order) (fs : List Field) (vs : List Value) (ms : Members) → AllByRecursion (λ (f : Field). IsKindInOrder f.kind) fs → FieldsHaveBytes fs vs → FieldsFit order fs vs
    → Finds (zipped field_entry fs vs) ms → fields_read fs ms ≡ Ok vs
unfolding fields_read
fields_back order [] [] ms h bytes fits found = refl
fields_back order [] (v ∷ vs) ms h bytes fits found = absurd fits
fields_back order (f ∷ fs) [] ms h bytes fits found = absurd fits
fields_back order (f ∷ fs) (v ∷ vs) ms h bytes fits found =
    ap (λ o. inside f.name (read_under f.kind o) >>= (λ v. fields_read fs ms >>= (λ vs. Ok (v ∷ vs)))) found.0
    ∙ ap (λ r. inside f.name r >>= (λ v. fields_read fs ms >>= (λ vs. Ok (v ∷ vs)))) (kind_good order 1 f.kind h.0.parts v fits.0.0 fits.0.0 fits.0.1 bytes.0 fits.0.3).read
    ∙ ap (λ r. r >>= (λ vs. Ok (v ∷ vs))) (fields_back order fs vs ms h.1 bytes.1 fits.1 found.1)

pub fields_printed : (order : Order) (fs : List Field) (vs : List Value) → AllByRecursion IsName (names_of_fields fs) → AllByRecursion (λ (f : Field). IsKindInOrder f.kind) fs → FieldsHaveBytes fs vs → FieldsFit order fs vs
    → ArePrinted 5 (zipped field_entry fs vs)
fields_printed order [] vs named h bytes fits = tt
fields_printed order (f ∷ fs) [] named h bytes fits = tt
fields_printed order (f ∷ fs) (v ∷ vs) named h bytes fits =
    let good = kind_good order 1 f.kind h.0.parts v fits.0.0 fits.0.0 fits.0.1 bytes.0 fits.0.3 in
    (name_text f.name named.0, deeper _ 5 (value_data f.kind v) (omega (arith, h.0.within.height)) good.printed, fields_printed order fs vs named.1 h.1 bytes.1 fits.1)

-- ---- data

abbrev pub names_of_parts : List DataField → List (List ℕ)
names_of_parts ps = map (λ (p : DataField). p.name) ps

pub parts_known : (ps : List DataField) (vs : List DataVal) → AreKnown (data_names ps) (zipped part_entry ps vs)
parts_known [] vs = tt
parts_known (p ∷ ps) [] = tt
parts_known (p ∷ ps) (v ∷ vs) = (named_here p.name (data_names ps), named_more p.name (data_names ps) (zipped part_entry ps vs) (parts_known ps vs))

new_part : (name : List ℕ) (ps : List DataField) (vs : List DataVal) → IsOther name (names_of_parts ps) → IsNew name (zipped part_entry ps vs)
new_part name [] vs h = tt
new_part name (p ∷ ps) [] h = tt
new_part name (p ∷ ps) (v ∷ vs) h = (h.0, new_part name ps vs h.1)

pub parts_distinct : (ps : List DataField) (vs : List DataVal) → DoDiffer (names_of_parts ps) → AreDistinct (zipped part_entry ps vs)
parts_distinct [] vs h = tt
parts_distinct (p ∷ ps) [] h = tt
parts_distinct (p ∷ ps) (v ∷ vs) h = (new_part p.name ps vs h.0, parts_distinct ps vs h.1)

pub parts_back : (ps : List DataField) (vs : List DataVal) (ms : Members) → AllByRecursion PartHasBytes vs → PartsFit ps vs → Finds (zipped part_entry ps vs) ms → parts_read ps ms ≡ Ok vs
unfolding parts_read
parts_back [] [] ms bytes fits found = refl
parts_back [] (v ∷ vs) ms bytes fits found = absurd fits
parts_back (p ∷ ps) [] ms bytes fits found = absurd fits
parts_back (p ∷ ps) (dataval.Absent ∷ vs) ms bytes fits found = absurd (let is = fits.0.1 in cc)
parts_back (p ∷ ps) (dataval.Bytes text ∷ vs) ms bytes fits found =
    let next : DataVal → Reading (List DataVal) = λ v. parts_read ps ms >>= (λ vs. Ok (v ∷ vs)) in
    ap (λ o. inside p.name (data_there o) >>= next) found.0
    ∙ ap (λ r. inside p.name (r >>= (λ b. Ok (dataval.Bytes b))) >>= next) (text_back text bytes.0)
    ∙ ap (λ r. r >>= (λ vs. Ok (dataval.Bytes text ∷ vs))) (parts_back ps vs ms bytes.1 fits.1 found.1)

pub parts_printed : (ps : List DataField) (vs : List DataVal) → AllByRecursion IsName (names_of_parts ps) → ArePrinted 5 (zipped part_entry ps vs)
parts_printed [] vs named = tt
parts_printed (p ∷ ps) [] named = tt
parts_printed (p ∷ ps) (dataval.Absent ∷ vs) named = (name_text p.name named.0, record { integers = tt; texts = tt; deep = omega arith }, parts_printed ps vs named.1)
parts_printed (p ∷ ps) (dataval.Bytes text ∷ vs) named = (name_text p.name named.0, deeper 1 5 _ (omega arith) (text_printed text), parts_printed ps vs named.1)
