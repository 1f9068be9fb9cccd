-- The fields of a message, in the order of the structure. Own profile.
use Rattle.std.specs.Prelude.{ℕ, Bool, true, false, if◌then◌else◌, List, [], ◌∷◌, ◌++◌, length, ◌==◌, Option, Some, None, Result, Ok, Err, flat_map}
use Rattle.std.specs.Fmt.{decimal}
use Rattle.sbe_types.specs.declared.message.Value.{Value}
use Rattle.fix_values.specs.declared.rule.V.{V}
use Rattle.bridge_rules.specs.Texts.{text_by}
use Rattle.bridge_terms.specs.Plans.{Plan, Tree, done, single, group}
use Rattle.tagvalue_codec.specs.Fields.{Field}
use Rattle.bridge_terms.specs.Parts.{Part, TagLists, fields_in}

-- why a message has no fields: a value doesn't have a text, or an entry doesn't begin with its delimiter
pub data Unwritable : Type 0 where
  no_text_at : ℕ → V → Unwritable
  no_delimiter_at : ℕ → Unwritable

-- the items of one answer before those of another; a refusal stays
abbrev pub join_answers : {X : Type 0} → Result (List X) Unwritable → Result (List X) Unwritable → Result (List X) Unwritable
join_answers (Err u) ys = Err u
join_answers (Ok xs) (Err u) = Err u
join_answers (Ok xs) (Ok ys) = Ok (xs ++ ys)

-- the part of a field or data part, if its value gives a field
abbrev pub slot_part : ℕ → Result (Option (List ℕ)) V → Result (List Part) Unwritable
slot_part tag (Err v) = Err (no_text_at tag v)
slot_part tag (Ok None) = Ok []
slot_part tag (Ok (Some t)) = Ok (record { tag = tag; text = t; run = [] } ∷ [])

-- the value gives a field, or would if it had a text
abbrev pub gives_field : Result (Option (List ℕ)) V → Bool
gives_field (Ok None) = false
gives_field (Ok (Some t)) = true
gives_field (Err v) = true

-- an entry begins with a field
abbrev pub begins : (p : Plan) → Tree Value p → Bool
begins done e = false
begins (single s rest) e = gives_field (text_by s.rule e.0)
begins (group g inner rest) e = false

-- the fields of the entries, in order
abbrev pub entry_fields : {X : Type 0} → (X → Result (List Field) Unwritable) → List X → Result (List Field) Unwritable
entry_fields entry [] = Ok []
entry_fields entry (e ∷ es) = join_answers (entry e) (entry_fields entry es)

-- a count field with the run after it
abbrev pub count_part : ℕ → ℕ → Result (List Field) Unwritable → Result (List Part) Unwritable
count_part tag n (Err u) = Err u
count_part tag n (Ok run) = Ok (record { tag = tag; text = decimal n; run = run } ∷ [])

-- the part of a group, if it has entries
abbrev pub group_part : {X : Type 0} → ℕ → (X → Result (List Field) Unwritable) → List X → Result (List Part) Unwritable
group_part tag entry [] = Ok []
group_part tag entry (e ∷ es) = count_part tag (length (e ∷ es)) (entry_fields entry (e ∷ es))

-- the fields of parts
abbrev pub answer_fields : Result (List Part) Unwritable → Result (List Field) Unwritable
answer_fields (Err u) = Err u
answer_fields (Ok parts) = Ok (fields_in parts)

-- an entry's fields, if it begins with its delimiter
abbrev pub if_begun : ℕ → Bool → Result (List Field) Unwritable → Result (List Field) Unwritable
if_begun tag begun fields = if begun then fields else Err (no_delimiter_at tag)

-- the parts of a level
abbrev pub message_parts : (p : Plan) → Tree Value p → Result (List Part) Unwritable
message_parts done t = Ok []
message_parts (single s rest) t = join_answers (slot_part s.tag (text_by s.rule t.0)) (message_parts rest t.1)
message_parts (group g inner rest) t =
    join_answers (group_part g.tag (λ e. if_begun g.tag (begins inner e) (answer_fields (message_parts inner e))) t.0) (message_parts rest t.1)

-- the fields of a message, without length fields
abbrev pub fields_of : (p : Plan) → Tree Value p → Result (List Field) Unwritable
fields_of p t = answer_fields (message_parts p t)

-- ---- length fields

-- the tag of a data field's length field, if it has one
abbrev pub length_in : ℕ → List (ℕ × ℕ) → Option ℕ
length_in tag [] = None
length_in tag (pair ∷ pairs) = if pair.1 == tag then Some pair.0 else length_in tag pairs

-- a data field with its length field, if it has one, directly before it
abbrev pub after_length : Option ℕ → Field → List Field
after_length None f = f ∷ []
after_length (Some tag) f = record { tag = tag; value = decimal (length f.value) } ∷ f ∷ []

-- fields, with the length field of each data field before it
abbrev pub with_lengths : TagLists → List Field → List Field
with_lengths lists fields = flat_map (λ f. after_length (length_in f.tag lists.lengths) f) fields
