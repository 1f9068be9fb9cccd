-- The definitions as a program: the fields that a text is, or its first fault. Own profile.
use Rattle.std.specs.Prelude.{ℕ, zero, suc, ◌+◌, ◌-◌, ◌*◌, nat_lt, nat_le, Bool, true, false, not, ◌&&◌, ◌==◌, if◌then◌else◌, Option, Some, None, Result, Ok, Err, List, [], ◌∷◌, ◌++◌, length, take, drop, slice_index}
use Rattle.std.specs.Option.{ok_or}
use Rattle.std.specs.Str.Parse.{digits_value}
use Rattle.std.specs.Char.{is_ascii_digit}
use Rattle.std.specs.Str.{bytes_eq}
use Rattle.tagvalue_codec.specs.declared.data_tags.Pair.{Pair}
use Rattle.tagvalue_codec.specs.declared.data_tags.Role.{Role}
use Rattle.tagvalue_codec.specs.declared.data_tags.Role.TheVariants.{Plain, Length, Data}
use Rattle.tagvalue_codec.specs.declared.table.FixField.{FixField}
use Rattle.tagvalue_codec.specs.declared.read.TCode.{TCode}
use Rattle.tagvalue_codec.specs.declared.read.TCode.TheVariants as code
use Rattle.tagvalue_codec.specs.declared.read.FixFault.{FixFault}
use Rattle.tagvalue_codec.specs.Fields.{soh, Field, tag_bytes, field_bytes, is_number}
use Rattle.tagvalue_codec.specs.Pairs.{role_of}
use Rattle.tagvalue_codec.specs.Texts.{Owed, Free, Owes, is_locked, owed_after, most_between, sum_over, sum_field, body_at, Parts, parts, front}

-- a value at the front of some bytes and the bytes after it, if there is one
abbrev pub Finder : Type 0 → Type 0
Finder X = List ℕ → Option (X × List ℕ)

-- the tag whose digits continue those of n
abbrev pub tag_after : ℕ → Finder ℕ
tag_after n [] = None
tag_after n (c ∷ b) =
    if is_ascii_digit c then (if nat_lt n 100000000 then tag_after (n * 10 + (c - 48)) b else None)
    else if c == 61 then Some (n, b) else None

-- a tag and its =
abbrev pub tag_read : Finder ℕ
tag_read [] = None
tag_read (c ∷ b) = if nat_lt 48 c && nat_le c 57 then tag_after (c - 48) b else None

-- how many bytes precede the first SOH
abbrev pub plain_len : List ℕ → ℕ
plain_len [] = 0
plain_len (c ∷ b) = if c == soh then 0 else suc (plain_len b)

-- `many` bytes, if SOH follows them
abbrev pub exact_read : ℕ → Finder (List ℕ)
exact_read many b = if nat_lt many (length b) && (slice_index b many == soh) then Some (take many b, drop (suc many) b) else None

-- a value without SOH, and the SOH after it
abbrev pub value_read : Finder (List ℕ)
value_read b = if nat_lt 0 (plain_len b) then exact_read (plain_len b) b else None

-- a field with this tag and the value after it
abbrev pub with_tag : ℕ → Option (List ℕ × List ℕ) → Option (Field × List ℕ)
with_tag tag None = None
with_tag tag (Some v) = Some (record { tag = tag; value = v.0 }, v.1)

-- the same if the tag is still to be read
abbrev pub with_value : Finder (List ℕ) → Option (ℕ × List ℕ) → Option (Field × List ℕ)
with_value p None = None
with_value p (Some t) = with_tag t.0 (p t.1)

-- a field whose value has no SOH
abbrev pub field_read : Finder Field
field_read b = with_value value_read (tag_read b)

-- a field, if the test holds
abbrev pub kept_if : (Field → Bool) → Option (Field × List ℕ) → Option (Field × List ℕ)
kept_if test None = None
kept_if test (Some r) = if test r.0 then Some r else None

-- a field with this tag
abbrev pub tagged_read : ℕ → Finder Field
tagged_read tag b = kept_if (λ f. f.tag == tag) (field_read b)

-- a field 9 of 1 to 9 digits
abbrev pub size_read : Finder Field
size_read b = kept_if (λ f. is_number f.value) (tagged_read 9 b)

-- a field that isn't locked
abbrev pub ordinary_read : Finder Field
ordinary_read b = kept_if (λ f. not (is_locked f.tag)) (field_read b)

-- a data field with this tag and a value of `many` bytes
abbrev pub data_read : ℕ → ℕ → Finder Field
data_read tag many b = kept_if (λ f. f.tag == tag) (with_value (exact_read many) (tag_read b))

-- ---- the fields of a body

-- the tag is this one
abbrev pub is_tag : ℕ → Option (ℕ × List ℕ) → Bool
is_tag tag None = false
is_tag tag (Some t) = t.0 == tag

-- 1 to 9 digits whose number is above zero
abbrev pub is_count : List ℕ → Bool
is_count value = is_number value && nat_lt 0 (digits_value 10 value)

-- whether a field with this role may be before these bytes
abbrev pub fits_role : Role → Field → List ℕ → Bool
fits_role Plain f after = true
fits_role (Length tag) f after = is_count f.value && is_tag tag (tag_read after)
fits_role Data f after = false

-- a field that may be here, or why not
abbrev pub fitting : List Pair → Option (Field × List ℕ) → Result (Field × List ℕ) TCode
fitting tags None = Err code.Field
fitting tags (Some r) = if fits_role (role_of tags r.0.tag) r.0 r.1 then Ok r else Err code.DataLength

-- the field that is here, or why there is none
abbrev pub step : List Pair → Owed → List ℕ → Result (Field × List ℕ) TCode
step tags Free b = fitting tags (ordinary_read b)
step tags (Owes tag many) b = ok_or (data_read tag many b) code.DataLength

-- a fault without a detail
abbrev pub fault_at : TCode → ℕ → FixFault
fault_at code at = record { code = code; offset = at; detail = 0 }

-- a field in front of others
abbrev pub with_front : Field → Result (List Field) FixFault → Result (List Field) FixFault
with_front f (Ok fs) = Ok (f ∷ fs)
with_front f (Err fault) = Err fault

-- what is found after this field, with the field in front, or the fault
abbrev pub walk_on : ℕ → Result (Field × List ℕ) TCode → (Field → List ℕ → Result (List Field) FixFault) → Result (List Field) FixFault
walk_on at (Err code) next = Err (fault_at code at)
walk_on at (Ok r) next = with_front r.0 (next r.0 r.1)

-- whether nothing is left and nothing is required
abbrev pub is_over : Owed → List ℕ → Bool
is_over Free [] = true
is_over Free (c ∷ b) = false
is_over (Owes tag many) b = false

-- the fields of a body from an offset on, with room for this many, including the last one
unfoldable pub walk : List Pair → ℕ → Owed → ℕ → List ℕ → Result (List Field) FixFault
walk tags zero owed at b = Err (fault_at code.TooMany at)
walk tags (suc room) owed at b =
    if is_over owed b then Ok []
    else walk_on at (step tags owed b) (λ f after. walk tags room (owed_after tags owed f) (at + length (field_bytes f)) after)

-- ---- a text

-- all fields, if the last seven bytes are the last one
abbrev pub after_body : Parts → Result (List Field) FixFault → Result (List Field) FixFault
after_body p (Err fault) = Err fault
after_body p (Ok others) =
    if bytes_eq p.last (field_bytes (sum_field (front p))) then Ok (p.begin ∷ p.size ∷ p.kind ∷ (others ++ (sum_field (front p) ∷ [])))
    else Err (record { code = code.CheckSum; offset = length (front p); detail = sum_over (front p) })

-- all fields, if the body begins with field 35
abbrev pub after_kind : List Pair → Field → Field → List ℕ → Option (Field × List ℕ) → Result (List Field) FixFault
after_kind tags begin size last None = Err (fault_at code.MsgType (body_at begin size))
after_kind tags begin size last (Some r) =
    after_body (parts begin size r.0 r.1 last) (walk tags (suc most_between) Free (body_at begin size + length (field_bytes r.0)) r.1)

-- all fields, if a field 9 with the right number follows
abbrev pub after_size : List Pair → Field → Option (Field × List ℕ) → Result (List Field) FixFault
after_size tags begin None = Err (fault_at code.BodyLength (length (field_bytes begin)))
after_size tags begin (Some r) =
    if digits_value 10 r.0.value + 7 == length r.1
    then after_kind tags begin r.0 (drop (length r.1 - 7) r.1) (tagged_read 35 (take (length r.1 - 7) r.1))
    else Err (record { code = code.LengthWrong; offset = length (field_bytes begin); detail = length r.1 - 7 })

-- all fields, if the text begins with a field 8
abbrev pub after_begin : List Pair → Option (Field × List ℕ) → Result (List Field) FixFault
after_begin tags None = Err (fault_at code.FirstTag 0)
after_begin tags (Some r) = after_size tags r.0 (size_read r.1)

-- the fields that a text is, or the first fault
unfoldable pub text_read : List Pair → List ℕ → Result (List Field) FixFault
text_read tags text = after_begin tags (tagged_read 8 text)

-- ---- offsets

-- a field by its ranges, where its tag begins at offset `at`
abbrev pub placed_at : ℕ → Field → FixField
placed_at at f = record { tag = f.tag; at = at; from = at + length (tag_bytes f.tag); to = at + length (tag_bytes f.tag) + length f.value }

-- fields by their ranges, one after another from offset `at` on
abbrev pub placed : ℕ → List Field → List FixField
placed at [] = []
placed at (f ∷ fs) = placed_at at f ∷ placed (at + length (field_bytes f)) fs
