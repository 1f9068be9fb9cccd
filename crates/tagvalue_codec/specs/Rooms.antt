-- How a writer stores a text: the bytes up to `9=`, and those of the body. Own profile.
use Rattle.std.specs.Prelude.{◌≡◌, ℕ, ◌+◌, ◌≤◌, List, ◌∷◌, ◌++◌, length, take, drop, decimal, ⊤}
use Rattle.tagvalue_codec.specs.declared.framed.TheConstants.{BEFORE}
use Rattle.tagvalue_codec.specs.declared.write.Phase.{Phase}
use Rattle.tagvalue_codec.specs.declared.write.Phase.TheVariants.{Idle, Open, Done}
use Rattle.tagvalue_codec.specs.Fields.{soh, Field, field_bytes, tag_bytes}
use Rattle.tagvalue_codec.specs.Texts.{sum_field, three_digits, text_over}

-- a body in a memory of `size` bytes: its bytes, where they start, the text of which it is a part, and how many bytes precede that
pub record Around : Type 0 where
  pub bytes : List ℕ
  pub start : ℕ
  pub whole : List ℕ
  pub ahead : ℕ
  pub size : ℕ

-- The bytes are between `from` and `at`. The bytes after them are the same, and the memory is as long as before.
pub record IsPutBefore (old new : List ℕ) (at : ℕ) (bytes : List ℕ) (from : ℕ) : Type 0 where
  pub front : drop from (take at new) ≡ bytes
  pub rest : drop at new ≡ drop at old
  pub moved : at ≡ from + length bytes
  pub long : length new ≡ length old

-- bytes, and how many there may be
pub record Filled : Type 0 where
  pub bytes : List ℕ
  pub limit : ℕ

-- everything before the number after `9=`
abbrev pub head_bytes : List ℕ → List ℕ
head_bytes begin = field_bytes (record { tag = 8; value = begin }) ++ tag_bytes 9

-- everything before the last field
abbrev pub front_over : List ℕ → List ℕ → List ℕ
front_over head body = head ++ (decimal (length body) ++ (soh ∷ body))

-- the text of a head and a body
abbrev pub text_from : List ℕ → List ℕ → List ℕ
text_from head body = front_over head body ++ field_bytes (sum_field (front_over head body))

-- the length of the text of a head and a body with these lengths
abbrev pub needed_for : ℕ → ℕ → ℕ
needed_for head body = head + body + (length (decimal body) + 8)

-- the value of `many` bytes after `8=`
abbrev pub begin_in : ℕ → List ℕ → List ℕ
begin_in many text = take many (drop 2 text)

-- How a text is stored: one that is begun has its head, room before its body, and will be within the limit once it is finished.
abbrev pub Keeps : Phase → List ℕ → List ℕ → Around → ℕ → Type 0
Keeps Idle begin text body limit = ⊤
Keeps Open begin text body limit = (text ≡ head_bytes begin) × (length (text_over begin body.bytes) ≤ limit) × (body.start ≡ length text + BEFORE)
Keeps Done begin text body limit = (body.whole ≡ text_over begin body.bytes) × (6 ≤ body.ahead)

-- the last field with this sum
abbrev pub sum_of_bytes : ℕ → Field
sum_of_bytes n = record { tag = 10; value = three_digits n }
