-- Objects, arrays and texts in a line. From RFC 8259; own profile: which keys are allowed, and bytes in hex.
use Rattle.std.specs.Prelude.{ℕ, suc, ◌==◌, Bool, true, false, if◌then◌else◌, List, [], ◌∷◌, codes, decimal, Option, Some, None, option_and_then, Result, Ok, Err, ℤ}
use Rattle.std.specs.Str.{bytes_eq}
use Rattle.hex.specs.Hex.{decode_of}
use Rattle.hex.specs.declared.error.FromHexError.{FromHexError}
use Rattle.serde_json.specs.Data.{Data, null, boolean, number, string, array, object, Items, no_items, item, Members, no_members, member}
use Rattle.serde_json.specs.Find.{get_member, as_object, as_number, as_str, as_integer}
use Rattle.line_values.specs.declared.refusals.JCode.TheVariants.{UnknownName, Kind}
use Rattle.line_values.specs.Refusals.{Reading, ◌>>=◌, refuse, or_refuse, inside}

-- ---- objects

-- the key is one of the names
abbrev pub is_named : List ℕ → List (List ℕ) → Bool
is_named key [] = false
is_named key (name ∷ names) = if bytes_eq key name then true else is_named key names

-- the first key that is none of the names; the keys that are read of a text are in order, so it is the least by bytes
abbrev pub first_unknown : List (List ℕ) → Members → Option (List ℕ)
first_unknown names no_members = None
first_unknown names (member key d ms) = if is_named key names then first_unknown names ms else Some key

-- an unknown key is refused; its place is the key itself
abbrev pub none_unknown : Option (List ℕ) → Reading (Unit {0})
none_unknown None = Ok tt
none_unknown (Some key) = refuse UnknownName key

-- each key is one of the names, or the first other is refused
abbrev pub known : List (List ℕ) → Members → Reading (Unit {0})
known names ms = none_unknown (first_unknown names ms)

-- what is read of the data of a key, or the result if it is missing
abbrev pub there_or : {A : Type 0} → Reading A → (Data → Reading A) → Option Data → Reading A
there_or lack by None = lack
there_or lack by (Some d) = by d

-- the members of the object under a key; a missing one is empty
abbrev pub members_in : List ℕ → Option Data → Reading Members
members_in key None = Ok no_members
members_in key (Some d) = or_refuse Kind key (as_object d)

-- the members of the object under a key, which all have one of these names
abbrev pub part : List ℕ → List (List ℕ) → Members → Reading Members
part key names ms = do
  found ← members_in key (get_member key ms)
  _ ← known names found
  Ok found

-- ---- arrays

-- what is read of item i, with its place from the array
abbrev pub at_item : {A : Type 0} → ℕ → Reading A → Reading A
at_item i read = inside (codes "[") (inside (decimal i) (inside (codes "]") read))

-- what is read of each item, from item i on
unfoldable pub each : {A : Type 0} → (Data → Reading A) → ℕ → Items → Reading (List A)
each by i no_items = Ok []
each by i (item d ds) = do
  x ← at_item i (by d)
  xs ← each by (suc i) ds
  Ok (x ∷ xs)

-- ---- numbers

-- the number of a JSON integer of 64 bits
abbrev pub integer_of : Data → Option ℤ
integer_of d = option_and_then as_integer (as_number d)

-- ---- texts

-- the number of members
abbrev pub members_count : Members → ℕ
members_count no_members = 0
members_count (member key d ms) = suc (members_count ms)

-- the bytes that hexadecimal digits give
abbrev pub decoded : Result (List ℕ) FromHexError → Reading (List ℕ)
decoded (Ok bytes) = Ok bytes
decoded (Err e) = refuse Kind []

-- the bytes of a string of hexadecimal digits, two for each byte, in upper or lower case
abbrev pub hex_digits : Option (List ℕ) → Reading (List ℕ)
hex_digits None = refuse Kind []
hex_digits (Some digits) = decoded (decode_of digits)

-- the bytes of an object with the single key `hex`
abbrev pub hex_in : Members → Reading (List ℕ)
hex_in ms = if members_count ms == 1 then hex_digits (option_and_then as_str (get_member (codes "hex") ms)) else refuse Kind []

-- the bytes of a text: a string, or an object with hexadecimal digits
abbrev pub bytes_in : Data → Reading (List ℕ)
bytes_in (string s) = Ok s
bytes_in (object ms) = hex_in ms
bytes_in null = refuse Kind []
bytes_in (boolean b) = refuse Kind []
bytes_in (number n) = refuse Kind []
bytes_in (array ds) = refuse Kind []
