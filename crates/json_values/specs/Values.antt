-- The values of a message as JSON data. From RFC 8259, Values; which JSON stands for which value is own profile.
use Rattle.std.specs.Prelude.{ℕ, ◌+◌, ◌/◌, ◌%◌, ◌&&◌, ◌==◌, nat_le, nat_lt, Bool, true, false, is_some, if◌then◌else◌, List, [], ◌∷◌, ℤ, pos, negsuc, int_le, codes, Option, Some, None}
use Rattle.std.specs.Option.{option_map, option_map_or}
use Rattle.std.specs.List.{list_all}
use Rattle.std.specs.Ordering.{int_eq}
use Rattle.std.specs.Int.{bit_at}
use Rattle.hex.specs.Hex.{encode_lower}
use Rattle.serde_json.specs.Data.{Data, null, number, string, array, object, Items, no_items, item, Members, no_members, member, unsigned}
use Rattle.serde_json.specs.Find.{of_integer}
use Rattle.sbe_types.specs.declared.kind.Primitive.{Primitive}
use Rattle.sbe_types.specs.declared.kind.Primitive.TheVariants.{Char, I8, I16, I32, I64, U8, U16, U32, U64}
use Rattle.sbe_types.specs.declared.kind.Named.{Named}
use Rattle.sbe_types.specs.declared.kind.ConstValue.{ConstValue}
use Rattle.sbe_types.specs.declared.kind.ConstValue.TheVariants as constant
use Rattle.sbe_types.specs.declared.kind.Kind.{Kind, Leaf, Enum, Set, Const, Comp', items-the_row-Member, Row_of-Member, end_of-Member, more_of-Member}
use Rattle.sbe_types.specs.declared.kind.Member.{Member}
use Rattle.sbe_types.specs.declared.message.Elem.{Elem}
use Rattle.sbe_types.specs.declared.message.Elem.TheVariants as elem
use Rattle.sbe_types.specs.declared.message.Value as value
use Rattle.sbe_types.specs.declared.message.Value.{Value, items-the_row-Value}
use Rattle.sbe_types.specs.Numbers.{natural}
use Rattle.sbe_types.specs.Shown.{has_listed_bits}

-- ---- members of an object

-- a name and its value; None if it is left out
abbrev pub Entry : Type 0
Entry = List ℕ × Option Data

-- the members of an object, in the order of the list, without those that are left out
abbrev pub listed : List Entry → Members
listed [] = no_members
listed ((name, None) ∷ entries) = listed entries
listed ((name, Some d) ∷ entries) = member name d (listed entries)

-- two lists combined item by item, as far as both go
abbrev pub zipped : {A B : Type 0} → (A → B → Entry) → List A → List B → List Entry
zipped f (x ∷ xs) (y ∷ ys) = f x y ∷ zipped f xs ys
zipped f (x ∷ xs) [] = []
zipped f [] ys = []

-- ---- texts

-- a byte from 20 to 7e: a space, or a visible character
abbrev pub is_printable : ℕ → Bool
is_printable b = nat_le 32 b && nat_le b 126

-- bytes as an object with their hexadecimal digits, in lower case
abbrev pub hex : List ℕ → Data
hex bytes = object (member (codes "hex") (string (encode_lower bytes)) no_members)

-- bytes as a string if each is printable, else by their hexadecimal digits
abbrev pub text_data : List ℕ → Data
text_data bytes = if list_all is_printable bytes then string bytes else hex bytes

-- ---- numbers

-- an integer
abbrev pub number_data : ℤ → Data
number_data n = number (of_integer n)

-- the last four digits of a number
abbrev pub last_four : ℕ → List ℕ
last_four n = (48 + n / 10 / 10 / 10 % 10) ∷ (48 + n / 10 / 10 % 10) ∷ (48 + n / 10 % 10) ∷ (48 + n % 10) ∷ []

-- the two digits of each number below 100, concatenated
abbrev pub digit_pairs : List ℕ
digit_pairs = codes "00010203040506070809101112131415161718192021222324252627282930313233343536373839404142434445464748495051525354555657585960616263646566676869707172737475767778798081828384858687888990919293949596979899"

-- the decimal digits of each byte, each padded to four bytes with spaces after it
abbrev pub padded_digits : List ℕ
padded_digits = codes "0   1   2   3   4   5   6   7   8   9   10  11  12  13  14  15  16  17  18  19  20  21  22  23  24  25  26  27  28  29  30  31  32  33  34  35  36  37  38  39  40  41  42  43  44  45  46  47  48  49  50  51  52  53  54  55  56  57  58  59  60  61  62  63  64  65  66  67  68  69  70  71  72  73  74  75  76  77  78  79  80  81  82  83  84  85  86  87  88  89  90  91  92  93  94  95  96  97  98  99  100 101 102 103 104 105 106 107 108 109 110 111 112 113 114 115 116 117 118 119 120 121 122 123 124 125 126 127 128 129 130 131 132 133 134 135 136 137 138 139 140 141 142 143 144 145 146 147 148 149 150 151 152 153 154 155 156 157 158 159 160 161 162 163 164 165 166 167 168 169 170 171 172 173 174 175 176 177 178 179 180 181 182 183 184 185 186 187 188 189 190 191 192 193 194 195 196 197 198 199 200 201 202 203 204 205 206 207 208 209 210 211 212 213 214 215 216 217 218 219 220 221 222 223 224 225 226 227 228 229 230 231 232 233 234 235 236 237 238 239 240 241 242 243 244 245 246 247 248 249 250 251 252 253 254 255 "

-- the two hexadecimal digits of each byte, concatenated
abbrev pub hex_pairs : List ℕ
hex_pairs = codes "000102030405060708090a0b0c0d0e0f101112131415161718191a1b1c1d1e1f202122232425262728292a2b2c2d2e2f303132333435363738393a3b3c3d3e3f404142434445464748494a4b4c4d4e4f505152535455565758595a5b5c5d5e5f606162636465666768696a6b6c6d6e6f707172737475767778797a7b7c7d7e7f808182838485868788898a8b8c8d8e8f909192939495969798999a9b9c9d9e9fa0a1a2a3a4a5a6a7a8a9aaabacadaeafb0b1b2b3b4b5b6b7b8b9babbbcbdbebfc0c1c2c3c4c5c6c7c8c9cacbcccdcecfd0d1d2d3d4d5d6d7d8d9dadbdcdddedfe0e1e2e3e4e5e6e7e8e9eaebecedeeeff0f1f2f3f4f5f6f7f8f9fafbfcfdfeff"

-- how many digits a number below 100 has
abbrev pub digits_in : ℕ → ℕ
digits_in n = if nat_lt n 10 then 1 else 2

-- how many decimal digits a byte has
abbrev pub digits_in_byte : ℕ → ℕ
digits_in_byte n = if nat_lt n 10 then 1 else (if nat_lt n 100 then 2 else 3)

-- a char as a string of one character if it is printable, else as its number
abbrev pub char_data : ℤ → Data
char_data n = if int_le (pos 32) n && int_le n (pos 126) then string (natural n ∷ []) else number_data n

-- the primitive is char
abbrev pub is_character : Primitive → Bool
is_character Char = true
is_character I8 = false
is_character I16 = false
is_character I32 = false
is_character I64 = false
is_character U8 = false
is_character U16 = false
is_character U32 = false
is_character U64 = false

-- the kind is a char
abbrev pub is_char : Kind → Bool
is_char (Leaf l) = is_character l.prim
is_char (Enum l names) = false
is_char (Set p names) = false
is_char (Const c) = false
is_char (Comp' n members) = false

-- a single number: a char, or an integer
abbrev pub single_data : Bool → ℤ → Data
single_data char n = if char then char_data n else number_data n

-- an element of an array
abbrev pub element_data : Elem → Data
element_data (elem.Num n) = number_data n
element_data elem.Null = null

-- the elements of an array, in order
abbrev pub elements_data : List Elem → Items
elements_data [] = no_items
elements_data (e ∷ es) = item (element_data e) (elements_data es)

-- ---- names

-- the valid values or choices of a kind
abbrev pub named_in : Kind → List Named
named_in (Enum l names) = names
named_in (Set p names) = names
named_in (Leaf l) = []
named_in (Const c) = []
named_in (Comp' n members) = []

-- the name of the first valid value with this number
abbrev pub name_of : List Named → ℤ → Option (List ℕ)
name_of [] n = None
name_of (v ∷ vs) n = if int_eq v.number n then Some v.name else name_of vs n

-- a valid value by its name, and any other number as it is
abbrev pub enum_data : List Named → ℤ → Data
enum_data names n = option_map_or string (name_of names n) (number_data n)

-- the bit with this number is set
abbrev pub has_bit : ℕ → ℤ → Bool
has_bit bits (pos k) = bit_at bits k == 1
has_bit bits (negsuc k) = false

-- the names of the choices whose bits are set, in the order of the schema
abbrev pub chosen : ℕ → List Named → Items
chosen bits [] = no_items
chosen bits (c ∷ cs) = if has_bit bits c.number then item (string c.name) (chosen bits cs) else chosen bits cs

-- a set by the names of its choices, or by its number if a bit isn't a choice
abbrev pub set_data : List Named → ℕ → Data
set_data names bits = if has_listed_bits names 64 bits then array (chosen bits names) else number (unsigned bits)

-- ---- constants

-- a constant as the value that it has; a valid value by its name
abbrev pub constant_data : ConstValue → Data
constant_data (constant.Num n) = number_data n
constant_data (constant.Text bytes) = text_data bytes
constant_data (constant.Code p named) = string named.name

-- the constant of a kind, if it is one
abbrev pub constant_of : Kind → Option ConstValue
constant_of (Const c) = Some c
constant_of (Leaf l) = None
constant_of (Enum l names) = None
constant_of (Set p names) = None
constant_of (Comp' n members) = None

-- ---- values

-- the members of a composite; any other kind has none
abbrev pub members_in : Kind → List Member
members_in (Comp' n members) = items-the_row-Member _ members
members_in (Leaf l) = []
members_in (Enum l names) = []
members_in (Set p names) = []
members_in (Const c) = []

-- the value of a kind, given the members of a composite by its values; None if it is absent
abbrev pub shown_data : Kind → (List Value → List Entry) → Value → Option Data
shown_data kind members (value.Num n) = Some (single_data (is_char kind) n)
shown_data kind members value.Null = Some null
shown_data kind members (value.Text bytes) = Some (text_data bytes)
shown_data kind members (value.Nums elements) = Some (array (elements_data elements))
shown_data kind members (value.Enum n) = Some (enum_data (named_in kind) n)
shown_data kind members (value.Set bits) = Some (set_data (named_in kind) bits)
shown_data kind members (value.Comp' n values) = Some (object (listed (members (items-the_row-Value _ values))))
shown_data kind members value.Const = option_map constant_data (constant_of kind)
shown_data kind members value.Absent = None

-- no members
abbrev pub no_entries : List Value → List Entry
no_entries values = []

unfoldable mutual
  -- the value of a kind; None if it is absent
  pub value_data : Kind → Value → Option Data
  value_data (Leaf l) v = shown_data (Leaf l) no_entries v
  value_data (Enum l names) v = shown_data (Enum l names) no_entries v
  value_data (Set p names) v = shown_data (Set p names) no_entries v
  value_data (Const c) v = shown_data (Const c) no_entries v
  value_data (Comp' n members) v = shown_data (Comp' n members) (row_entries members) v

  -- the members of a composite, each with its value
  pub row_entries : {n : _} → Row_of-Member n → List Value → List Entry
  row_entries end_of-Member values = []
  row_entries (more_of-Member name offset kind rest) [] = []
  row_entries (more_of-Member name offset kind rest) (v ∷ values) = (name, value_data kind v) ∷ row_entries rest values

-- a composite's member and its value
abbrev pub member_entry : Member → Value → Entry
member_entry m v = (m.name, value_data m.kind v)

-- the value is there; a constant only if the kind is one
abbrev pub is_there : Kind → Value → Bool
is_there kind value.Absent = false
is_there kind value.Const = is_some (constant_of kind)
is_there kind (value.Num n) = true
is_there kind value.Null = true
is_there kind (value.Text bytes) = true
is_there kind (value.Nums elements) = true
is_there kind (value.Enum n) = true
is_there kind (value.Set bits) = true
is_there kind (value.Comp' n values) = true
