-- Kinds, datatypes and values on which the rules are computed. Own profile.
use Rattle.std.specs.Prelude.{ℕ, Bool, true, false, List, [], ◌∷◌, codes, ℤ, pos, negsuc, Option, Some, None, Result, Ok, Err, is_some}
use Rattle.sbe_types.specs.declared.kind.Primitive.{Primitive}
use Rattle.sbe_types.specs.declared.kind.Primitive.TheVariants.{Char, I8, I32, I64, U8, U16, U64}
use Rattle.sbe_types.specs.declared.kind.Presence.{Presence}
use Rattle.sbe_types.specs.declared.kind.Presence.TheVariants.{Required, Optional}
use Rattle.sbe_types.specs.declared.kind.LeafShape.{LeafShape}
use Rattle.sbe_types.specs.declared.kind.LeafShape.TheVariants.{Number, RangedText}
use Rattle.sbe_types.specs.declared.kind.Leaf.{Leaf as LeafOf}
use Rattle.sbe_types.specs.declared.kind.Named.{Named}
use Rattle.sbe_types.specs.declared.kind.ConstValue.{ConstValue}
use Rattle.sbe_types.specs.declared.kind.ConstValue.TheVariants as const
use Rattle.sbe_types.specs.declared.kind.Kind.{Kind, Leaf, Enum, Set, Const, Comp', end_of-Member, more_of-Member}
use Rattle.sbe_types.specs.declared.message.Value.{Value, end_of-Value, more_of-Value}
use Rattle.sbe_types.specs.declared.message.Value as value
use Rattle.fix_values.specs.declared.rule.V.{V}
use Rattle.bridge_rules.specs.Rules.{Rule}
use Rattle.bridge_rules.specs.Texts.{text_by}
use Rattle.bridge_rules.specs.Values.{Misread, value_by, missing_by}
use Rattle.bridge_rules.specs.Items.{Item, text_item}
use Rattle.bridge_rules.specs.Datatypes.{NamedCode, Datatype}
use Rattle.bridge_rules.specs.Table.{rule_of}

-- ---- what a kind and a datatype give

-- the table has a rule for the two
abbrev pub is_covered : Kind → Datatype → Bool
is_covered k d = is_some (rule_of k d)

-- the result for the rule, if there is one
abbrev pub by_rule : {X : Type 0} → Option Rule → (Rule → X) → Option X
by_rule None f = None
by_rule (Some rule) f = Some (f rule)

-- the text of a value
abbrev pub shows : Kind → Datatype → Value → Option (Result (Option (List ℕ)) V)
shows k d v = by_rule (rule_of k d) (λ rule. text_by rule v)

-- the value of a text
abbrev pub reads : Kind → Datatype → List ℕ → Option (Result Value Misread)
reads k d t = by_rule (rule_of k d) (λ rule. value_by rule t)

-- the value without a field
abbrev pub lacks : Kind → Datatype → Option (Option Value)
lacks k d = by_rule (rule_of k d) missing_by

-- the item of a text, as applications see it
abbrev pub item_of_text : Kind → Datatype → List ℕ → Option (Option Item)
item_of_text k d t = by_rule (rule_of k d) (λ rule. text_item rule t)

-- ---- leaves

-- a single value of a primitive: its presence, its null and its range
abbrev pub leaf_of : Primitive → Presence → ℤ → ℤ → ℤ → LeafOf
leaf_of prim presence null low high = record { prim = prim; length = 1; shape = Number; presence = presence; null = null; low = low; high = high }

-- a single int32, by its presence
abbrev pub int32 : Presence → LeafOf
int32 presence = leaf_of I32 presence (negsuc 2147483647) (negsuc 2147483646) (pos 2147483647)

-- a single int8, by its presence
abbrev pub int8 : Presence → LeafOf
int8 presence = leaf_of I8 presence (negsuc 127) (negsuc 126) (pos 127)

-- a single uint8, by its presence
abbrev pub uint8 : Presence → LeafOf
uint8 presence = leaf_of U8 presence (pos 255) (pos 0) (pos 254)

-- a required uint16
abbrev pub uint16 : LeafOf
uint16 = leaf_of U16 Required (pos 65535) (pos 0) (pos 65534)

-- a required uint64
abbrev pub uint64 : LeafOf
uint64 = leaf_of U64 Required (pos 18446744073709551615) (pos 0) (pos 18446744073709551614)

-- a single char, by its presence
abbrev pub one_char : Presence → LeafOf
one_char presence = leaf_of Char presence (pos 0) (pos 0) (pos 126)

-- a text of up to four bytes from 20 to 7e
abbrev pub text4 : Presence → LeafOf
text4 presence = record { prim = Char; length = 4; shape = RangedText; presence = presence; null = pos 0; low = pos 32; high = pos 126 }

-- ---- composites

-- a composite of two members
abbrev pub two : List ℕ → Kind → List ℕ → Kind → Kind
two a k b l = Comp' (tt ∷ tt ∷ []) (more_of-Member a None k (more_of-Member b None l end_of-Member))

-- a composite of a mantissa and an exponent
abbrev pub decimal : Kind → Kind → Kind
decimal m e = two (codes "mantissa") m (codes "exponent") e

-- a composite of a time and its unit
abbrev pub time : Kind → Kind → Kind
time count unit = two (codes "time") count (codes "unit") unit

-- a decimal with a third member
abbrev pub longer : Kind
longer = Comp' (tt ∷ tt ∷ tt ∷ []) (more_of-Member (codes "mantissa") None (Leaf (int32 Required)) (more_of-Member (codes "exponent") None (Leaf (int8 Required)) (more_of-Member (codes "scale") None (Leaf (int8 Required)) end_of-Member)))

-- a month, by the presence of its day
abbrev pub month : Presence → Kind
month presence = Comp' (tt ∷ tt ∷ tt ∷ tt ∷ []) (more_of-Member (codes "year") None (Leaf uint16)
    (more_of-Member (codes "month") None (Leaf (uint8 Required))
    (more_of-Member (codes "day") None (Leaf (uint8 presence))
    (more_of-Member (codes "week") None (Leaf (uint8 Optional)) end_of-Member))))

-- a constant number
abbrev pub constant_number : ℤ → Kind
constant_number n = Const (const.Num n)

-- a constant text
abbrev pub constant_text : List ℕ → Kind
constant_text t = Const (const.Text t)

-- a constant that is a valid value of an enum
abbrev pub constant_code : Primitive → List ℕ → ℕ → Kind
constant_code prim name n = Const (const.Code prim (record { name = name; number = pos n }))

-- ---- listed values and codes

-- a valid value or a choice: its name and its number
abbrev pub named : List ℕ → ℕ → Named
named name n = record { name = name; number = pos n }

-- a code of a code set: its name and its text
abbrev pub code : List ℕ → List ℕ → NamedCode
code name t = record { name = name; text = t }

-- Buy 1 and Sell 2, as characters
abbrev pub side : Kind
side = Enum (one_char Required) (named (codes "Buy") 49 ∷ named (codes "Sell") 50 ∷ [])

-- Buy 1 and Short A, as characters
abbrev pub lettered : Kind
lettered = Enum (one_char Required) (named (codes "Buy") 49 ∷ named (codes "Short") 65 ∷ [])

-- 5 and 10 as numbers
abbrev pub counted : Kind
counted = Enum (uint8 Required) (named (codes "Five") 5 ∷ named (codes "Ten") 10 ∷ [])

-- true as 1 and as Y
abbrev pub twice_true : Kind
twice_true = Enum (uint8 Required) (named (codes "One") 1 ∷ named (codes "Yes") 89 ∷ [])

-- true and false as 1 and 0
abbrev pub truth : Kind
truth = Enum (uint8 Optional) (named (codes "Yes") 1 ∷ named (codes "No") 0 ∷ [])

-- bits 0, 3 and 5
abbrev pub flags : Kind
flags = Set U8 (named (codes "Held") 0 ∷ named (codes "AllOrNone") 3 ∷ named (codes "Other") 5 ∷ [])

-- ---- values of composites

-- the value of a composite of two members
abbrev pub pair : Value → Value → Value
pair v w = value.Comp' (tt ∷ tt ∷ []) (more_of-Value v (more_of-Value w end_of-Value))

-- the value of a composite of four members
abbrev pub four : Value → Value → Value → Value → Value
four a b c d = value.Comp' (tt ∷ tt ∷ tt ∷ tt ∷ []) (more_of-Value a (more_of-Value b (more_of-Value c (more_of-Value d end_of-Value))))
