-- A schema whose templates have grown, and messages of its earlier version, on which the definitions are computed. Own
-- profile.
use Rattle.std.specs.Prelude.{ℕ, None, List, [], ◌∷◌, ◌++◌, pos, negsuc, replicate, codes}
use Rattle.sbe_types.specs.declared.kind.Order.TheVariants.{Little}
use Rattle.sbe_types.specs.declared.kind.Primitive.TheVariants.{I8, I64, U8, U16}
use Rattle.sbe_types.specs.declared.kind.Presence.TheVariants.{Required, Optional}
use Rattle.sbe_types.specs.declared.kind.Leaf.{Leaf as LeafOf}
use Rattle.sbe_types.specs.declared.kind.Kind.{Kind, Leaf, Enum, Set, Comp', end_of-Member, more_of-Member}
use Rattle.sbe_types.specs.declared.kind.Member.{Member}
use Rattle.sbe_types.specs.declared.schema.Field.{Field}
use Rattle.sbe_types.specs.declared.schema.DataField.{DataField}
use Rattle.sbe_types.specs.declared.schema.Group.{Group'}
use Rattle.sbe_types.specs.declared.schema.Level.{Level, Level', end_of-Group, more_of-Group}
use Rattle.sbe_types.specs.declared.schema.WireSchema.{WireSchema}
use Rattle.sbe_types.specs.declared.message.Value.{Value}
use Rattle.sbe_types.specs.declared.message.Value.TheVariants as value
use Rattle.sbe_types.specs.declared.message.DataVal.TheVariants as dataval
use Rattle.sbe_types.specs.declared.message.GroupVal.{GroupVal}
use Rattle.sbe_types.specs.declared.message.GroupVal.TheVariants as groupval
use Rattle.sbe_types.specs.declared.message.Block.{Block}
use Rattle.sbe_types.specs.declared.message.Msg.{Msg}
use Rattle.sbe_wire.specs.Rows.Schemas.{number, field, member, size16, uint16, int32, char, header_members}
use Rattle.bridge_rules.specs.Rules.{Rule, floating_decimal}
use Rattle.bridge_rules.specs.Values.{floating_value}
use Rattle.fix_values.specs.Decimals.{dec}
use Rattle.bridge_terms.specs.Plans.{Plan, Tree, done, single, in_fields}
use Rattle.bridge_plan.specs.Rows.{text8_kind}

-- ---- kinds of later fields

-- an enum that isn't optional
abbrev pub side : Kind
side = Enum char (record { name = codes "Buy"; number = pos 49 } ∷ record { name = codes "Sell"; number = pos 50 } ∷ [])

-- a set
abbrev pub flags : Kind
flags = Set U8 (record { name = codes "Held"; number = pos 0 } ∷ [])

-- an optional number
abbrev pub quantity : Kind
quantity = Leaf (int32 Optional)

-- the type of an exponent
abbrev exponent : LeafOf
exponent = number I8 Required (negsuc 127) (negsuc 126) (pos 127)

-- the kind of a decimal with its exponent on the wire
abbrev pub decimal_of : LeafOf → Kind
decimal_of mantissa =
    Comp' (tt ∷ tt ∷ [])
    (more_of-Member (codes "mantissa") None (Leaf mantissa) (more_of-Member (codes "exponent") None (Leaf exponent) end_of-Member))

-- a later field that is optional
abbrev pub later_quantity : Field
later_quantity = field (codes "OrderQty") 38 1 quantity

-- a later field that isn't
abbrev pub later_side : Field
later_side = field (codes "Side") 54 1 side

-- ---- templates that have grown

-- an order with a name and a later field
abbrev pub named_and : Field → List Field
named_and later = field (codes "ClOrdID") 11 0 text8_kind ∷ later ∷ []

-- a template with a later field
abbrev pub grown_by : Field → Level
grown_by later = Level' (codes "Grown") 7 (codes "D") 0 12 (named_and later) [] end_of-Group []

-- a template with a later optional field and a later group
abbrev pub grown : Level
grown =
    Level' (codes "Grown") 7 (codes "D") 0 12 (named_and later_quantity) (tt ∷ [])
    (more_of-Group (Group' size16 (Level' (codes "Parties") 453 [] 1 8 (field (codes "PartyID") 448 1 text8_kind ∷ []) [] end_of-Group [])) end_of-Group) []

-- a template with only a group, of this dimension, whose entries have a later field
abbrev pub grouped_by : List Member → Field → Level
grouped_by dim later =
    Level' (codes "Grouped") 8 (codes "D") 0 0 [] (tt ∷ [])
    (more_of-Group (Group' dim (Level' (codes "Parties") 453 [] 0 12 (named_and later) [] end_of-Group [])) end_of-Group) []

-- a dimension that admits no group without entries
abbrev pub size_from_1 : List Member
size_from_1 = member (codes "blockLength") None uint16 ∷ member (codes "numInGroup") None (number U16 Required (pos 65535) (pos 1) (pos 65534)) ∷ []

-- a template with only data
abbrev pub with_data : DataField → Level
with_data part = Level' (codes "Noted") 9 (codes "D") 0 0 [] [] end_of-Group (part ∷ [])

-- data that admits no empty text
abbrev pub some_data : DataField
some_data = record { name = codes "Text"; id = 58; since = 1; length = number U16 Required (pos 65535) (pos 1) (pos 65534) }

-- the schema of the grown template
abbrev pub grown_schema : WireSchema
grown_schema = record { id = 9; version = 1; order = Little; header = record { members = header_members }; messages = grown ∷ [] }

-- ---- messages of the earlier version

-- a name, and a later field that is absent
abbrev pub named_alone : List Value
named_alone = value.Text (codes "ORD00001") ∷ value.Absent ∷ []

-- a block of these fields
abbrev pub of_fields : List Value → Block
of_fields fields = record { fields = fields; groups = []; parts = [] }

-- a block of one group
abbrev pub of_group : GroupVal → Block
of_group g = record { fields = []; groups = g ∷ []; parts = [] }

-- a block of data that is absent
abbrev pub no_data : Block
no_data = record { fields = []; groups = []; parts = dataval.Absent ∷ [] }

-- a block of the grown template
abbrev pub early : Block
early = record { fields = named_alone; groups = groupval.Absent ∷ []; parts = [] }

-- the message of version 0
abbrev pub early_message : Msg
early_message = record { template = 0; version = 0; block = early }

-- its body
abbrev pub early_body : List ℕ
early_body = (8 ∷ 0 ∷ 7 ∷ 0 ∷ 9 ∷ 0 ∷ 0 ∷ 0 ∷ []) ++ codes "ORD00001"

-- ---- a decimal with a far exponent

-- the rule of a decimal with its exponent on the wire
abbrev pub power_rule : Rule
power_rule = floating_decimal (number I64 Required (negsuc 9223372036854775807) (negsuc 9223372036854775806) (pos 9223372036854775807)) exponent

-- the plan of such a decimal
abbrev pub power_plan : Plan
power_plan = single (record { tag = 44; place = in_fields 0; rule = power_rule }) done

-- the text of ten to this power
abbrev pub power_text : ℕ → List ℕ
power_text k = codes "1" ++ replicate k 48

-- the value of ten to this power
abbrev pub power : ℕ → Value
power k = floating_value (dec (pos 1) (pos k))

-- a message of that value
abbrev pub one_power : ℕ → Tree Value power_plan
one_power k = (power k, tt)
