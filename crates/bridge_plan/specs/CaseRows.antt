-- Templates and mappings of larger worked examples. Which part is the first that isn't covered is known from elsewhere.
-- Own profile.
use Rattle.std.specs.Prelude.{ℕ, None, List, [], ◌∷◌, pos, negsuc, codes}
use Rattle.sbe_types.specs.declared.kind.Primitive.TheVariants.{Char, I8, U32, U64}
use Rattle.sbe_types.specs.declared.kind.Presence.TheVariants.{Required, Optional}
use Rattle.sbe_types.specs.declared.kind.LeafShape.TheVariants.{RangedText}
use Rattle.sbe_types.specs.declared.kind.Named.{Named}
use Rattle.sbe_types.specs.declared.kind.Kind.{Kind, Leaf, Enum, Set}
use Rattle.sbe_types.specs.declared.schema.Group.{Group'}
use Rattle.sbe_types.specs.declared.schema.Level.{Level, Level', end_of-Group, more_of-Group}
use Rattle.sbe_wire.specs.Rows.Schemas.{number, field, member, data_of, uint8, uint16, uint32, int32, char}
use Rattle.bridge_rules.specs.Datatypes.{NamedCode, whole_number, decimal_number, text, calendar_day, raw, code_set, character_set, unbridged}
use Rattle.reference_graph.specs.Expansion.{Structure, ended, plain, counted}
use Rattle.bridge_plan.specs.Mappings.{Mapping}

abbrev choice : List ℕ → ℕ → Named
choice name n = record { name = name; number = pos n }

abbrev spelled : List ℕ → List ℕ → NamedCode
spelled name t = record { name = name; text = t }

-- the tags of the header, and those that frame a message
abbrev header : List ℕ
header = 8 ∷ 9 ∷ 35 ∷ 49 ∷ 56 ∷ 34 ∷ 52 ∷ 10 ∷ []

abbrev headed : Structure → Structure
headed rest = plain 8 (plain 9 (plain 35 (plain 49 (plain 56 (plain 34 (plain 52 rest))))))

-- ---- a field of a group whose tag the mapped group lacks

abbrev letters : Kind
letters = Enum char (choice (codes "V0") 65 ∷ choice (codes "V1") 56 ∷ choice (codes "V2") 53 ∷ choice (codes "V3") 57 ∷ [])

-- a template of one group
abbrev pub lacking : Level
lacking = Level' (codes "Msg15") 1 (codes "D") 0 0 [] (tt ∷ [])
    (more_of-Group (Group' (member (codes "blockLength") None uint16 ∷ member (codes "numInGroup") None uint8 ∷ [])
    (Level' (codes "g14") 106 [] 0 7
    (field (codes "f9") 101 0 (Leaf (int32 Required)) ∷ field (codes "f10") 102 0 letters ∷ field (codes "f11") 103 0 (Leaf uint8) ∷ []) [] end_of-Group
    (data_of (codes "d12") 104 0 ∷ data_of (codes "d13") 105 5 ∷ []))) end_of-Group) []

-- the mapping for that template
abbrev pub lacking_map : Mapping
lacking_map = record {
  lists = record { header = header; lengths = (5001, 105) ∷ [] };
  datatypes = (106, whole_number) ∷ (105, raw) ∷ (5002, calendar_day) ∷ (101, decimal_number) ∷ (103, whole_number) ∷ (5001, whole_number) ∷ (5003, unbridged)
      ∷ (102, code_set (spelled (codes "V0") (codes "65") ∷ spelled (codes "V1") (codes "G") ∷ spelled (codes "V2") (codes "d") ∷ spelled (codes "V3") (codes "D") ∷ []))
      ∷ (104, text) ∷ [];
  messages = (codes "D", headed (plain 5003 (counted 106 (plain 103 (plain 5001 (plain 105 (plain 104 (plain 5002 (plain 102 (plain 10 ended))))))) ended)))
      ∷ (codes "0", headed ended) ∷ [];
}

-- ---- a number whose field is data without a length field

abbrev text4 : Kind
text4 = Leaf (record { prim = Char; length = 4; shape = RangedText; presence = Required; null = pos 0; low = pos 32; high = pos 126 })

-- a template of three fields
abbrev pub bare_data : Level
bare_data = Level' (codes "Msg16") 255 (codes "U0") 0 16
    (field (codes "f13") 101 0 text4 ∷ field (codes "f14") 102 0 (Leaf (number U32 Optional (pos 4294967295) (pos 0) (pos 4294967294)))
    ∷ field (codes "f15") 103 0 (Leaf uint32) ∷ []) [] end_of-Group []

-- the mapping for that template
abbrev pub bare_data_map : Mapping
bare_data_map = record {
  lists = record { header = header; lengths = [] };
  datatypes = (101, text) ∷ (102, unbridged) ∷ (103, whole_number) ∷ (5001, whole_number) ∷ [];
  messages = (codes "U0", headed (plain 5001 (plain 102 (plain 101 (plain 103 ended))))) ∷ [];
}

-- ---- a set without a code, which is covered, and then a number with a datatype that isn't bridged

abbrev one_choice : Kind
one_choice = Set U32 (choice (codes "C18") 18 ∷ [])

abbrev choices : Kind
choices = Set U64 (choice (codes "C14") 14 ∷ choice (codes "C29") 29 ∷ choice (codes "C16") 16 ∷ choice (codes "C3") 3 ∷ [])

-- a template of fields, a group and data
abbrev pub zoned : Level
zoned = Level' (codes "Msg17") 1 (codes "xx") 0 9
    (field (codes "f9") 101 0 one_choice ∷ field (codes "f10") 102 0 (Leaf (int32 Required)) ∷ field (codes "f11") 103 0 (Leaf uint8) ∷ [])
    (tt ∷ [])
    (more_of-Group (Group' (member (codes "blockLength") None uint8 ∷ member (codes "numInGroup") None uint16 ∷ [])
    (Level' (codes "g15") 107 [] 0 13
    (field (codes "f12") 104 0 one_choice ∷ field (codes "f13") 105 0 (Leaf (number I8 Optional (negsuc 127) (negsuc 126) (pos 127)))
    ∷ field (codes "f14") 106 0 choices ∷ []) [] end_of-Group [])) end_of-Group)
    (data_of (codes "d16") 108 0 ∷ [])

-- the mapping for that template
abbrev pub zoned_map : Mapping
zoned_map = record {
  lists = record { header = header; lengths = (5002, 108) ∷ [] };
  datatypes = (101, character_set (spelled (codes "C-08") (codes "H") ∷ [])) ∷ (102, unbridged) ∷ (103, decimal_number) ∷ (107, whole_number)
      ∷ (104, character_set (spelled (codes "C18") (codes "Q") ∷ [])) ∷ (105, decimal_number)
      ∷ (106, character_set (spelled (codes "C16") (codes "K") ∷ spelled (codes "C14") (codes "e") ∷ spelled (codes "C3") (codes "4") ∷ []))
      ∷ (5001, unbridged) ∷ (5002, whole_number) ∷ (108, raw) ∷ [];
  messages = (codes "xx", headed (counted 107 (plain 106 (plain 105 (plain 104 (plain 5001 ended)))) (plain 103 (plain 102 (plain 101 (plain 5002 (plain 108 ended))))))) ∷ [];
}
