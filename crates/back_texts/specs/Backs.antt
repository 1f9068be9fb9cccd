-- A message that is written as a given text. Own profile.
use Rattle.std.specs.Prelude.{◌≡◌, ◌<◌, ◌≤◌, ◌+◌, ℕ, true, List, ◌∷◌, length, slice_get, None, Some}
use Rattle.byte_digits.specs.Digits.{IsBytes}
use Rattle.sbe_types.specs.declared.message.Msg.{Msg}
use Rattle.sbe_types.specs.declared.message.Value.{Value}
use Rattle.sbe_types.specs.declared.schema.Level.{Level, out-Level}
use Rattle.sbe_types.specs.declared.schema.WireSchema.{WireSchema}
use Rattle.sbe_wire.specs.Lays.{Lays}
use Rattle.schema_facts.specs.IsChecked.{IsChecked}
use Rattle.tagvalue_codec.specs.declared.data_tags.Pair.{Pair}
use Rattle.tagvalue_codec.specs.Drafts.{IsValue, typed}
use Rattle.tagvalue_codec.specs.Fields.{Field, bytes_of}
use Rattle.tagvalue_codec.specs.Texts.{FixText, most_between}
use Rattle.reference_graph.specs.Expansion.{Structure}
use Rattle.bridge_rules.specs.Good.{IsItemForm}
use Rattle.bridge_rules.specs.Rules.{Rule}
use Rattle.bridge_terms.specs.Blocks.{values_of}
use Rattle.bridge_terms.specs.MessageFields.{length_in}
use Rattle.bridge_terms.specs.Parts.{TagLists}
use Rattle.bridge_terms.specs.Places.{Places, place_fields, places_of}
use Rattle.bridge_terms.specs.PlanFacts.{EachRule}
use Rattle.bridge_terms.specs.Plans.{Each, all_tags, is_in}
use Rattle.bridge_plan.specs.CheckedLevels.{IsCovered}
use Rattle.bridge_plan.specs.Covers.{plan_of}
use Rattle.bridge_plan.specs.Mappings.{Mapping}
use Rattle.bridge_plan.specs.Translation.{IsMessageOf}
use Rattle.fix_messages.specs.Heads.{Head, given_fields}
use Rattle.fix_messages.specs.Texts.{message_text, text_refusal}
use Rattle.same_texts.specs.Follow.{AreTags, IsAlone, IsFramed}
use Rattle.same_texts.specs.Same.{ArePairsOf, IsClear, IsFound}

-- Nothing of a message is refused, and the text is the one that it is written as with this head.
pub record IsTextOf (lists : TagLists) (limit : ℕ) (kind : List ℕ) (head : Head) (all : Places) (text : List ℕ) : Type 0 where
  pub unrefused : text_refusal lists limit kind head all ≡ None
  pub is : text ≡ message_text lists kind head (place_fields all.places)

-- A field of the header that is neither a length field nor data with one.
pub record IsHeader (tags : List Pair) (lists : TagLists) (f : Field) : Type 0 where
  pub header : is_in f.tag lists.header ≡ true
  pub found : IsFound tags lists f
  pub alone : length_in f.tag lists.lengths ≡ None

-- The head of a text with values that fields may have; its fields stand alone.
pub record IsHeadOf (tags : List Pair) (lists : TagLists) (kind : List ℕ) (head : Head) : Type 0 where
  pub framed : IsFramed lists
  pub begin : IsValue head.begin
  pub typed : IsValue kind
  pub given : Each (IsHeader tags lists) (given_fields head)
  pub alone : Each (IsAlone tags) (given_fields head)

-- each value by the rule is in the one form of its item
abbrev pub IsExact : Rule → Type 0
IsExact rule = (v : Value) → IsItemForm rule v

-- The plan of a covered template writes each value so that its end is found, and in one form.
pub record IsExactPlan (m : Mapping) (s : Structure) (level : Level) : Type 0 where
  pub covered : IsCovered m s level
  pub clear : IsClear m.lists (plan_of m s level)
  pub exact : EachRule IsExact (plan_of m s level)

-- A message of a schema's own version that lies in a body of bytes.
pub record IsOwnMessage (schema : WireSchema) (level : Level) (message : Msg) (body : List ℕ) : Type 0 where
  pub checked : IsChecked schema
  pub there : slice_get schema.messages message.template ≡ Some level
  pub version : message.version ≡ schema.version
  pub bytes : IsBytes body
  pub lies : Lays schema message body

-- The texts of a covered template can be read: its plan writes each value in one form, so that its end is found; each length field
-- belongs to one data field; and the tags have one to nine digits.
pub record IsReadPlan (tags : List Pair) (m : Mapping) (s : Structure) (level : Level) : Type 0 where
  pub pairs : ArePairsOf tags m.lists
  pub tagged : AreTags tags (all_tags (plan_of m s level))
  pub plan : IsExactPlan m s level

-- the most fields of a text: those between MsgType and CheckSum, and the four that frame them
abbrev pub most_fields : ℕ
most_fields = 4 + most_between

-- the text has few enough fields, however it is made of them
abbrev pub HasFewFields : List ℕ → Type 0
HasFewFields text = (fields : List Field) → text ≡ bytes_of fields → length fields ≤ most_fields

-- how texts are written: by a mapping with its pairs of tags, the structure and the level of a template, and a head
pub record Writing : Type 0 where
  pub m : Mapping
  pub s : Structure
  pub level : Level
  pub tags : List Pair
  pub head : Head

-- the MsgType of its texts
abbrev pub kind_by : Writing → List ℕ
kind_by by = (out-Level by.level).semantic

-- the places of a message in the order of the structure
abbrev pub places_by : Writing → Msg → Places
places_by by message = places_of (plan_of by.m by.s by.level) (values_of (plan_of by.m by.s by.level) message.block)

-- A text that can be read is the one that a message is written as, with this head.
pub record IsWrittenAs (by : Writing) (message : Msg) (text : List ℕ) : Type 0 where
  pub plan : IsReadPlan by.tags by.m by.s by.level
  pub good : IsHeadOf by.tags by.m.lists (kind_by by) by.head
  pub limit : ℕ
  pub written : IsTextOf by.m.lists limit (kind_by by) by.head (places_by by message) text
  pub few : HasFewFields text
  pub short : length text < 1000000000

-- The bytes are a text of these fields, which has this MsgType.
pub record IsReadAs (tags : List Pair) (kind text : List ℕ) (fields : List Field) : Type 0 where
  pub read : FixText tags fields text
  pub begin : Field
  pub size : Field
  pub others : List Field
  pub are : fields ≡ begin ∷ size ∷ typed kind ∷ others

-- The text is read as fields, and the message is the one that they are translated to.
pub record IsReadBack (by : Writing) (message : Msg) (text : List ℕ) : Type 0 where
  pub fields : List Field
  pub read : IsReadAs by.tags (kind_by by) text fields
  pub is : IsMessageOf by.m by.s by.level fields message.block
