-- The head of a text. From the FIX tag=value encoding (FIX 4.4), Message format. Own profile: which header fields are
-- given, and their order.
use Rattle.std.specs.Prelude.{ℕ, List, [], ◌∷◌, ◌++◌, map, Option, Some, None, ⊤}
use Rattle.std.specs.Option.{option_map}
use Rattle.std.specs.Fmt.{decimal}
use Rattle.tagvalue_codec.specs.Drafts.{Draft, IsValue, begun, field_of, typed}
use Rattle.tagvalue_codec.specs.Fields.{Field, bytes_of}
use Rattle.bridge_terms.specs.Parts.{TagLists}
use Rattle.bridge_terms.specs.Places.{Places}
use Rattle.fix_messages.specs.declared.head.FixHead.{FixHead}

-- the version of the encoding, and the header fields that are given
pub record Head : Type 0 where
  pub begin : List ℕ
  pub sender : Option (List ℕ)
  pub target : Option (List ℕ)
  pub seq : Option ℕ
  pub time : Option (List ℕ)

-- the head that is lent
abbrev pub head_of : FixHead → Head
head_of head = record {
  begin = head.begin.now;
  sender = option_map (λ v. v.now) head.sender;
  target = option_map (λ v. v.now) head.target;
  seq = head.seq;
  time = option_map (λ v. v.now) head.time;
}

-- a header field, if it is given
abbrev pub given : ℕ → Option (List ℕ) → List Field
given tag None = []
given tag (Some value) = field_of tag value ∷ []

-- the header fields after MsgType
abbrev pub given_fields : Head → List Field
given_fields head = given 49 head.sender ++ (given 56 head.target ++ (given 34 (option_map decimal head.seq) ++ given 52 head.time))

-- the header fields after BodyLength
abbrev pub head_fields : List ℕ → Head → List Field
head_fields kind head = typed kind ∷ given_fields head

-- each field as a place of its own, and no refusal
abbrev pub field_places : List Field → Places
field_places fields = record { places = map (λ f. record { way = []; fields = f ∷ [] }) fields; refused = None }

-- a text that is begun with its head
abbrev pub headed : ℕ → List ℕ → Head → Draft
headed limit kind head = begun limit head.begin (bytes_of (head_fields kind head))

-- tag lists without length fields, as for a head
abbrev pub no_lists : TagLists
no_lists = record { header = []; lengths = [] }

-- a value that is given is one that a field may have
abbrev pub IsGivenValue : Option (List ℕ) → Type 0
IsGivenValue None = ⊤
IsGivenValue (Some value) = IsValue value

-- the texts of a head are values that fields may have
pub record IsHeadReady (head : Head) : Type 0 where
  pub begin : IsValue head.begin
  pub sender : IsGivenValue head.sender
  pub target : IsGivenValue head.target
  pub time : IsGivenValue head.time
