-- The fields of a text, known by its bytes. Own profile.
use Rattle.std.specs.Prelude.{◌≡◌, ◌≢◌, ℕ, ◌<◌, ◌^◌, Bool, false, List, length, map, Option, Some, None, Ok, ⊤}
use Rattle.std.specs.List.{AllByRecursion}
use Rattle.std.specs.Fmt.{decimal}
use Rattle.sbe_types.specs.declared.message.Value.{Value}
use Rattle.tagvalue_codec.specs.declared.data_tags.Pair.{Pair}
use Rattle.tagvalue_codec.specs.Fields.{Field, soh}
use Rattle.bridge_rules.specs.Rules.{Rule}
use Rattle.bridge_rules.specs.Texts.{text_by}
use Rattle.bridge_rules.specs.Values.{has_any_byte}
use Rattle.bridge_terms.specs.MessageFields.{length_in}
use Rattle.bridge_terms.specs.Parts.{TagLists}
use Rattle.bridge_terms.specs.Plans.{Each, Plan, Tree, done, single, group, is_in}

-- ---- fields

-- the pairs are those of the length fields
abbrev pub ArePairsOf : List Pair → TagLists → Type 0
ArePairsOf tags lists = lists.lengths ≡ map (λ (p : Pair). (p.length_tag, p.tag)) tags

-- the tag is that of a length field
abbrev pub is_length : List Pair → ℕ → Bool
is_length tags tag = is_in tag (map (λ (p : Pair). p.length_tag) tags)

-- a value without a length field contains no SOH
abbrev pub IsDelimited : Option ℕ → List ℕ → Type 0
IsDelimited None value = AllByRecursion (λ b. b ≢ soh) value
IsDelimited (Some tag) value = tag < 2 ^ 64

-- The end of the field's value is found: by its length field, or by the SOH after it. Tag and length have 64 bits.
pub record HasEnd (lists : TagLists) (f : Field) : Type 0 where
  pub small : f.tag < 2 ^ 64
  pub short : length f.value < 2 ^ 64
  pub ends : IsDelimited (length_in f.tag lists.lengths) f.value

-- The same of a field that isn't a length field.
pub record IsFound (tags : List Pair) (lists : TagLists) (f : Field) : Type 0 where
  pub own : is_length tags f.tag ≡ false
  pub end : HasEnd lists f

-- ---- plans

-- the property holds of each field that may be written of these values
abbrev pub EachField : (Field → Type 0) → (p : Plan) → Tree Value p → Type 0
EachField P done t = ⊤
EachField P (single s rest) t =
    ((text : List ℕ) → text_by s.rule t.0 ≡ Ok (Some text) → P (record { tag = s.tag; value = text })) × EachField P rest t.1
EachField P (group g inner rest) t =
    P (record { tag = g.tag; value = decimal (length t.0) }) × Each (λ e. EachField P inner e) t.0 × EachField P rest t.1

-- a rule whose texts may contain any byte is that of data with a length field
abbrev pub EndsBy : Option ℕ → Rule → Type 0
EndsBy None rule = has_any_byte rule ≡ false
EndsBy (Some tag) rule = tag < 2 ^ 64

-- The end of each value that is written by the plan is found.
abbrev pub IsClear : TagLists → Plan → Type 0
IsClear lists done = ⊤
IsClear lists (single s rest) = (s.tag < 2 ^ 64) × EndsBy (length_in s.tag lists.lengths) s.rule × IsClear lists rest
IsClear lists (group g inner rest) =
    (g.tag < 2 ^ 64) × (length_in g.tag lists.lengths ≡ None) × IsClear lists inner × IsClear lists rest
