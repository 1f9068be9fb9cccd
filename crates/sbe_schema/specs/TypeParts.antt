-- The parts of a type's element, each with all that is read after it. The whole is made of what a part reads by a function
-- that is given.
use Rattle.std.specs.Prelude.{ℕ, List, codes, Ok}
use Rattle.serde_json.specs.Data.{Data, Items}
use Rattle.json_elements.specs.Reading.{Reading, ◌>>=◌}
use Rattle.json_elements.specs.Forms.{whole, text, text_or_number}
use Rattle.json_elements.specs.Attributes.{needed, with_default, optional}
use Rattle.json_elements.specs.Elements.{no_children}
use Rattle.sbe_types.specs.declared.tree.TypeEl.{TypeEl}
use Rattle.sbe_schema.specs.declared.types.Standing.{Standing}
use Rattle.sbe_schema.specs.declared.types.NumberedType.{NumberedType}
use Rattle.sbe_schema.specs.declared.types.ReferredType.{ReferredType}
use Rattle.sbe_schema.specs.declared.types.PlacedType.{PlacedType}
use Rattle.sbe_schema.specs.Forms.{a_value_ref, a_primitive, a_presence, a_length}
use Rattle.sbe_schema.specs.Types.{offset_from, since_from}

-- from `text` on
abbrev pub placed_from : (PlacedType → TypeEl) → Standing → Items → Data → Reading TypeEl
placed_from made standing children d = do
  its_text ← optional text_or_number (codes "text") d
  offset ← offset_from standing d
  since_version ← since_from standing d
  _ ← no_children children
  Ok (made (record { text = its_text; offset = offset; since_version = since_version }))

-- from `valueRef` on
abbrev pub referred_from : (ReferredType → TypeEl) → Standing → Items → Data → Reading TypeEl
referred_from made standing children d = do
  value_ref ← optional a_value_ref (codes "valueRef") d
  placed_from (λ placed. made (record { value_ref = value_ref; placed = placed })) standing children d

-- from `primitiveType` on
abbrev pub numbered_from : (NumberedType → TypeEl) → Standing → Items → Data → Reading TypeEl
numbered_from made standing children d = do
  primitive_type ← needed a_primitive (codes "primitiveType") d
  its_length ← with_default 1 a_length (codes "length") d
  presence ← optional a_presence (codes "presence") d
  null_value ← optional whole (codes "nullValue") d
  min_value ← optional whole (codes "minValue") d
  max_value ← optional whole (codes "maxValue") d
  character_encoding ← optional text (codes "characterEncoding") d
  referred_from (λ referred. made (record {
    primitive_type = primitive_type;
    length = its_length;
    presence = presence;
    null_value = null_value;
    min_value = min_value;
    max_value = max_value;
    character_encoding = character_encoding;
    referred = referred;
  })) standing children d

-- a type with this name
abbrev pub type_named : List ℕ → NumberedType → TypeEl
type_named name t =
    record {
      name = name;
      primitive_type = t.primitive_type;
      length = t.length;
      presence = t.presence;
      null_value = t.null_value;
      min_value = t.min_value;
      max_value = t.max_value;
      character_encoding = t.character_encoding;
      value_ref = t.referred.value_ref;
      text = t.referred.placed.text;
      offset = t.referred.placed.offset;
      since_version = t.referred.placed.since_version;
    }
