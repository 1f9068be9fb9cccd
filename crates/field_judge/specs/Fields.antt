-- Application fields, as the definitions have them.
use Rattle.std.specs.Prelude.{ℕ, List, map}
use Rattle.tagvalue_codec.specs.Fields.{Field}
use Rattle.bridge_terms.specs.Parts.{Part}
use Rattle.field_judge.specs.declared.field.AppField.{AppField}

-- a field of the code as one of the definitions
abbrev pub field_of : AppField → Field
field_of f = record { tag = f.tag; value = f.text.now }

-- the fields of the code as those of the definitions
abbrev pub fields_of : List AppField → List Field
fields_of fields = map field_of fields

-- a part with this tag, text and run
abbrev pub part_with : ℕ → List ℕ → List Field → Part
part_with tag text run = record { tag = tag; text = text; run = run }
