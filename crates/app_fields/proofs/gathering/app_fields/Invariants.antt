use Rattle.std.proofs.Common.{◌≡◌, ◌++◌, List, drop}
use Rattle.tagvalue_codec.specs.Fields.{Field, bytes_of}
use Rattle.tagvalue_codec.specs.Reading.{placed}
use Rattle.bridge_terms.specs.Parts.{application_fields, TagLists}
use Rattle.field_judge.specs.Fields.{fields_of}
use Rattle.bridge_mapping.specs.Tables.{HaveSameTags}
use Rattle.app_fields.proofs.gathering.app_fields.Given as goal

abbrev pub invariant-loop-i : goal.invariant-loop-i
invariant-loop-i l = (fields : List Field) (lists : TagLists) → l.text ≡ bytes_of fields → l.table ≡ placed 0 fields → HaveSameTags l.tags lists
    → fields_of l.own.items ++ application_fields lists (drop l.i fields) ≡ application_fields lists fields
