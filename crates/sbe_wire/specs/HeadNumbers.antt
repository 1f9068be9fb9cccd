-- The numbers of headers and dimensions by name. From SBE 1.0, Message structure and Repeating group encoding.
use Rattle.std.specs.Prelude.{ℕ, if◌then◌else◌, List, codes}
use Rattle.std.specs.Str.{bytes_eq}
use Rattle.sbe_wire.specs.declared.counters.Counters.{Counters}
use Rattle.sbe_wire.specs.declared.counters.Counters.TheVariants.{Header, Dimension}
use Rattle.sbe_wire.specs.Canonical.{dimension_numbers}

-- the number with this name
abbrev pub number_of_name : Counters → List ℕ → ℕ
number_of_name (Header block template schema version) name =
    if bytes_eq name (codes "blockLength") then block
    else (if bytes_eq name (codes "templateId") then template
    else (if bytes_eq name (codes "schemaId") then schema else version))
number_of_name (Dimension block count) name = dimension_numbers block count name
