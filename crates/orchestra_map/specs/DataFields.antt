-- The data fields of a mapping, with the fields that give their lengths.
use Rattle.std.specs.Prelude.{Bool, ◌||◌, not, if◌then◌else◌, List, codes, filter_map, Option, None, option_map}
use Rattle.std.specs.List.{list_any}
use Rattle.std.specs.Str.{bytes_eq}
use Rattle.map_types.specs.declared.tree.CodeSetEl.{CodeSetEl}
use Rattle.map_types.specs.declared.tree.FieldEl.{FieldEl}
use Rattle.map_types.specs.Trees.{Members}
use Rattle.tagvalue_codec.specs.declared.data_tags.Pair.{Pair}

-- the pair of a field of the datatype data that has a lengthId; a code set named data hides the datatype
abbrev pub data_pair : Bool → FieldEl → Option Pair
data_pair hidden f =
    if hidden || not (bytes_eq f.type_name (codes "data")) then None
    else option_map (λ length. record { length_tag = length; tag = f.id }) f.length_id

-- The code set is named data.
abbrev pub hides_data : CodeSetEl → Bool
hides_data s = bytes_eq s.name (codes "data")

-- the pairs of length tag and data tag, in the order of the data fields
abbrev pub pairs_of : Members → List Pair
pairs_of m = filter_map (data_pair (list_any hides_data m.code_sets)) m.fields
