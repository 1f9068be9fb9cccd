-- The datatypes of FIX that a mapping may name without declaring them.
use Rattle.std.specs.Prelude.{ℕ, Bool, ◌||◌, List, [], ◌∷◌, codes}
use Rattle.std.specs.List.{list_any}
use Rattle.std.specs.Str.{bytes_eq}

-- The name is one of these.
abbrev pub is_one_of : List (List ℕ) → List ℕ → Bool
is_one_of names name = list_any (bytes_eq name) names

-- int and the datatypes that are spelled like it
abbrev pub is_int_type : List ℕ → Bool
is_int_type = is_one_of (codes "int" ∷ (codes "Length" ∷ (codes "NumInGroup" ∷ (codes "SeqNum" ∷ []))))

-- float and the datatypes that are spelled like it
abbrev pub is_decimal_type : List ℕ → Bool
is_decimal_type = is_one_of (codes "Price" ∷ (codes "Qty" ∷ (codes "Amt" ∷ (codes "PriceOffset" ∷ (codes "Percentage" ∷ (codes "float" ∷ []))))))

-- texts, characters, truth values and data
abbrev pub is_text_type : List ℕ → Bool
is_text_type =
    is_one_of
    (codes "char" ∷ (codes "Boolean" ∷ (codes "String" ∷ (codes "Currency" ∷ (codes "Country" ∷ (codes "Exchange" ∷ (codes "MultipleCharValue" ∷ (codes "data" ∷ []))))))))

-- dates and times
abbrev pub is_time_type : List ℕ → Bool
is_time_type =
    is_one_of
    (codes "UTCTimestamp" ∷ (codes "UTCTimeOnly" ∷ (codes "UTCDateOnly" ∷ (codes "LocalMktDate" ∷ (codes "MonthYear" ∷ (codes "DayOfMonth" ∷ (codes "TZTimeOnly" ∷ (codes "TZTimestamp" ∷ []))))))))

-- datatypes that are known but can't be translated
abbrev pub is_other_type : List ℕ → Bool
is_other_type = is_one_of (codes "Language" ∷ (codes "XMLData" ∷ (codes "MultipleStringValue" ∷ [])))

-- a datatype of FIX
abbrev pub is_standard : List ℕ → Bool
is_standard name = is_int_type name || (is_decimal_type name || (is_text_type name || (is_time_type name || is_other_type name)))
