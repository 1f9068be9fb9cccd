-- The notes of messages that aren't translated. Own profile.
use Rattle.std.specs.Prelude.{◌≡◌, ℕ, ◌+◌, min, None, List, [], ◌∷◌, ◌++◌, codes, ⊤, refl}
use Rattle.std.specs.Fmt.{decimal}
use Rattle.sbe_types.specs.declared.schema.Level.{Level}
use Rattle.fix_values.specs.declared.rule.V.{V}
use Rattle.fix_values.specs.declared.rule.V.TheVariants as v
use Rattle.open_framing.specs.declared.head.TheConstants.{HEAD_BYTES}
use Rattle.refused_items.specs.Refused.{Refused as RefusedItem, refused_line}
use Rattle.bridge_terms.specs.Places.{Way, Why, no_text, no_delimiter, Refused, Unsent, over_limit, unwritten}
use Rattle.bridge_terms.specs.Plans.{Plan}
use Rattle.message_walk.specs.Ways.{kept_way}
use Rattle.way_texts.specs.WayTexts.{way_text}

-- the code of why a value doesn't have a text
abbrev pub value_code : V → List ℕ
value_code v.Spelling = codes "V1"
value_code v.Range = codes "V2"
value_code v.Inexact = codes "V3"
value_code v.Soh = codes "V4"
value_code v.Empty = codes "V5"
value_code v.UnknownCode = codes "V6"

-- the names after the first, with a dot before each
abbrev pub dotted : List (List ℕ) → List ℕ
dotted [] = []
dotted (name ∷ names) = codes "." ++ (name ++ dotted names)

-- names joined by dots
abbrev pub dot_path : List (List ℕ) → List ℕ
dot_path [] = []
dot_path (name ∷ names) = name ++ dotted names

-- the refusal of a message whose template has no message in the mapping
abbrev pub of_no_message : RefusedItem
of_no_message = record { code = codes "B01"; offset = None; path = []; detail = [] }

-- the refusal of a message with a part that the mapping doesn't cover
abbrev pub of_uncovered : List (List ℕ) → RefusedItem
of_uncovered path = record { code = codes "B02"; offset = None; path = dot_path path; detail = [] }

-- the refusal of a place that isn't written: a value without a text, or an entry without its delimiter
abbrev pub of_why : Why → List ℕ → RefusedItem
of_why (no_text v) path = record { code = codes "B03"; offset = None; path = path; detail = value_code v }
of_why no_delimiter path = record { code = codes "B06"; offset = None; path = path; detail = [] }

-- the refusal of a text of `size` bytes, which are too many; the detail counts its frame
abbrev pub of_full : ℕ → RefusedItem
of_full size = record { code = codes "N08"; offset = None; path = []; detail = decimal (size + HEAD_BYTES) }

-- the refusal for a text: it would be too long, or a place isn't written
abbrev pub of_unsent : Level → Plan → Unsent → RefusedItem
of_unsent level p (over_limit o) = of_full (min o.size 18446744073709551615)
of_unsent level p (unwritten r) = of_why r.why (way_text p level r.way)

-- the line of a message whose text is refused
pub unsent_line : ℕ → Level → Plan → Unsent → List ℕ
unsent_line item level p u = refused_line item (of_unsent level p u)

-- the equation of the line of a refused message
pub unsent_line_is : (item : ℕ) (level : Level) (p : Plan) (u : Unsent) → unsent_line item level p u ≡ refused_line item (of_unsent level p u)
unfolding unsent_line
unsent_line_is item level p u = refl

-- the path to a place that isn't written has few steps
abbrev pub IsNear : Unsent → Type 0
IsNear (over_limit o) = ⊤
IsNear (unwritten r) = kept_way r.way ≡ r.way
