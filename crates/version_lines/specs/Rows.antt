-- Frames of a newer writer, and the lines that the older schema prints for them. Own profile.
use Rattle.std.specs.Prelude.{ℕ, List, codes}
use Rattle.open_framing.specs.declared.head.TheConstants.{SBE_LITTLE}
use Rattle.open_framing.specs.Frames.{Item}
use Rattle.version_laws.specs.Rows.{event_raw_body, ne_body}

-- e 53, k 7, z 9, memo A
abbrev pub event_frame : Item
event_frame = record { encoding = SBE_LITTLE; body = event_raw_body }

-- what the schema without z and memo, and without the value 53, prints for it
abbrev pub event_line : List ℕ
event_line = codes "{\"data\":{},\"fields\":{\"e\":53,\"k\":7},\"groups\":{},\"template\":\"Ev\",\"version\":2}\n"

-- two entries: x 5 and t A, then x 6 and t empty
abbrev pub entries_frame : Item
entries_frame = record { encoding = SBE_LITTLE; body = ne_body }

-- what the schema without t knows of these entries
abbrev pub entries_line : List ℕ
entries_line =
    codes "{\"data\":{},\"fields\":{},\"groups\":{\"g\":[{\"data\":{},\"fields\":{\"x\":5},\"groups\":{}},{\"data\":{},\"fields\":{\"x\":6},\"groups\":{}}]},\"template\":\"Ne\",\"version\":1}\n"

-- what that schema prints: it takes the front of t for the second entry
abbrev pub misread_line : List ℕ
misread_line =
    codes "{\"data\":{},\"fields\":{},\"groups\":{\"g\":[{\"data\":{},\"fields\":{\"x\":5},\"groups\":{}},{\"data\":{},\"fields\":{\"x\":1},\"groups\":{}}]},\"template\":\"Ne\",\"version\":1}\n"
