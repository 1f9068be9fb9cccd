-- Streams on which the laws are computed. Own profile.
use Rattle.std.specs.Prelude.{ℕ, List, [], ◌∷◌, ◌++◌, take}
use Rattle.open_framing.specs.declared.head.TheConstants.{SBE_LITTLE}
use Rattle.open_framing.specs.Frames.{Item}

-- an SBE message: block length 6, template 1, schema 7, version 0, and six bytes of fields
abbrev pub ping : List ℕ
ping = 0x06 ∷ 0x00 ∷ 0x01 ∷ 0x00 ∷ 0x07 ∷ 0x00 ∷ 0x00 ∷ 0x00 ∷ 0x02 ∷ 0x01 ∷ 0x00 ∷ 0x00 ∷ 0x00 ∷ 0x80 ∷ []

-- the item of that message in little-endian order
abbrev pub ping_item : Item
ping_item = record { encoding = SBE_LITTLE; body = ping }

-- the frame of that item: 20 bytes
abbrev pub ping_frame : List ℕ
ping_frame = 0x00 ∷ 0x00 ∷ 0x00 ∷ 0x14 ∷ 0xeb ∷ 0x50 ∷ ping

-- the frame without its last byte
abbrev pub ping_begun : List ℕ
ping_begun = take 19 ping_frame

-- two such frames, and the first three bytes of a third
abbrev pub pings : List ℕ
pings = ping_frame ++ ping_frame ++ take 3 ping_frame

-- a head of five bytes
abbrev pub short_head : List ℕ
short_head = 0x00 ∷ 0x00 ∷ 0x00 ∷ 0x05 ∷ 0xeb ∷ 0x50 ∷ []

-- a head of one byte above 65,536
abbrev pub long_head : List ℕ
long_head = 0x00 ∷ 0x01 ∷ 0x00 ∷ 0x01 ∷ 0xeb ∷ 0x50 ∷ []

-- a head with an unknown encoding type
abbrev pub strange_head : List ℕ
strange_head = 0x00 ∷ 0x00 ∷ 0x00 ∷ 0x06 ∷ 0xf5 ∷ 0x00 ∷ []
