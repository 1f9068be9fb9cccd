-- Notes on which the laws are computed.
use Rattle.std.specs.Prelude.{ℕ, List, codes}

-- The note for a line that names no message of the schema.
abbrev pub unknown_template : List ℕ
unknown_template = codes "{\"refused\":\"J03\",\"item\":2,\"offset\":null,\"path\":\"Pong\",\"detail\":\"\"}\n"

-- The note for a message that needs one byte more than a frame of 64 bytes has.
abbrev pub one_byte_more : List ℕ
one_byte_more = codes "{\"refused\":\"N08\",\"item\":0,\"offset\":null,\"path\":\"\",\"detail\":\"65\"}\n"
