-- The lines that a schema's check prints.
use Rattle.std.specs.Prelude.{ℕ, List, ◌++◌, codes, decimal, flat_map}
use Rattle.sbe_types.specs.declared.schema.Level.{Level, out-Level}
use Rattle.schema_lines.specs.Texts.{json_text}
use Rattle.schema_lines.specs.Counts.{groups_in, parts_in}

-- a message's name, id and block length in bytes, and how many groups and data parts it has at all levels
abbrev pub message_line : Level → List ℕ
message_line level =
    codes "{\"message\":" ++ (json_text (out-Level level).name ++ (codes ",\"id\":" ++ (decimal (out-Level level).id
    ++ (codes ",\"block\":" ++ (decimal (out-Level level).block_length ++ (codes ",\"groups\":" ++ (decimal (groups_in level)
    ++ (codes ",\"data\":" ++ (decimal (parts_in level) ++ codes "}\n")))))))))

-- a line for each message, in order
abbrev pub message_lines : List Level → List ℕ
message_lines messages = flat_map message_line messages
