-- What a buffer holds.
use Rattle.std.specs.Prelude.{ℕ, ◌+◌, List, ◌++◌, Bool, take, drop, length}
use Rattle.typed_writer.specs.declared.stack.Frame.{Frame}

-- bytes, and how many there may be
pub record Filled : Type 0 where
  pub bytes : List ℕ
  pub limit : ℕ

-- The bytes of a body, the open writers, the innermost first, the offset of the block that was begun last, which of its
-- fields are set, and the most bytes that the body may have.
pub record Held : Type 0 where
  pub bytes : List ℕ
  pub frames : List Frame
  pub at : ℕ
  pub set : List Bool
  pub limit : ℕ

-- the bytes with others over those at an offset
abbrev pub spliced : List ℕ → ℕ → List ℕ → List ℕ
spliced bytes at piece = take at bytes ++ piece ++ drop (at + length piece) bytes
