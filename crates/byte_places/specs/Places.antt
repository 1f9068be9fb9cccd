-- Bytes copied to an offset of a buffer that holds them. Own profile.
use Rattle.std.specs.Prelude.{◌≡◌, ℕ, ◌+◌, List, ◌++◌, length, take, drop}

-- The bytes follow the first `at` bytes of the old buffer, up to `end`. The buffer is as long as before.
pub record IsPlaced (old new : List ℕ) (at : ℕ) (bytes : List ℕ) (end : ℕ) : Type 0 where
  pub front : take end new ≡ take at old ++ bytes
  pub moved : end ≡ at + length bytes
  pub long : length new ≡ length old

-- The same, and the bytes after them are those of the old buffer.
pub record IsPut (old new : List ℕ) (at : ℕ) (bytes : List ℕ) (end : ℕ) : Type 0 where
  pub placed : IsPlaced old new at bytes end
  pub rest : drop end new ≡ drop end old
