-- What a pump knows of its input after the pieces that it took.
use Rattle.std.specs.Prelude.{◌≡◌, ℕ, Bool, true, false, Option, Some, List, [], ◌++◌}

-- the bytes that it holds, whether it has met the end of the input so that nothing follows, and whether what it holds
-- is all that follows
pub record Ahead : Type 0 where
  pub held : List ℕ
  pub met_end : Bool
  pub is_all : Bool

-- nothing is held, and no end was met
abbrev pub none_ahead : Ahead
none_ahead = record { held = []; met_end = false; is_all = false }

-- What follows the pieces is the bytes that are held, and then those that the source has left. If the end was met,
-- nothing follows; if what is held is all, nothing else follows.
pub record Follows (ahead : Ahead) (told : Option (List ℕ)) (input : List ℕ) : Type 0 where
  pub left : List ℕ
  pub source : told ≡ Some left
  pub whole : input ≡ ahead.held ++ left
  pub none : ahead.met_end ≡ true → input ≡ []
  pub all : ahead.is_all ≡ true → left ≡ []
