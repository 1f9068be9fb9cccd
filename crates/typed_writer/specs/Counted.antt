-- Members that can hold the numbers of headers and dimensions. From SBE 1.0, Message structure and Repeating group encoding.
use Rattle.std.specs.Prelude.{◌≡◌, ℕ, true, List}
use Rattle.std.specs.List.{AllByRecursion}
use Rattle.sbe_types.specs.declared.kind.Member.{Member}
use Rattle.schema_rules.specs.Counters.{leaf_in, is_counter, holds_in}

-- the member is one unsigned number of at most four bytes, and can hold the number of its name
pub record HasRoomFor (numbers : List ℕ → ℕ) (member : Member) : Type 0 where
  pub counter : is_counter (leaf_in member.kind) ≡ true
  pub holds : holds_in (leaf_in member.kind) (numbers member.name) ≡ true

-- the same for each member
abbrev pub HaveRoomFor : (List ℕ → ℕ) → List Member → Type 0
HaveRoomFor numbers members = AllByRecursion (HasRoomFor numbers) members
