-- A block whose fields are set one by one. Own profile.
use Rattle.std.specs.Prelude.{◌≡◌, ℕ, ◌-◌, Some, List, ◌++◌, take, replicate}
use Rattle.sbe_types.specs.declared.kind.Order.{Order}
use Rattle.sbe_types.specs.declared.schema.Field.{Field}
use Rattle.sbe_types.specs.declared.message.Value.{Value}
use Rattle.sbe_types.specs.Places.{fields_end}
use Rattle.block_laws.specs.Pieces.{laid, AreWide, wires}

-- what a block is made of: the byte order, its declared length, its fields, and a value for each
pub record Task : Type 0 where
  pub order : Order
  pub long : ℕ
  pub fields : List Field
  pub values : List Value

-- The front is followed by a block in which the first i fields have the bytes of their values, the others have some
-- bytes of their width, and all other bytes are 00.
pub record HoldsFirst (task : Task) (i : ℕ) (front bytes : List ℕ) : Type 0 where
  pub pieces : List (List ℕ)
  pub wide : AreWide task.fields pieces
  pub whole : bytes ≡ front ++ (laid 0 task.fields pieces ++ replicate (task.long - fields_end 0 task.fields) 0)
  pub set : wires task.order (take i task.fields) (take i task.values) ≡ Some (take i pieces)
