-- The block that values make. Own profile.
use Rattle.std.specs.Prelude.{◌≡◌, List, map}
use Rattle.sbe_types.specs.declared.message.Block.{Block}
use Rattle.sbe_types.specs.declared.message.GroupVal.{GroupVal}
use Rattle.sbe_types.specs.declared.message.GroupVal as groupval
use Rattle.sbe_types.specs.declared.message.Value.{Value}
use Rattle.sbe_types.specs.declared.schema.Level.{Level}
use Rattle.bridge_terms.specs.Blocks.{values_of, HasEntries, HasLengths}
use Rattle.bridge_terms.specs.Plans.{Each, Plan, Repeat, Tree}

-- the block is one of the level, and has these values
pub record IsBlockOf (level : Level) (p : Plan) (t : Tree Value p) (block : Block) : Type 0 where
  pub lengths : HasLengths level block
  pub entries : HasEntries p block
  pub values : values_of p block ≡ t

-- the same of entries
pub record AreEntries (level : Level) (inner : Plan) (es : List (Tree Value inner)) (entries : List Block) : Type 0 where
  pub fit : Each (λ e. HasLengths level e × HasEntries inner e) entries
  pub values : map (λ e. values_of inner e) entries ≡ es

-- the group has such entries
pub record HasEntriesOf (g : Repeat) (inner : Plan) (es : List (Tree Value inner)) (v : GroupVal) : Type 0 where
  pub entries : List Block
  pub is : v ≡ groupval.Entries entries
  pub are : AreEntries g.level inner es entries
