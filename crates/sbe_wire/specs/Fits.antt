-- Which messages can be written. Own profile.
use Rattle.std.specs.Prelude.{◌≡◌, ℕ, Some, List, [], ◌∷◌, length, IsTrue, pos, ⊤, slice_get, codes}
use Rattle.sbe_types.specs.declared.kind.Order.{Order}
use Rattle.sbe_types.specs.declared.schema.Field.{Field}
use Rattle.sbe_types.specs.declared.schema.DataField.{DataField}
use Rattle.sbe_types.specs.declared.schema.Group.{Group, Group'}
use Rattle.sbe_types.specs.declared.schema.Level.{Level, Level', Row_of-Group, end_of-Group, more_of-Group}
use Rattle.sbe_types.specs.declared.schema.WireSchema.{WireSchema}
use Rattle.sbe_types.specs.declared.message.Value.{Value}
use Rattle.sbe_types.specs.declared.message.DataVal.{DataVal}
use Rattle.sbe_types.specs.declared.message.DataVal.TheVariants as dataval
use Rattle.sbe_types.specs.declared.message.Block.{Block, out-Block}
use Rattle.sbe_types.specs.declared.message.GroupVal.{GroupVal}
use Rattle.sbe_types.specs.declared.message.GroupVal.TheVariants as groupval
use Rattle.sbe_types.specs.declared.message.Msg.{Msg}
use Rattle.sbe_types.specs.Shown.{admits}
use Rattle.sbe_types.specs.Wire.{FitsKind}
use Rattle.sbe_wire.specs.Named.{is_admitted}

-- there are as many values as fields, and each fits its kind
abbrev pub FieldsFit : Order → List Field → List Value → Type 0
FieldsFit order [] [] = ⊤
FieldsFit order [] (v ∷ vs) = ⊥
FieldsFit order (f ∷ fs) [] = ⊥
FieldsFit order (f ∷ fs) (v ∷ vs) = FitsKind order f.kind v × FieldsFit order fs vs

-- the data is there, and its length is admitted
abbrev pub PartFits : DataField → DataVal → Type 0
PartFits part v = (bytes : List ℕ) × (v ≡ dataval.Bytes bytes) × IsTrue (admits part.length (pos (length bytes)))

-- there are as many data parts as the level has, and each fits
abbrev pub PartsFit : List DataField → List DataVal → Type 0
PartsFit [] [] = ⊤
PartsFit [] (v ∷ vs) = ⊥
PartsFit (p ∷ ps) [] = ⊥
PartsFit (p ∷ ps) (v ∷ vs) = PartFits p v × PartsFit ps vs

-- each entry fits
abbrev pub EachFits : {X : Type 0} → (X → Type 0) → List X → Type 0
EachFits P [] = ⊤
EachFits P (x ∷ xs) = P x × EachFits P xs

abbrev mutual
  -- the fields, groups and data of a level fit
  pub BlockFits : Order → Level → Block → Type 0
  BlockFits order (Level' name id semantic since block_length fields _ groups parts) block =
      FieldsFit order fields (out-Block block).fields × GroupsFit order groups (out-Block block).groups × PartsFit parts (out-Block block).parts

  -- there are as many groups as the level has, and each fits
  pub GroupsFit : Order → {n : _} → Row_of-Group n → List GroupVal → Type 0
  GroupsFit order end_of-Group [] = ⊤
  GroupsFit order end_of-Group (v ∷ vs) = ⊥
  GroupsFit order (more_of-Group g rest) [] = ⊥
  GroupsFit order (more_of-Group g rest) (v ∷ vs) = GroupFits order g v × GroupsFit order rest vs

  -- the entries are there, their count is admitted, and each fits
  pub GroupFits : Order → Group → GroupVal → Type 0
  GroupFits order (Group' dim level) v =
      (entries : List Block) × (v ≡ groupval.Entries entries) × IsTrue (is_admitted dim (codes "numInGroup") (length entries))
      × EachFits (λ entry. BlockFits order level entry) entries

-- a message of the schema's own version, of one of its templates, whose parts all fit
abbrev pub Fits : WireSchema → Msg → Type 0
Fits schema m =
    (level : Level) × (slice_get schema.messages m.template ≡ Some level) × (m.version ≡ schema.version) × BlockFits schema.order level m.block
