-- The four numbers of a header. From SBE 1.0, Message structure.
use Rattle.std.specs.Prelude.{◌≡◌, ℕ, List, take, drop, codes}
use Rattle.sbe_types.specs.declared.kind.Order.{Order}
use Rattle.sbe_types.specs.declared.kind.Primitive.TheVariants.{U16}
use Rattle.sbe_types.specs.declared.schema.WireSchema.{WireSchema}
use Rattle.sbe_types.specs.Numbers.{number_of, natural}
use Rattle.body_walk.specs.declared.head_numbers.HeadNumbers.{HeadNumbers}
use Rattle.body_walk.specs.Heads.{head_number}

-- the numbers are those in a header's bytes
pub record AreNumbersIn (schema : WireSchema) (head : List ℕ) (n : HeadNumbers) : Type 0 where
  pub block_is : n.block ≡ head_number schema (codes "blockLength") head
  pub template_is : n.template ≡ head_number schema (codes "templateId") head
  pub schema_is : n.schema ≡ head_number schema (codes "schemaId") head
  pub version_is : n.version ≡ head_number schema (codes "version") head

-- the number that two bytes encode
abbrev pub two_bytes : Order → ℕ → List ℕ → ℕ
two_bytes order place head = natural (number_of order U16 (take 2 (drop place head)))

-- the numbers have two bytes each, one after another
pub record AreTwoBytes (order : Order) (head : List ℕ) (n : HeadNumbers) : Type 0 where
  pub block_is : n.block ≡ two_bytes order 0 head
  pub template_is : n.template ≡ two_bytes order 2 head
  pub schema_is : n.schema ≡ two_bytes order 4 head
  pub version_is : n.version ≡ two_bytes order 6 head
