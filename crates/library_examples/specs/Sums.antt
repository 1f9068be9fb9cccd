-- The sum of a field over the entries of a group.
use Rattle.std.specs.Prelude.{◌≡◌, ℕ, ℤ, pos, ◌+ℤ◌, Some, unwrap_or, List, [], ◌∷◌, ◌++◌, slice_get, FitsSigned}
use mir.Syntax.{w128}
use Rattle.sbe_types.specs.declared.schema.Level.{Level}
use Rattle.sbe_types.specs.declared.schema.WireSchema.{WireSchema}
use Rattle.sbe_types.specs.declared.message.Msg.{Msg}
use Rattle.sbe_wire.specs.Faults.{FirstFault}
use Rattle.sbe_wire.specs.Lays.{Lays}
use Rattle.flyweight_view.specs.TypedBlocks.{TypedBlock, typed_level}
use Rattle.body_walk.specs.Refusals.{refused}
use Rattle.field_lookup.specs.Values.{group_entries, number_at}
use Rattle.library_examples.specs.declared.sums.SumErr.{SumErr}
use Rattle.library_examples.specs.declared.sums.SumErr.TheVariants.{Refused, Over}

-- the sum of field i over entries; one without a number counts as 0
abbrev pub sum_at : ℕ → List TypedBlock → ℤ
sum_at i [] = pos 0
sum_at i (e ∷ es) = unwrap_or (number_at i e) (pos 0) +ℤ sum_at i es

-- the sum of a field over the entries of group number `group` of a block
abbrev pub group_sum : ℕ → ℕ → TypedBlock → ℤ
group_sum group field seen = sum_at field (group_entries group seen)

-- The sum of a field over some of the first entries exceeds 128 bits.
pub record PassesRange (field : ℕ) (entries : List TypedBlock) : Type 0 where
  pub front : List TypedBlock
  pub back : List TypedBlock
  pub first : entries ≡ front ++ back
  pub over : FitsSigned w128 (sum_at field front) → ⊥

-- A message lies in the body, and this is the sum of a field over the entries of one of its groups.
pub record IsSum (schema : WireSchema) (body : List ℕ) (group field : ℕ) (sum : ℤ) : Type 0 where
  pub message : Msg
  pub level : Level
  pub lies : Lays schema message body
  pub root : slice_get schema.messages message.template ≡ Some level
  pub is : sum ≡ group_sum group field (typed_level level message.block)

-- A message lies in the body, and over some of the first entries of one of its groups the sum of a field exceeds 128
-- bits.
pub record IsOver (schema : WireSchema) (body : List ℕ) (group field : ℕ) : Type 0 where
  pub message : Msg
  pub level : Level
  pub lies : Lays schema message body
  pub root : slice_get schema.messages message.template ≡ Some level
  pub passes : PassesRange field (group_entries group (typed_level level message.block))

-- the first fault of the body, or that a sum exceeds 128 bits
abbrev pub IsNoSum : WireSchema → List ℕ → ℕ → ℕ → SumErr → Type 0
IsNoSum schema body group field (Refused r) = FirstFault schema (refused r) body
IsNoSum schema body group field Over = IsOver schema body group field
