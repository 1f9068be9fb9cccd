-- Two levels with equal parts.
use Rattle.std.proofs.Common.{◌≡◌, ◌∙◌, ℕ, List, sym, ap}
use Rattle.sbe_types.specs.declared.schema.Field.{Field}
use Rattle.sbe_types.specs.declared.schema.DataField.{DataField}
use Rattle.sbe_types.specs.declared.schema.Group.{Group}
use Rattle.sbe_types.specs.declared.schema.Level.{Level, out-Level, roll-Level, roll-out-Level}

-- what comes before the parts of a level
record Head : Type 0 where
  name : List ℕ
  semantic : List ℕ
  id : ℕ
  since : ℕ
  block_length : ℕ

head_of : Level → Head
head_of l =
    record { name = (out-Level l).name; semantic = (out-Level l).semantic; id = (out-Level l).id; since = (out-Level l).since; block_length = (out-Level l).block_length }

-- a level of these parts
made : Head → List Field → List DataField → List Group → Level
made head fields parts groups =
    roll-Level (record { name = head.name; id = head.id; semantic = head.semantic; since = head.since; block_length = head.block_length; fields = fields; groups = groups; parts = parts })

is_made : (l : Level) → made (head_of l) (out-Level l).fields (out-Level l).parts (out-Level l).groups ≡ l
unfolding made head_of
is_made l = roll-out-Level l

head : List ℕ → List ℕ → ℕ → ℕ → ℕ → Head
head name semantic id since block_length = record { name = name; semantic = semantic; id = id; since = since; block_length = block_length }

module _ (a b : Level) where
  heads : (out-Level a).name ≡ (out-Level b).name → (out-Level a).semantic ≡ (out-Level b).semantic → (out-Level a).id ≡ (out-Level b).id →
      (out-Level a).since ≡ (out-Level b).since → (out-Level a).block_length ≡ (out-Level b).block_length → head_of a ≡ head_of b
  unfolding head_of head
  heads name semantic id since block_length =
      ap (λ x. head x (out-Level a).semantic (out-Level a).id (out-Level a).since (out-Level a).block_length) name
      ∙ ap (λ x. head (out-Level b).name x (out-Level a).id (out-Level a).since (out-Level a).block_length) semantic
      ∙ ap (λ x. head (out-Level b).name (out-Level b).semantic x (out-Level a).since (out-Level a).block_length) id
      ∙ ap (λ x. head (out-Level b).name (out-Level b).semantic (out-Level b).id x (out-Level a).block_length) since
      ∙ ap (λ x. head (out-Level b).name (out-Level b).semantic (out-Level b).id (out-Level b).since x) block_length

  pub level_is : ((out-Level a).name ≡ (out-Level b).name) × ((out-Level a).semantic ≡ (out-Level b).semantic) × ((out-Level a).id ≡ (out-Level b).id)
      × ((out-Level a).since ≡ (out-Level b).since) × ((out-Level a).block_length ≡ (out-Level b).block_length) →
      (out-Level a).fields ≡ (out-Level b).fields → (out-Level a).parts ≡ (out-Level b).parts → (out-Level a).groups ≡ (out-Level b).groups → a ≡ b
  level_is five fields parts groups =
      sym (is_made a)
      ∙ ap (λ x. made x (out-Level a).fields (out-Level a).parts (out-Level a).groups) (heads five.0 five.1 five.2 five.3 five.4)
      ∙ ap (λ x. made (head_of b) x (out-Level a).parts (out-Level a).groups) fields
      ∙ ap (λ x. made (head_of b) (out-Level b).fields x (out-Level a).groups) parts
      ∙ ap (λ x. made (head_of b) (out-Level b).fields (out-Level b).parts x) groups ∙ is_made b
