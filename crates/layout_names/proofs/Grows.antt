-- The tables of names grow level by level.
use Rattle.std.proofs.Common.{◌≡◌, ◌+◌, ℕ, zero, suc, List, [], ◌∷◌, ◌++◌, take, Some, ap, ◌∙◌, arith}
use Rattle.std.specs.Prelude.{slice_get}
use Rattle.std.specs.Option.{option_map}
use Rattle.sbe_types.specs.declared.schema.Level.{Level}
use Rattle.schema_facts.specs.Levels.{Node}
use Rattle.layout_names.specs.declared.tables.LevelNames.{LevelNames}
use Rattle.layout_names.specs.Tables.{part_names, parts_names}

-- the names of one level more
pub names_more : (nodes : List Node) (n : ℕ) (level : Level) → option_map (λ (node : Node). node.level) (slice_get nodes n) ≡ Some level
    → parts_names (take (n + 1) nodes) ≡ parts_names (take n nodes) ++ part_names level ∷ []
names_more [] n level h = cc
names_more (x ∷ nodes) zero level h = let is : x.level ≡ level = cc in ap (λ (l : Level). part_names l ∷ []) is
names_more (x ∷ nodes) (suc n) level h =
    let next : suc n + 1 ≡ suc (n + 1) = omega arith in
    ap (λ (k : ℕ). parts_names (take k (x ∷ nodes))) next ∙ ap (λ (l : List LevelNames). part_names x.level ∷ l) (names_more nodes n level h)
