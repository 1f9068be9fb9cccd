-- What the bridge does at one level of a message: the parts of the template in the order of the mapped structure, and
-- what is at them, as a tree of the same shape. From FIX Orchestra, message structures, components and groups. Own
-- profile: which parts are covered.
use Rattle.std.specs.Prelude.{ℕ, Bool, false, ◌&&◌, ◌||◌, ◌==◌, List, [], ◌∷◌, ◌++◌, map, IsTrue, ⊤, pos, length}
use Rattle.std.specs.List.{list_any}
use Rattle.sbe_types.specs.declared.kind.Leaf.{Leaf as LeafOf}
use Rattle.sbe_types.specs.declared.schema.Level.{Level}
use Rattle.sbe_types.specs.declared.message.Value.{Value}
use Rattle.sbe_types.specs.Shown.{admits}
use Rattle.bridge_rules.specs.Rules.{Rule}
use Rattle.bridge_rules.specs.Good.{Good}

-- a field or data part of a level, by its number among the fields or the data
pub data Place : Type 0 where
  in_fields : ℕ → Place
  in_data : ℕ → Place

-- a field or data part of the template: its tag, its place in the level, and how it is spelled
pub record Slot : Type 0 where
  pub tag : ℕ
  pub place : Place
  pub rule : Rule

-- a group of the template: its count's tag, its level in the schema, its number among the level's groups, the tag that
-- begins each entry, the type of its count, and all tags that its structure owns, including nested ones and those that
-- the template lacks
pub record Repeat : Type 0 where
  pub tag : ℕ
  pub level : Level
  pub place : ℕ
  pub delimiter : ℕ
  pub count : LeafOf
  pub owned : List ℕ

-- the parts of a level that the template has, in the order of the structure: a field or data part and the parts after
-- it; or a group, the parts of its entries, and the parts after it
pub data Plan : Type 0 where
  done : Plan
  single : Slot → Plan → Plan
  group : Repeat → Plan → Plan → Plan

-- what is at the parts of a plan: one item at each field or data part, a list of entries at each group
abbrev pub Tree : Type 0 → Plan → Type 0
Tree X done = Unit {0}
Tree X (single s rest) = X × Tree X rest
Tree X (group g inner rest) = List (Tree X inner) × Tree X rest

-- the number is among the others
abbrev pub is_in : ℕ → List ℕ → Bool
is_in n xs = list_any (λ x. x == n) xs

-- the tags of a level's parts
abbrev pub tags : Plan → List ℕ
tags done = []
tags (single s rest) = s.tag ∷ tags rest
tags (group g inner rest) = g.tag ∷ tags rest

-- the group with this count tag owns that tag
abbrev pub owns : Plan → ℕ → ℕ → Bool
owns done owner tag = false
owns (single s rest) owner tag = owns rest owner tag
owns (group g inner rest) owner tag = ((g.tag == owner) && is_in tag g.owned) || owns rest owner tag

-- each item converted by the rule of its place
abbrev pub map_tree : {X Y : Type 0} → (Rule → X → Y) → (p : Plan) → Tree X p → Tree Y p
map_tree f done t = tt
map_tree f (single s rest) t = (f s.rule t.0, map_tree f rest t.1)
map_tree f (group g inner rest) t = (map (λ e. map_tree f inner e) t.0, map_tree f rest t.1)

-- the property holds of each item
abbrev pub Each : {X : Type 0} → (X → Type 0) → List X → Type 0
Each P [] = ⊤
Each P (x ∷ xs) = P x × Each P xs

-- the values fit, and each is in the one form of its item
abbrev pub AreGood : (p : Plan) → Tree Value p → Type 0
AreGood done t = ⊤
AreGood (single s rest) t = Good s.rule t.0 × AreGood rest t.1
AreGood (group g inner rest) t = IsTrue (admits g.count (pos (length t.0))) × Each (λ e. AreGood inner e) t.0 × AreGood rest t.1

-- the tags of a level's parts, and of those of its entries
abbrev pub all_tags : Plan → List ℕ
all_tags done = []
all_tags (single s rest) = s.tag ∷ all_tags rest
all_tags (group g inner rest) = g.tag ∷ (all_tags inner ++ all_tags rest)
