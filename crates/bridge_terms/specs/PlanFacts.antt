-- What the laws of whole messages require of a plan: of its tags, of its rules, and of the values at its places. Own
-- profile.
use Rattle.std.specs.Prelude.{◌≡◌, ℕ, ◌<◌, ◌^◌, true, false, ⊤, IsTrue, length, pos}
use Rattle.sbe_types.specs.declared.message.Value.{Value}
use Rattle.sbe_types.specs.Shown.{admits}
use Rattle.bridge_rules.specs.Rules.{Rule}
use Rattle.bridge_terms.specs.Plans.{Plan, Tree, Each, done, single, group, tags, all_tags, owns, is_in}

-- P holds of each rule of a plan
abbrev pub EachRule : (Rule → Type 0) → Plan → Type 0
EachRule P done = ⊤
EachRule P (single s rest) = P s.rule × EachRule P rest
EachRule P (group g inner rest) = EachRule P inner × EachRule P rest

-- no tag occurs twice at a level
abbrev pub IsPlaced : Plan → Type 0
IsPlaced done = ⊤
IsPlaced (single s rest) = (is_in s.tag (tags rest) ≡ false) × IsPlaced rest
IsPlaced (group g inner rest) = (is_in g.tag (tags rest) ≡ false) × IsPlaced inner × IsPlaced rest

-- the level's groups own none of the level's own tags
abbrev pub Unowned : Plan → Type 0
Unowned p = (owner tag : ℕ) → is_in tag (tags p) ≡ true → owns p owner tag ≡ false

-- an entry's first part is the field with the delimiter's tag, which occurs nowhere else in it
abbrev pub BeginsWith : ℕ → Plan → Type 0
BeginsWith delimiter done = ⊥
BeginsWith delimiter (single s rest) = (s.tag ≡ delimiter) × (is_in delimiter (all_tags rest) ≡ false)
BeginsWith delimiter (group g inner rest) = ⊥

-- the tags are those of a mapped structure: none occurs twice at a level, and a group owns those of its entries
abbrev pub IsPlanned : Plan → Type 0
IsPlanned done = ⊤
IsPlanned (single s rest) = (is_in s.tag (tags rest) ≡ false) × IsPlanned rest
IsPlanned (group g inner rest) =
    (is_in g.tag (tags rest) ≡ false) × BeginsWith g.delimiter inner × ((tag : ℕ) → is_in tag (all_tags inner) ≡ true → is_in tag g.owned ≡ true)
    × Unowned inner × IsPlanned inner × IsPlanned rest

-- the same for the root, whose tags none of its groups owns
pub record IsRoot (p : Plan) : Type 0 where
  pub unowned : Unowned p
  pub planned : IsPlanned p

-- P holds of each value and its rule
abbrev pub EachValue : (Rule → Value → Type 0) → (p : Plan) → Tree Value p → Type 0
EachValue P done t = ⊤
EachValue P (single s rest) t = P s.rule t.0 × EachValue P rest t.1
EachValue P (group g inner rest) t = Each (λ e. EachValue P inner e) t.0 × EachValue P rest t.1

-- each number of entries is admitted, and can be spelled
abbrev pub AreCounted : (p : Plan) → Tree Value p → Type 0
AreCounted done t = ⊤
AreCounted (single s rest) t = AreCounted rest t.1
AreCounted (group g inner rest) t =
    (length t.0 < 10 ^ 64) × IsTrue (admits g.count (pos (length t.0))) × Each (λ e. AreCounted inner e) t.0 × AreCounted rest t.1
