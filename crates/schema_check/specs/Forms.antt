-- Schemas of the same form: a message of either begins with the same header, in the same byte order. Own profile, from
-- SBE 1.0, Message header.
use Rattle.std.specs.Prelude.{◌≡◌, ℕ, List, [], ◌∷◌, map, ⊤}
use Rattle.sbe_types.specs.declared.kind.Member.{Member}
use Rattle.sbe_types.specs.declared.schema.WireSchema.{WireSchema}
use Rattle.sbe_types.specs.Places.{place_of, end_past, member_place}

-- the same names and kinds in the same order, at the same offsets, whether the offsets are stated or not
pub record SameMembers (ms ns : List Member) : Type 0 where
  pub names : map (λ m. m.name) ms ≡ map (λ m. m.name) ns
  pub kinds : map (λ m. m.kind) ms ≡ map (λ m. m.kind) ns
  pub places : (i : ℕ) → member_place 0 ms i ≡ member_place 0 ns i

-- the same byte order, and headers with the same members
pub record SameForm (s t : WireSchema) : Type 0 where
  pub order : s.order ≡ t.order
  pub header : SameMembers s.header.members t.header.members

-- ---- the same, member by member

-- two members are the same, after members that end at e
pub record IsLike (e : ℕ) (m n : Member) : Type 0 where
  pub name : m.name ≡ n.name
  pub kind : m.kind ≡ n.kind
  pub place : place_of e m.offset m.kind ≡ place_of e n.offset n.kind

-- members are the same, after members that end at e
abbrev pub AreLike : ℕ → List Member → List Member → Type 0
AreLike e [] [] = ⊤
AreLike e [] (n ∷ ns) = ⊥
AreLike e (m ∷ ms) [] = ⊥
AreLike e (m ∷ ms) (n ∷ ns) = IsLike e m n × AreLike (end_past e m.offset m.kind) ms ns
