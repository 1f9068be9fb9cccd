-- A header or dimension whose members have the numbers of their names. From SBE 1.0, Message structure, and Repeating
-- group encoding. Own profile: the zeros between members.
use Rattle.std.specs.Prelude.{◌≡◌, ℕ, ◌≤◌, List, [], ◌∷◌, take, drop, pos, ⊤}
use Rattle.sbe_types.specs.declared.kind.Order.{Order}
use Rattle.sbe_types.specs.declared.kind.Leaf.{Leaf as LeafOf}
use Rattle.sbe_types.specs.declared.kind.Kind.{Leaf}
use Rattle.sbe_types.specs.declared.kind.Member.{Member}
use Rattle.sbe_types.specs.Numbers.{number_of, prim_width}
use Rattle.sbe_types.specs.Places.{begin_of, end_past}
use Rattle.clean_bodies.specs.Clean.{AreZeros, between}

-- A member that begins at e or later has this number, and only zeros are before it.
pub record SaysNumber (order : Order) (n e : ℕ) (m : Member) (b : List ℕ) : Type 0 where
  pub leaf : LeafOf
  pub number : m.kind ≡ Leaf leaf
  pub single : leaf.length ≡ 1
  pub after : e ≤ begin_of e m.offset
  pub gap : AreZeros (between e (begin_of e m.offset) b)
  pub is : number_of order leaf.prim (take (prim_width leaf.prim) (drop (begin_of e m.offset) b)) ≡ pos n

-- each of the members after members that end at e has the number of its name
abbrev pub SayNumbers : Order → (List ℕ → ℕ) → ℕ → List Member → List ℕ → Type 0
SayNumbers order numbers e [] b = ⊤
SayNumbers order numbers e (m ∷ ms) b = SaysNumber order (numbers m.name) e m b × SayNumbers order numbers (end_past e m.offset m.kind) ms b
