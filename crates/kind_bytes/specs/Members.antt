-- The bytes of a composite's members, over the lists of members and values. From SBE 1.0, Composite encoding. Own
-- profile: the zeros between members.
use Rattle.std.specs.Prelude.{ℕ, ◌-◌, if◌then◌else◌, Option, Some, None, option_map, List, [], ◌∷◌, ◌++◌, replicate}
use Rattle.sbe_types.specs.declared.kind.Order.{Order}
use Rattle.sbe_types.specs.declared.kind.Member.{Member}
use Rattle.sbe_types.specs.declared.message.Value.{Value}
use Rattle.sbe_types.specs.Places.{is_const, begin_of, end_past}
use Rattle.sbe_types.specs.Wire.{both, wire_bytes}

-- the bytes followed by more, if there are more
abbrev pub followed_by : List ℕ → Option (List ℕ) → Option (List ℕ)
followed_by bytes more = option_map (λ (piece : List ℕ). bytes ++ piece) more

-- the bytes of a member after members that end at e: 00 up to its offset, and then its value
abbrev pub member_bytes : Order → ℕ → Member → Value → Option (List ℕ)
member_bytes order e m v = both (Some (replicate (if is_const m.kind then 0 else begin_of e m.offset - e) 0)) (wire_bytes order m.kind v)

-- the bytes of members after members that end at e, if there are as many values
abbrev pub members_bytes : Order → ℕ → List Member → List Value → Option (List ℕ)
members_bytes order e [] [] = Some []
members_bytes order e [] (v ∷ vs) = None
members_bytes order e (m ∷ ms) [] = None
members_bytes order e (m ∷ ms) (v ∷ vs) = both (member_bytes order e m v) (members_bytes order (end_past e m.offset m.kind) ms vs)
