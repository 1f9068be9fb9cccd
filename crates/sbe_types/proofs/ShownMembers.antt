-- A composite's values over the list of its members.
use Rattle.std.proofs.Common.{◌≡◌, ℕ, Bool, List, [], ◌∷◌, take, drop, subst}
use Rattle.std.specs.Prelude.{⊤}
use Rattle.sbe_types.specs.declared.kind.Kind.{Comp, Row_of-Member, end_of-Member, more_of-Member, items-the_row-Member, items_hidden-the_row-Member-0}
use Rattle.sbe_types.specs.declared.kind.Member.{Member}
use Rattle.sbe_types.specs.declared.kind.Order.{Order}
use Rattle.sbe_types.specs.declared.message.Value.{Value}
use Rattle.sbe_types.specs.declared.message.Value.TheVariants as value
use Rattle.sbe_types.specs.Places.{width, begin_of, end_past}
use Rattle.sbe_types.specs.Shows.{Shows, MembersShow}
use Rattle.sbe_types.proofs.KindRows.{row_in}

-- each member's value is shown by the bytes at its place
abbrev pub ListShows : Order → Bool → ℕ → List Member → List Value → List ℕ → Type 0
ListShows order known e [] [] b = ⊤
ListShows order known e [] (v ∷ vs) b = ⊥
ListShows order known e (m ∷ ms) [] b = ⊥
ListShows order known e (m ∷ ms) (v ∷ vs) b =
    Shows order known m.kind v (take (width m.kind) (drop (begin_of e m.offset) b)) × ListShows order known (end_past e m.offset m.kind) ms vs b

row_shows : (order : Order) (known : Bool) (e : ℕ) (n : _) (row : Row_of-Member n) (vs : List Value) (b : List ℕ) → MembersShow order known e row vs b → ListShows order known e (items-the_row-Member n row) vs b
row_shows order known e n end_of-Member [] b h = tt
row_shows order known e n end_of-Member (v ∷ vs) b h = absurd h
row_shows order known e n (more_of-Member name offset kind rest) [] b h = absurd h
row_shows order known e n (more_of-Member name offset kind rest) (v ∷ vs) b h = (h.0, row_shows order known (end_past e offset kind) _ rest vs b h.1)

-- the values of a composite's members
pub members_in : (order : Order) (known : Bool) (ms : List Member) (v : Value) (b : List ℕ) → Shows order known (Comp ms) v b → (vs : List Value) × (v ≡ value.Comp vs) × ListShows order known 0 ms vs b
members_in order known ms v b h =
    let row = row_in (Comp ms) in
    (h.1.0, h.1.1, subst (λ l. ListShows order known 0 l h.1.0 b) (items_hidden-the_row-Member-0 ms) (row_shows order known 0 row.0 row.1 h.1.0 b h.1.2))
