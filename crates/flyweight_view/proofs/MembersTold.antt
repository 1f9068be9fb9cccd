-- The members of a composite as a block of its own.
use Rattle.std.proofs.Common.{◌≡◌, ◌≤◌, ℕ, List, [], ◌∷◌, take, drop, refl, sym, subst}
use Rattle.std.specs.Prelude.{map}
use Rattle.std.specs.Bool.{MatchBool}
use Rattle.sbe_types.specs.declared.kind.Kind.{Row_of-Member, end_of-Member, more_of-Member, items-the_row-Member}
use Rattle.sbe_types.specs.declared.kind.Member.{Member}
use Rattle.sbe_types.specs.declared.message.Value.{Value}
use Rattle.sbe_types.specs.declared.message.Value.TheVariants as value
use Rattle.sbe_types.specs.Places.{width, begin_of, end_past, members_end}
use Rattle.sbe_types.specs.Shows.{Shows, MembersShow}
use Rattle.sbe_wire.specs.declared.mode.Mode.{Mode}
use Rattle.sbe_wire.specs.Lays.{FieldsLay}
use Rattle.sbe_wire.specs.Placed.{ArePlaced}
use Rattle.sbe_wire.specs.Versions.{floor_from}
use Rattle.sbe_wire.proofs.Blocks.{reach, reach_within}
use Rattle.schema_facts.proofs.KindLists.{PlacedList}
use Rattle.flyweight_view.specs.TypedBlocks.{member_field}
use Rattle.flyweight_view.proofs.SlotsTold.{zero_alive}

-- members that show their values lie as fields do, at each version
pub members_lie : (mode : Mode) (e : ℕ) (n : _) (row : Row_of-Member n) (vs : List Value) (b : List ℕ) → MembersShow mode.order mode.known e row vs b →
    FieldsLay mode e (map member_field (items-the_row-Member n row)) vs b
members_lie mode e n end_of-Member [] b h = tt
members_lie mode e n end_of-Member (v ∷ vs) b h = absurd h
members_lie mode e n (more_of-Member name offset kind rest) [] b h = absurd h
members_lie mode e n (more_of-Member name offset kind rest) (v ∷ vs) b h = (
  subst (λ t. MatchBool t (Shows mode.order mode.known kind v (take (width kind) (drop (begin_of e offset) b))) (v ≡ value.Absent)) (sym (zero_alive mode.version)) h.0,
  members_lie mode (end_past e offset kind) _ rest vs b h.1,
)

pub members_placed : (e : ℕ) (ms : List Member) → PlacedList e ms → ArePlaced e (map member_field ms)
members_placed e [] h = tt
members_placed e (m ∷ ms) h = (h.0, h.1, members_placed (end_past e m.offset m.kind) ms h.2)

-- the floor of members is within their end
pub members_reach : (version e reached : ℕ) (ms : List Member) → PlacedList e ms → reached ≤ e → floor_from version e reached (map member_field ms) ≤ members_end e ms
members_reach version e reached [] h low = low
members_reach version e reached (m ∷ ms) h low =
    members_reach version (end_past e m.offset m.kind) (reach version e reached (member_field m)) ms h.2 (reach_within version e reached (member_field m) _ refl low h.0)
