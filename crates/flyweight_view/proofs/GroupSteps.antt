-- The groups of a level, one after another.
use Rattle.std.proofs.Common.{◌≡◌, ◌≤◌, ◌<◌, ◌+◌, ℕ, List, [], ◌∷◌, length, drop, Option, Some, Result, refl, sym, ap, ◌∙◌, subst, arith}
use Rattle.std.specs.Prelude.{IsOk, slice_get}
use Rattle.std.specs.Option.{option_map}
use Rattle.std.proofs.lemmas.Option.{get_or_from_slice_get, slice_get_within}
use Rattle.sbe_types.specs.declared.message.GroupVal.{GroupVal}
use Rattle.sbe_types.specs.declared.schema.Group.{Group, out-Group}
use Rattle.sbe_types.specs.declared.schema.Level.{Level, out-Level}
use Rattle.sbe_wire.specs.Faults.{Fault}
use Rattle.sbe_wire.specs.Reading.{each_read}
use Rattle.schema_facts.specs.Levels.{groups_in, groups_at as groups_here}
use Rattle.layout_tables.specs.declared.rows.LevelRow.{LevelRow}
use Rattle.layout_tables.specs.Parts.{group_number}
use Rattle.layout_tables.specs.Rowed.{RowFor}
use Rattle.layout_tables.proofs.GroupWalk.{GroupsFrom, group_is}
use Rattle.layout_tables.proofs.Items.{drop_at, all_dropped}
use Rattle.group_codec.specs.declared.dim.Dim.{Dim}
use Rattle.flyweight_view.specs.declared.ends.GroupCursor.{GroupCursor}
use Rattle.body_walk.specs.declared.layer.Layer.{Layer}
use Rattle.flyweight_view.specs.inner.Groups.{groups_by, group_entered, next_groups, groups_at, groups_left, StandThere}
use Rattle.flyweight_view.specs.inner.Layers.{typed_entries}
use Rattle.body_walk.specs.inner.Layers.{IsLayer}
use Rattle.flyweight_view.specs.inner.Lefts.{items_of, rest_of}
use Rattle.flyweight_view.specs.TypedBlocks.{typed_groups, entries_in}
use Rattle.flyweight_view.proofs.GroupsTold.{from_number, seen_entered}
use Rattle.flyweight_view.proofs.Lefts.{First, each_next}
use Rattle.body_walk.proofs.Opens.{Child, child_here, child_next, level_within}

-- the level of a group's entries, in the same body
abbrev pub inner_of : Layer → ℕ → Level → Layer
inner_of l child level = record { layout = l.layout; number = child; level = record { ref_ptr = l.level.ref_ptr; now = level }; mode = l.mode; body = l.body }

-- the cursor after a group
abbrev pub behind_of : GroupCursor → ℕ → ℕ → GroupCursor
behind_of s child at = record { next = s.next + 1; child = child; at = at }

-- after the last group
pub none_left : (l : Layer) (s : GroupCursor) → length (out-Level l.level.now).groups ≤ s.next → rest_of (groups_at l s) ≡ drop s.at l.body.now
unfolding each_read
none_left l s most = ap (λ gs. rest_of (each_read (groups_by l.mode) 0 gs (drop s.at l.body.now))) (all_dropped (out-Level l.level.now).groups s.next most)

-- no more groups stand there, and nothing is seen
never_more : (gs : List Group) → gs ≡ [] → (vs ws : List GroupVal) → typed_groups gs vs ≡ typed_groups gs ws
never_more gs none vs ws = ap (λ z. typed_groups z vs) none ∙ sym (ap (λ z. typed_groups z ws) none)

pub last_stands : (l : Layer) (s : GroupCursor) (row_end at : ℕ) → length (out-Level l.level.now).groups ≤ s.next + 1 → at ≤ length l.body.now → row_end ≡ group_number l.layout.now l.number (s.next + 1) → StandThere l (behind_of s row_end at)
unfolding each_read
last_stands l s row_end at most near number = record {
  child = number;
  near = near;
  reads = subst (λ gs. IsOk (each_read (groups_by l.mode) 0 gs (drop at l.body.now))) (sym (all_dropped (out-Level l.level.now).groups (s.next + 1) most)) refl;
}

module _ (l : Layer) (s : GroupCursor) (g : Group) (layer : IsLayer l) (stand : StandThere l s) (there : slice_get (out-Level l.level.now).groups s.next ≡ Some g) where
  abbrev groups : List Group
  groups = (out-Level l.level.now).groups

  abbrev others : List Group
  others = drop (s.next + 1) groups

  abbrev body : List ℕ
  body = l.body.now

  -- ---- the number of its entries' level

  more : s.next < length groups
  more = slice_get_within groups s.next g there

  pub from : GroupsFrom l.layout.now l.number s.next s.child
  from =
      let own : groups_here l.layout.now l.number ≡ groups = ap groups_in layer.level_is in
      from_number l.layout.now l.number s.next s.child (level_within l.layout.now l.number l.level.now layer.level_is) (omega (arith, more, ap length own)) stand.child

  pub child_is : Child l.layout.now s.child g
  child_is = child_here l.layout.now l.number l.level.now layer.level_is s.child s.next from more g (sym (get_or_from_slice_get groups s.next g g there))

  pub next_child : (row : LevelRow) → RowFor l.layout.now s.child row → row.end ≡ group_number l.layout.now l.number (s.next + 1)
  next_child row is = group_is l.layout.now l.number (s.next + 1) row.end (child_next l.layout.now l.number l.level.now layer.level_is s.child s.next from more row is)

  -- ---- what is read of it

  groups_are : next_groups l s ≡ g ∷ others
  groups_are = drop_at groups s.next g there

  first_group : First (groups_by l.mode g) (each_read (groups_by l.mode) 0 (g ∷ others)) (each_read (groups_by l.mode) 0 others) (drop s.at body)
  first_group = each_next (groups_by l.mode) g others (drop s.at body) (subst (λ gs. IsOk (each_read (groups_by l.mode) 0 gs (drop s.at body))) groups_are stand.reads)

  pub group_read_there : IsOk (groups_by l.mode g (drop s.at body))
  group_read_there = subst (λ (r : Result (GroupVal × List ℕ) Fault). IsOk r) (sym first_group.first) refl

  module _ (o : Option Dim) (told : groups_by l.mode g (drop s.at body) ≡ group_entered (inner_of l s.child (out-Group g).level) s.at o) where
    pub entered_there : IsOk (group_entered (inner_of l s.child (out-Group g).level) s.at o)
    entered_there = subst (λ (r : Result (GroupVal × List ℕ) Fault). IsOk r) told group_read_there

    -- where it is the last one, the place after it tells nothing
    pub last_seen : length groups ≤ s.next + 1 → (row_end at : ℕ) → groups_left l s ≡ option_map (typed_entries (inner_of l s.child (out-Group g).level)) o ∷ groups_left l (behind_of s row_end at)
    last_seen most row_end at =
        let none = all_dropped groups (s.next + 1) most in
        ap (λ gs. typed_groups gs (items_of (each_read (groups_by l.mode) 0 gs (drop s.at body)))) groups_are
        ∙ ap (typed_groups (g ∷ others)) first_group.items
        ∙ ap (λ xs. entries_in (out-Group g).level first_group.x ∷ xs) (never_more others none (items_of (each_read (groups_by l.mode) 0 others first_group.rest)) (items_of (groups_at l (behind_of s row_end at))))
        ∙ ap (λ o. o ∷ groups_left l (behind_of s row_end at)) (seen_entered (inner_of l s.child (out-Group g).level) s.at o first_group.x first_group.rest (sym told ∙ first_group.first))

    module _ (row_end at : ℕ) (rest : rest_of (group_entered (inner_of l s.child (out-Group g).level) s.at o) ≡ drop at body) where
      rest_is : first_group.rest ≡ drop at body
      rest_is = sym (ap rest_of first_group.first) ∙ ap rest_of told ∙ rest

      pub step_stands : at ≤ length body → row_end ≡ group_number l.layout.now l.number (s.next + 1) → StandThere l (behind_of s row_end at)
      step_stands near number = record {
        child = number;
        near = near;
        reads = subst (λ b. IsOk (each_read (groups_by l.mode) 0 others b)) rest_is first_group.others;
      }

      pub step_rests : rest_of (groups_at l s) ≡ rest_of (groups_at l (behind_of s row_end at))
      step_rests =
          ap (λ gs. rest_of (each_read (groups_by l.mode) 0 gs (drop s.at body))) groups_are
          ∙ first_group.rests
          ∙ ap (λ b. rest_of (each_read (groups_by l.mode) 0 others b)) rest_is

      pub step_seen : groups_left l s ≡ option_map (typed_entries (inner_of l s.child (out-Group g).level)) o ∷ groups_left l (behind_of s row_end at)
      step_seen =
          ap (λ gs. typed_groups gs (items_of (each_read (groups_by l.mode) 0 gs (drop s.at body)))) groups_are
          ∙ ap (typed_groups (g ∷ others)) first_group.items
          ∙ ap (λ b. entries_in (out-Group g).level first_group.x ∷ typed_groups others (items_of (each_read (groups_by l.mode) 0 others b))) rest_is
          ∙ ap (λ o. o ∷ groups_left l (behind_of s row_end at)) (seen_entered (inner_of l s.child (out-Group g).level) s.at o first_group.x first_group.rest (sym told ∙ first_group.first))
