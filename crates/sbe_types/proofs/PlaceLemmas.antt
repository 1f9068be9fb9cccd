-- Parts by their numbers: the places of the definitions by recursion.
use Rattle.std.proofs.Common.{◌≡◌, ℕ, zero, suc, Bool, List, [], ◌∷◌, length, take, drop, Option, None, Some, refl, sym, ap, ◌∙◌, subst, arith}
use Rattle.std.specs.Prelude.{◌↔◌, slice_get}
use Rattle.sbe_types.specs.declared.kind.Order.{Order}
use Rattle.sbe_types.specs.declared.kind.Kind.{Kind, Leaf, Enum, Set, Const, Comp', Row_of-Member, end_of-Member, more_of-Member, items-the_row-Member}
use Rattle.sbe_types.specs.declared.kind.Member.{Member}
use Rattle.sbe_types.specs.declared.message.Value.{Value}
use Rattle.sbe_types.specs.Places.{width, begin_of, end_past, row_end, members_end, place_of, member_place, bytes_at}
use Rattle.sbe_types.specs.Shows.{Shows, MembersShow}
use Rattle.sbe_types.specs.AtPlaces.{members_of, ShowsMembers}

-- the bytes at a part's place, with or without one, are those that the recursion takes
pub bytes_at_place : (e : ℕ) (offset : Option ℕ) (kind : Kind) (b : List ℕ) → bytes_at (place_of e offset kind) (width kind) b ≡ take (width kind) (drop (begin_of e offset) b)
bytes_at_place e offset (Leaf l) b = refl
bytes_at_place e offset (Enum l names) b = refl
bytes_at_place e offset (Set p names) b = refl
bytes_at_place e offset (Const c) b = refl
bytes_at_place e offset (Comp' n members) b = refl

pub row_end_is : {n : _} → (e : ℕ) (members : Row_of-Member n) → row_end e members ≡ members_end e (items-the_row-Member n members)
row_end_is e end_of-Member = refl
row_end_is e (more_of-Member name offset kind rest) = row_end_is (end_past e offset kind) rest

module _ (order : Order) (known : Bool) (b : List ℕ) where
  abbrev pub EachFrom : ℕ → List Member → List Value → Type 0
  EachFrom e members values =
      (length values ≡ length members)
      × ((i : ℕ) (m : Member) (v : Value) → slice_get members i ≡ Some m → slice_get values i ≡ Some v
      → Shows order known m.kind v (bytes_at (member_place e members i) (width m.kind) b))

  -- the first member: the bytes at its place are those that the recursion takes
  first_shows : (e : ℕ) (offset : Option ℕ) (kind : Kind) (v : Value) → Shows order known kind v (take (width kind) (drop (begin_of e offset) b)) →
      (m : Member) (w : Value) → m.offset ≡ offset → m.kind ≡ kind → w ≡ v → Shows order known m.kind w (bytes_at (place_of e offset kind) (width m.kind) b)
  first_shows e offset kind v h m w at is same = rw (is, same, bytes_at_place e offset kind b) h

  each_more : (e : ℕ) (first : Member) (members : List Member) (v : Value) (values : List Value) → Shows order known first.kind v (take (width first.kind) (drop (begin_of e first.offset) b)) →
      EachFrom (end_past e first.offset first.kind) members values → EachFrom e (first ∷ members) (v ∷ values)
  each_more e first members v values h later = (ap suc later.0, each)
    where
      each : (i : ℕ) (m : Member) (w : Value) → slice_get (first ∷ members) i ≡ Some m → slice_get (v ∷ values) i ≡ Some w →
          Shows order known m.kind w (bytes_at (member_place e (first ∷ members) i) (width m.kind) b)
      each zero m w is there =
          let same : first ≡ m = cc in
          let value : v ≡ w = cc in
          first_shows e first.offset first.kind v h m w (ap (λ (x : Member). x.offset) (sym same)) (ap (λ (x : Member). x.kind) (sym same)) (sym value)
      each (suc i) m w is there = later.1 i m w is there

  pub each_from : {n : _} → (e : ℕ) (members : Row_of-Member n) (values : List Value) → MembersShow order known e members values b → EachFrom e (items-the_row-Member n members) values
  each_from e end_of-Member [] h = (refl, λ i m v is there. cc)
  each_from e end_of-Member (v ∷ vs) h = absurd h
  each_from e (more_of-Member name offset kind rest) [] h = absurd h
  each_from e (more_of-Member name offset kind rest) (v ∷ vs) h = each_more e (record { name = name; offset = offset; kind = kind }) (items-the_row-Member _ rest) v vs h.0 (each_from (end_past e offset kind) rest vs h.1)

  pub each_back : {n : _} → (e : ℕ) (members : Row_of-Member n) (values : List Value) → EachFrom e (items-the_row-Member n members) values → MembersShow order known e members values b
  each_back e end_of-Member [] h = tt
  each_back e end_of-Member (v ∷ vs) h = absurd (omega (arith, h.0))
  each_back e (more_of-Member name offset kind rest) [] h = absurd (omega (arith, h.0))
  each_back e (more_of-Member name offset kind rest) (v ∷ vs) h =
      let first = h.1 0 (record { name = name; offset = offset; kind = kind }) v refl refl in
      let later = each_back (end_past e offset kind) rest vs (omega (arith, h.0), λ i m w is there. h.1 (suc i) m w is there) in
      (subst (Shows order known kind v) (bytes_at_place e offset kind b) first, later)

-- ---- a composite, by its list of members

none_is : {members : List Member} → ◌≡◌ {A = Option (List Member)} None (Some members) → ⊥
none_is h = cc

some_is : {xs ys : List Member} → Some xs ≡ Some ys → xs ≡ ys
some_is h = cc

pub width_is : (kind : Kind) (members : List Member) → members_of kind ≡ Some members → width kind ≡ members_end 0 members
width_is (Leaf l) members h = absurd (none_is h)
width_is (Enum l names) members h = absurd (none_is h)
width_is (Set p names) members h = absurd (none_is h)
width_is (Const c) members h = absurd (none_is h)
width_is (Comp' n row) members h = row_end_is 0 row ∙ ap (members_end 0) (some_is h)

module _ (order : Order) (known : Bool) (v : Value) (b : List ℕ) where
  members_show : (kind : Kind) (members : List Member) → members_of kind ≡ Some members → Shows order known kind v b → ShowsMembers order known members v b
  members_show (Leaf l) members h s = absurd (none_is h)
  members_show (Enum l names) members h s = absurd (none_is h)
  members_show (Set p names) members h s = absurd (none_is h)
  members_show (Const c) members h s = absurd (none_is h)
  members_show (Comp' n row) members h s = subst (λ ms. ShowsMembers order known ms v b) (some_is h) (s.0 ∙ row_end_is 0 row, (s.1.0, s.1.1, each_from order known b 0 row s.1.0 s.1.2))

  members_back : (kind : Kind) (members : List Member) → members_of kind ≡ Some members → ShowsMembers order known members v b → Shows order known kind v b
  members_back (Leaf l) members h s = absurd (none_is h)
  members_back (Enum l names) members h s = absurd (none_is h)
  members_back (Set p names) members h s = absurd (none_is h)
  members_back (Const c) members h s = absurd (none_is h)
  members_back (Comp' n row) members h s =
      let t = subst (λ ms. ShowsMembers order known ms v b) (sym (some_is h)) s in
      (t.0 ∙ sym (row_end_is 0 row), (t.1.0, t.1.1, each_back order known b 0 row t.1.0 t.1.2))

pub shows_members : (order : Order) (known : Bool) (kind : Kind) (members : List Member) (v : Value) (b : List ℕ) → members_of kind ≡ Some members →
    Shows order known kind v b ↔ ShowsMembers order known members v b
shows_members order known kind members v b h = (members_show order known v b kind members h, members_back order known v b kind members h)
