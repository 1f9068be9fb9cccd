-- What the tests of names and types say.
use Rattle.std.proofs.Common.{◌≡◌, ℕ, zero, suc, ◌≤◌, Bool, true, false, cond, List, [], ◌∷◌, Option, Some, None, refl, sym, ap, ◌∙◌, subst, arith}
use Rattle.std.specs.Prelude.{◌&&◌, ◌||◌, ◌==◌, ℤ, nat_le, nat_lt, slice_get}
use Rattle.std.specs.List.{list_any, list_all}
use Rattle.std.specs.Ordering.{int_eq}
use Rattle.std.specs.Str.{bytes_eq}
use Rattle.std.proofs.lemmas.Bool.Decides.{nat_tests, Decides-int_eq}
use Rattle.std.proofs.lemmas.Slice.Eq.{bytes_eq-Decides}
use Rattle.sbe_types.specs.declared.kind.Named.{Named}
use Rattle.sbe_types.specs.declared.schema.Level.{Level, Level', out-Level, Row_of-Group, end_of-Group, more_of-Group}
use Rattle.sbe_types.specs.Places.{is_const, begin_of, end_past}
use Rattle.sbe_types.specs.declared.kind.Order.{Order}
use Rattle.sbe_types.specs.declared.kind.Order.TheVariants.{Little, Big}
use Rattle.sbe_types.specs.declared.kind.Primitive.{Primitive}
use Rattle.sbe_types.specs.declared.kind.Primitive.TheVariants.{Char, I8, I16, I32, I64, U8, U16, U32, U64}
use Rattle.sbe_types.specs.declared.kind.Presence.{Presence}
use Rattle.sbe_types.specs.declared.kind.Presence.TheVariants.{Required, Optional, Constant}
use Rattle.sbe_types.specs.declared.kind.LeafShape.{LeafShape}
use Rattle.sbe_types.specs.declared.kind.LeafShape.TheVariants.{Number, RangedText, EncodedText, Octets, Numbers}
use Rattle.sbe_types.specs.declared.kind.Leaf.{Leaf as LeafOf}
use Rattle.sbe_types.specs.declared.kind.ConstValue.{ConstValue}
use Rattle.sbe_types.specs.declared.kind.ConstValue.TheVariants as constant
use Rattle.sbe_types.specs.declared.kind.Kind.{Kind, Leaf, Enum, Set, Const, Comp', Row_of-Member, end_of-Member, more_of-Member}
use Rattle.sbe_types.specs.declared.kind.Member.{Member}
use Rattle.sbe_types.specs.declared.schema.Field.{Field}
use Rattle.sbe_types.specs.declared.schema.DataField.{DataField}
use Rattle.sbe_types.specs.declared.schema.Group.{Group, Group'}
use Rattle.sbe_types.specs.declared.schema.WireSchema.{WireSchema}
use Rattle.sbe_wire.specs.Faults.{message_named}
use Rattle.sbe_types.specs.Shown.{is_listed}
use Rattle.version_laws.specs.Same.{same_prim, presence_number, shape_number, same_leaf, same_named, same_names, same_constant, same_offset, same_kind, same_row, same_members, same_place, same_header}
use Rattle.version_laws.specs.Differ.{Ends, same_order, is_old, group_name, group_since, group_dimension, differs, asks, unless_for, or_else, in_part, field_reason, data_reason, group_reason, schema_reason, fields_differ, parts_differ, level_differs, groups_differ, group_differs, message_differs, messages_differ, differ}
use Rattle.version_laws.specs.declared.difference.Difference.{Difference}
use Rattle.version_laws.specs.declared.difference.Reason.{Reason}
use Rattle.version_laws.specs.declared.difference.Reason.TheVariants as reason
use Rattle.version_laws.proofs.Stands.{Listed, KindStands, RowStands, MembersStand, FieldsStand, PartsStand, LevelStands, GroupsStand, GroupStands, SchemaStands}
use Rattle.version_laws.proofs.KindMoves.{same_const}
use Rattle.version_laws.proofs.BlockMoves.{by_bool, take_it, pass_it}
use Rattle.version_laws.proofs.NamedMoves.{end_is}

pub both_of : (x y : Bool) → (x && y) ≡ true → (x ≡ true) × (y ≡ true)
both_of true y h = (refl, h)
both_of false y h = cc

either_of : (x y : Bool) → (x ≡ true → y ≡ true) → (z : Bool) → (x || z) ≡ true → (z ≡ true → y ≡ true) → y ≡ true
either_of true y f z h g = f refl
either_of false y f z h g = g h

or_first : (x y : Bool) → x ≡ true → (x || y) ≡ true
or_first true y h = refl
or_first false y h = cc

or_second : (x y : Bool) → y ≡ true → (x || y) ≡ true
or_second true y h = refl
or_second false y h = h

same_number : (x y : Named) → same_named x y ≡ true → x.number ≡ y.number
same_number x y h = (Decides-int_eq x.number y.number).0 (both_of _ _ h).1

number_moves : (x y : Named) (n : ℤ) → same_named x y ≡ true → int_eq x.number n ≡ int_eq y.number n
number_moves x y n h = ap (λ m. int_eq m n) (same_number x y h)

-- lists of the same names list the same numbers
pub same_listed : (xs ys : List Named) (n : ℤ) → same_names xs ys ≡ true → is_listed xs n ≡ is_listed ys n
same_listed [] [] n h = refl
same_listed [] (y ∷ ys) n h = cc
same_listed (x ∷ xs) [] n h = cc
same_listed (x ∷ xs) (y ∷ ys) n h =
    let two = both_of _ _ h in
    ap (λ t. t || is_listed xs n) (number_moves x y n two.0) ∙ ap (λ t. int_eq y.number n || t) (same_listed xs ys n two.1)

one_listed : (x : Named) (ys : List Named) (n : ℤ) → list_any (same_named x) ys ≡ true → int_eq x.number n ≡ true → is_listed ys n ≡ true
one_listed x [] n h e = cc
one_listed x (y ∷ ys) n h e =
    either_of (same_named x y) (is_listed (y ∷ ys) n) (λ s. or_first _ _ (sym (number_moves x y n s) ∙ e)) (list_any (same_named x) ys) h (λ k. or_second _ _ (one_listed x ys n k e))

all_listed : (xs ys : List Named) (n : ℤ) → list_all (λ x. list_any (same_named x) ys) xs ≡ true → is_listed xs n ≡ true → is_listed ys n ≡ true
all_listed [] ys n h e = cc
all_listed (x ∷ xs) ys n h e =
    let two = both_of _ _ h in
    either_of (int_eq x.number n) (is_listed ys n) (λ s. one_listed x ys n two.0 s) (is_listed xs n) e (λ k. all_listed xs ys n two.1 k)

-- what old lists, new lists
pub listed_too : (more : Bool) (xs ys : List Named) (n : ℤ) → Listed more xs ys → is_listed xs n ≡ true → is_listed ys n ≡ true
listed_too true xs ys n h e = all_listed xs ys n h e
listed_too false xs ys n h e = sym (same_listed xs ys n h) ∙ e

-- ---- types

pub prim_is : (p q : Primitive) → same_prim p q ≡ true → p ≡ q
prim_is Char Char h = refl
prim_is I8 I8 h = refl
prim_is I16 I16 h = refl
prim_is I32 I32 h = refl
prim_is I64 I64 h = refl
prim_is U8 U8 h = refl
prim_is U16 U16 h = refl
prim_is U32 U32 h = refl
prim_is U64 U64 h = refl
prim_is p q h = cc

shape_is : (p q : LeafShape) → (shape_number p == shape_number q) ≡ true → p ≡ q
shape_is Number Number h = refl
shape_is RangedText RangedText h = refl
shape_is EncodedText EncodedText h = refl
shape_is Octets Octets h = refl
shape_is Numbers Numbers h = refl
shape_is p q h = cc

presence_is : (p q : Presence) → (presence_number p == presence_number q) ≡ true → p ≡ q
presence_is Required Required h = refl
presence_is Optional Optional h = refl
presence_is Constant Constant h = refl
presence_is p q h = cc

nat_is : (m n : ℕ) → (m == n) ≡ true → m ≡ n
nat_is m n h = grind (arith, nat_tests)

abbrev leaf_of : Primitive → ℕ → LeafShape → Presence → ℤ → ℤ → ℤ → LeafOf
leaf_of prim length shape presence null low high = record { prim = prim; length = length; shape = shape; presence = presence; null = null; low = low; high = high }

pub leaf_is : (a b : LeafOf) → same_leaf a b ≡ true → a ≡ b
leaf_is a b h =
    let two = both_of _ _ h in
    let high = both_of _ _ two.1 in
    let low = both_of _ _ high.0 in
    let presence = both_of _ _ two.0 in
    let shape = both_of _ _ presence.0 in
    let length = both_of _ _ shape.0 in
    ap (λ x. leaf_of x a.length a.shape a.presence a.null a.low a.high) (prim_is a.prim b.prim length.0)
    ∙ ap (λ x. leaf_of b.prim x a.shape a.presence a.null a.low a.high) (nat_is a.length b.length length.1)
    ∙ ap (λ x. leaf_of b.prim b.length x a.presence a.null a.low a.high) (shape_is a.shape b.shape shape.1)
    ∙ ap (λ x. leaf_of b.prim b.length b.shape x a.null a.low a.high) (presence_is a.presence b.presence presence.1)
    ∙ ap (λ x. leaf_of b.prim b.length b.shape b.presence x a.low a.high) ((Decides-int_eq a.null b.null).0 low.0)
    ∙ ap (λ x. leaf_of b.prim b.length b.shape b.presence b.null x a.high) ((Decides-int_eq a.low b.low).0 low.1)
    ∙ ap (λ x. leaf_of b.prim b.length b.shape b.presence b.null b.low x) ((Decides-int_eq a.high b.high).0 high.1)

pub name_is : (s t : List ℕ) → bytes_eq s t ≡ true → s ≡ t
name_is s t h = (bytes_eq-Decides s t).0 h

named_of : List ℕ → ℤ → Named
named_of name number = record { name = name; number = number }

named_is : (x y : Named) → same_named x y ≡ true → x ≡ y
unfolding named_of
named_is x y h =
    let two = both_of _ _ h in
    ap (λ n. named_of n x.number) (name_is x.name y.name two.0) ∙ ap (λ n. named_of y.name n) ((Decides-int_eq x.number y.number).0 two.1)

constant_is : (c d : ConstValue) → same_constant c d ≡ true → c ≡ d
constant_is (constant.Num m) (constant.Num n) h = ap constant.Num ((Decides-int_eq m n).0 h)
constant_is (constant.Text s) (constant.Text t) h = ap constant.Text (name_is s t h)
constant_is (constant.Code p x) (constant.Code q y) h =
    let two = both_of _ _ h in
    ap (λ p. constant.Code p x) (prim_is p q two.0) ∙ ap (λ x. constant.Code q x) (named_is x y two.1)
constant_is c d h = cc

offset_is : (m n : Option ℕ) → same_offset m n ≡ true → m ≡ n
offset_is None None h = refl
offset_is None (Some n) h = cc
offset_is (Some m) None h = cc
offset_is (Some m) (Some n) h = ap Some (nat_is m n h)

no : ◌≡◌ {A = Bool} false true → ⊥
no h = cc

mutual
  pub kind_stands : (more : Bool) (k l : Kind) → same_kind more k l ≡ true → KindStands (Listed more) k l
  kind_stands more (Leaf a) (Leaf b) h = leaf_is a b h
  kind_stands more (Enum a xs) (Enum b ys) h = let two = both_of _ _ h in (leaf_is a b two.0, two.1)
  kind_stands more (Set p xs) (Set q ys) h = let two = both_of _ _ h in (prim_is p q two.0, two.1)
  kind_stands more (Const c) (Const d) h = constant_is c d h
  kind_stands more (Comp' n old) (Comp' k new) h = row_stands more old new h
  kind_stands more k l h = absurd (no h)

  row_stands : (more : Bool) {n : _} (old : Row_of-Member n) {k : _} (new : Row_of-Member k) → same_row more old new ≡ true → RowStands (Listed more) old new
  row_stands more end_of-Member end_of-Member h = tt
  row_stands more end_of-Member (more_of-Member name offset kind rest) h = absurd (no h)
  row_stands more (more_of-Member name offset kind rest) end_of-Member h = absurd (no h)
  row_stands more (more_of-Member name offset kind rest) (more_of-Member name' offset' kind' rest') h =
      let d = both_of _ _ h in
      let c = both_of _ _ d.0 in
      let b = both_of _ _ c.0 in
      (offset_is offset offset' b.1, kind_stands more kind kind' c.1, row_stands more rest rest' d.1)

-- parts that begin at one place
place_is : (e : ℕ) (offset : Option ℕ) (k : Kind) (d : ℕ) (offset' : Option ℕ) (l : Kind) (more : Bool) → same_place k (begin_of e offset) l (begin_of d offset') ≡ true → KindStands (Listed more) k l → is_const k ≡ false → begin_of e offset ≡ begin_of d offset'
place_is e offset k d offset' l more h stands c =
    nat_is (begin_of e offset) (begin_of d offset')
    (sym (ap (λ t. (t || is_const l) || (begin_of e offset == begin_of d offset')) c ∙ ap (λ t. t || (begin_of e offset == begin_of d offset')) (sym (same_const (Listed more) k l stands) ∙ c)) ∙ h)

pub header_stands : (e : ℕ) (xs : List Member) (d : ℕ) (ys : List Member) → same_header e xs d ys ≡ true → MembersStand (Listed false) e xs d ys
header_stands e [] d [] h = tt
header_stands e [] d (y ∷ ys) h = absurd (no h)
header_stands e (x ∷ xs) d [] h = absurd (no h)
header_stands e (x ∷ xs) d (y ∷ ys) h =
    let all = both_of _ _ h in
    let c = both_of _ _ all.0 in
    let b = both_of _ _ c.0 in
    let kind = kind_stands false x.kind y.kind c.1 in
    (name_is x.name y.name b.0, place_is e x.offset x.kind d y.offset y.kind false b.1 kind, kind, header_stands (end_past e x.offset x.kind) xs (end_past d y.offset y.kind) ys all.1)

-- equal members stand at equal places
pub members_stand : (e : ℕ) (xs : List Member) (d : ℕ) (ys : List Member) → same_members xs ys ≡ true → e ≡ d → MembersStand (Listed false) e xs d ys
members_stand e [] d [] h same = tt
members_stand e [] d (y ∷ ys) h same = absurd (no h)
members_stand e (x ∷ xs) d [] h same = absurd (no h)
members_stand e (x ∷ xs) d (y ∷ ys) h same =
    let all = both_of _ _ h in
    let c = both_of _ _ all.0 in
    let b = both_of _ _ c.0 in
    let kind = kind_stands false x.kind y.kind c.1 in
    let begins : begin_of e x.offset ≡ begin_of d y.offset = ap (begin_of e) (offset_is x.offset y.offset b.1) ∙ ap (λ e. begin_of e y.offset) same in (
      name_is x.name y.name b.0,
      λ _. begins,
      kind,
      members_stand (end_past e x.offset x.kind) xs (end_past d y.offset y.kind) ys all.1 (end_is (Listed false) e x.offset y.offset x.kind y.kind d (is_const x.kind) refl same (λ _. begins) kind),
    )

-- ---- no difference

some_is : {A : Type 0} {x y : A} → ◌≡◌ {A = Option A} (Some x) (Some y) → x ≡ y
some_is h = cc

order_is : (p q : Order) → same_order p q ≡ true → p ≡ q
order_is Little Little h = refl
order_is Big Big h = refl
order_is p q h = cc

at_most : (m n : ℕ) → nat_le m n ≡ true → m ≤ n
at_most m n h = grind (arith, nat_tests)

when_true : {A : Type 0} (t : Bool) (x y : A) → t ≡ true → cond t x y ≡ x
when_true t x y e = ap (λ t. cond t x y) e

when_false : {A : Type 0} (t : Bool) (x y : A) → t ≡ false → cond t x y ≡ y
when_false t x y e = ap (λ t. cond t x y) e

passes : (t : Bool) (r : Reason) (more : Option Reason) → asks t r more ≡ None → (t ≡ true) × (more ≡ None)
passes true r more h = (refl, h)
passes false r more h = cc

unless_none : (name : List ℕ) (r : Option Reason) (more : Option Difference) → unless_for name r more ≡ None → (r ≡ None) × (more ≡ None)
unless_none name None more h = (refl, h)
unless_none name (Some r) more h = cc

else_none : (a b : Option Difference) → or_else a b ≡ None → (a ≡ None) × (b ≡ None)
else_none None b h = (refl, h)
else_none (Some d) b h = cc

in_none : (name : List ℕ) (d : Option Difference) → in_part name d ≡ None → d ≡ None
in_none name None h = refl
in_none name (Some d) h = cc

some_none : (d : Difference) → ◌≡◌ {A = Option Difference} (Some d) None → ⊥
some_none d h = cc

abbrev ends_at : ℕ → ℕ → Ends
ends_at e d = record { old = e; new = d }

fields_stand : (version : ℕ) (more : Bool) (e : ℕ) (olds : List Field) (d : ℕ) (news : List Field) → fields_differ version more (ends_at e d) olds news ≡ None → FieldsStand (Listed more) version e olds d news
fields_stand version more e [] d [] h = tt
fields_stand version more e (f ∷ fs) d [] h = absurd (some_none _ h)
fields_stand version more e [] d (g ∷ gs) h =
    by_bool _ (is_old version g.since)
    (λ o. absurd (some_none _ (sym (ap (λ t. cond t (differs g.name reason.Part) (fields_differ version more (ends_at e (end_past d g.offset g.kind)) [] gs)) o) ∙ h)))
    (λ o. pass_it _ _ _ o (fields_stand version more e [] (end_past d g.offset g.kind) gs (sym (ap (λ t. cond t (differs g.name reason.Part) (fields_differ version more (ends_at e (end_past d g.offset g.kind)) [] gs)) o) ∙ h)))
fields_stand version more e (f ∷ fs) d (g ∷ gs) h =
    by_bool _ (is_old version g.since)
    (λ o. let two = unless_none f.name (field_reason more (ends_at e d) f g) _ (sym (when_true _ _ _ o) ∙ h) in
    let name = passes _ _ _ two.0 in
    let since = passes _ _ _ name.1 in
    let place = passes _ _ _ since.1 in
    let kind = passes _ _ _ place.1 in
    let stands = kind_stands more f.kind g.kind kind.0 in
    take_it _ _ _ o (
      record {
        name = name_is f.name g.name name.0;
        since = nat_is f.since g.since since.0;
        place = place_is e f.offset f.kind d g.offset g.kind more (both_of _ _ place.0).0 stands;
        kind = stands;
      },
      fields_stand version more (end_past e f.offset f.kind) fs (end_past d g.offset g.kind) gs two.1,
    ))
    (λ o. pass_it _ _ _ o (fields_stand version more e (f ∷ fs) (end_past d g.offset g.kind) gs (sym (when_false _ _ _ o) ∙ h)))

parts_stand : (version : ℕ) (olds news : List DataField) → parts_differ version olds news ≡ None → PartsStand version olds news
parts_stand version [] [] h = tt
parts_stand version (f ∷ fs) [] h = absurd (some_none _ h)
parts_stand version [] (g ∷ gs) h =
    by_bool _ (is_old version g.since) (λ o. absurd (some_none _ (sym (when_true _ _ _ o) ∙ h))) (λ o. pass_it _ _ _ o (parts_stand version [] gs (sym (when_false _ _ _ o) ∙ h)))
parts_stand version (f ∷ fs) (g ∷ gs) h =
    by_bool _ (is_old version g.since)
    (λ o. let two = unless_none f.name (data_reason f g) _ (sym (when_true _ _ _ o) ∙ h) in
    let name = passes _ _ _ two.0 in
    let since = passes _ _ _ name.1 in
    let leaf = passes _ _ _ since.1 in
    take_it _ _ _ o (record { name = name_is f.name g.name name.0; since = nat_is f.since g.since since.0; length = leaf_is f.length g.length leaf.0 }, parts_stand version fs gs two.1))
    (λ o. pass_it _ _ _ o (parts_stand version (f ∷ fs) gs (sym (when_false _ _ _ o) ∙ h)))

mutual
  unfolding level_differs groups_differ group_differs

  pub level_stands : (version : ℕ) (more : Bool) (old level : Level) → level_differs version more old level ≡ None → LevelStands (Listed more) version old level
  level_stands version more (Level' _ _ _ _ _ fs _ os ps) (Level' _ _ _ _ _ gs _ ns qs) h =
      let a = else_none _ _ h in
      let b = else_none _ _ a.1 in
      (fields_stand version more 0 fs 0 gs a.0, groups_stand version more os ns b.0, parts_stand version ps qs b.1)

  groups_stand : (version : ℕ) (more : Bool) {n : _} (olds : Row_of-Group n) {k : _} (news : Row_of-Group k) → groups_differ version more olds news ≡ None → GroupsStand (Listed more) version olds news
  groups_stand version more end_of-Group end_of-Group h = tt
  groups_stand version more (more_of-Group f fs) end_of-Group h = absurd (some_none _ h)
  groups_stand version more end_of-Group (more_of-Group g gs) h =
      by_bool _ (is_old version (group_since g)) (λ o. absurd (some_none _ (sym (when_true _ _ _ o) ∙ h))) (λ o. pass_it _ _ _ o (groups_stand version more end_of-Group gs (sym (when_false _ _ _ o) ∙ h)))
  groups_stand version more (more_of-Group f fs) (more_of-Group g gs) h =
      by_bool _ (is_old version (group_since g))
      (λ o. let two = unless_none (group_name f) (group_reason f g) _ (sym (when_true _ _ _ o) ∙ h) in
      let name = passes _ _ _ two.0 in
      let since = passes _ _ _ name.1 in
      let dim = passes _ _ _ since.1 in
      let both = else_none _ _ two.1 in
      take_it _ _ _ o (group_stands version more f g (name_is (group_name f) (group_name g) name.0) (nat_is (group_since f) (group_since g) since.0) dim.0 (in_none (group_name f) _ both.0), groups_stand version more fs gs both.1))
      (λ o. pass_it _ _ _ o (groups_stand version more (more_of-Group f fs) gs (sym (when_false _ _ _ o) ∙ h)))

  group_stands : (version : ℕ) (more : Bool) (f g : Group) → group_name f ≡ group_name g → group_since f ≡ group_since g → same_members (group_dimension f) (group_dimension g) ≡ true → group_differs version more f g ≡ None → GroupStands (Listed more) version f g
  group_stands version more (Group' old_dim old) (Group' dim level) name since dims h =
      (since, members_stand 0 old_dim 0 dim dims refl, level_stands version more old level h, name)

message_stands : (version : ℕ) (more : Bool) (old : Level) (o : Option (ℕ × Level)) → message_differs version more old o ≡ None → (m : ℕ × Level) × (o ≡ Some m) × LevelStands (Listed more) version old m.1
message_stands version more old None h = absurd (some_none _ h)
message_stands version more old (Some m) h =
    by_bool _ (bytes_eq (out-Level old).name (out-Level m.1).name)
    (λ o. (m, refl, level_stands version more old m.1 (in_none (out-Level old).name _ (sym (when_true _ _ _ o) ∙ h))))
    (λ o. absurd (some_none _ (sym (when_false _ _ _ o) ∙ h)))

messages_stand : (version : ℕ) (more : Bool) (olds news : List Level) → messages_differ version more olds news ≡ None → (i : ℕ) (level : Level) → slice_get olds i ≡ Some level →
    (m : ℕ × Level) × (message_named 0 (out-Level level).id news ≡ Some m) × LevelStands (Listed more) version level m.1
messages_stand version more [] news h i level at = cc
messages_stand version more (old ∷ olds) news h zero level at =
    let two = else_none _ _ h in
    let here = message_stands version more old (message_named 0 (out-Level old).id news) two.0 in
    subst (λ l. (m : ℕ × Level) × (message_named 0 (out-Level l).id news ≡ Some m) × LevelStands (Listed more) version l m.1) (some_is at) here
messages_stand version more (old ∷ olds) news h (suc i) level at = messages_stand version more olds news (else_none _ _ h).1 i level at

-- where there is no difference, old's parts stand in new
pub schema_stands : (old new : WireSchema) → differ old new ≡ None → SchemaStands old new
schema_stands old new h =
    let two = unless_none [] (schema_reason old new) _ h in
    let id = passes _ _ _ two.0 in
    let order = passes _ _ _ id.1 in
    let header = passes _ _ _ order.1 in
    let version = passes _ _ _ header.1 in
    record {
      id = nat_is old.id new.id id.0;
      order = order_is old.order new.order order.0;
      header = header_stands 0 old.header.members 0 new.header.members header.0;
      version = at_most old.version new.version version.0;
      messages = messages_stand old.version (nat_lt old.version new.version) old.messages new.messages two.1;
    }
