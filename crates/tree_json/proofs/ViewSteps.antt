-- Steps of the loops over what a view shows.
use Rattle.std.proofs.Common.{◌≡◌, ℕ, zero, suc, ◌+◌, ◌<◌, ◌≤◌, Bool, true, List, [], ◌∷◌, ◌++◌, length, drop, Option, Some, None, refl, sym, ap, ap₂, ◌∙◌, subst, arith, add-one, length-drop}
use Rattle.std.specs.Prelude.{codes, slice_get}
use Rattle.std.specs.Option.{option_map, IsSome}
use Rattle.sbe_types.specs.declared.kind.Kind.{Kind, Leaf, Enum, Set, Const, Comp'}
use Rattle.sbe_types.specs.declared.kind.Order.{Order}
use Rattle.sbe_types.specs.declared.message.Value.{Value}
use Rattle.sbe_types.specs.declared.message.Value.TheVariants as value
use Rattle.sbe_types.specs.declared.schema.Field.{Field}
use Rattle.sbe_types.specs.Places.{width}
use Rattle.sbe_types.specs.Shows.{Shows}
use Rattle.serde_json.specs.Written.{comma_if}
use Rattle.flyweight_view.specs.declared.values.FieldBytes.{FieldBytes}
use Rattle.flyweight_view.specs.ShownIn.{IsShownIn}
use Rattle.json_values.specs.Values.{Entry, zipped, value_data}
use Rattle.tree_json.specs.Lines.{field_entry}
use Rattle.json_values.specs.Plain.{key_text, entry_text, entries_text, later_behind}
use Rattle.json_fields.specs.Shown.{PrintsShown}
use Rattle.sbe_base.specs.Objects.{Object}
use Rattle.printers.specs.Prints.{Prints}
use Rattle.printers.specs.declared.printer.Printer.{Printer}
use Rattle.json_values.proofs.Entries.{entry_next}
use Rattle.json_fields.proofs.FromBytes.{is_shown}
use Rattle.json_fields.proofs.MembersShown.{entry_is, later_is}
use Rattle.printers.proofs.Printing.{then_prints, reprinted, prints_nothing}

some_is : {A : Type 0} {x y : A} → ◌≡◌ {A = Option A} (Some x) (Some y) → x ≡ y
some_is h = cc

-- ---- lists

-- the part of which something is told
pub part_of : {A B : Type 0} (f : A → B) (o : Option A) (y : B) → option_map f o ≡ Some y → (x : A) × (o ≡ Some x) × (f x ≡ y)
part_of f None y h = cc
part_of f (Some x) y h = (x, refl, some_is h)

pub told_of : {A B : Type 0} (f : A → B) (o : Option A) (x : A) (y : B) → o ≡ Some x → option_map f o ≡ Some y → f x ≡ y
told_of f None x y h k = absurd cc
told_of f (Some z) x y h k = ap f (sym (some_is h)) ∙ some_is k

-- a part in range
pub part_at : {A : Type 0} (xs : List A) (i : ℕ) → i < length xs → (x : A) × (slice_get xs i ≡ Some x)
part_at [] i h = absurd (omega (arith, h))
part_at (x ∷ xs) zero h = (x, refl)
part_at (x ∷ xs) (suc i) h = part_at xs i (omega (arith, h))

pub there_at : {A : Type 0} (xs : List A) (i : ℕ) → IsSome (slice_get xs i) → (x : A) × (slice_get xs i ≡ Some x)
there_at [] i h = absurd cc
there_at (x ∷ xs) zero h = (x, refl)
there_at (x ∷ xs) (suc i) h = there_at xs i h

drop_at : {A : Type 0} (xs : List A) (i : ℕ) (x : A) → slice_get xs i ≡ Some x → drop i xs ≡ x ∷ drop (suc i) xs
drop_at [] i x h = absurd cc
drop_at (y ∷ ys) zero x h = ap (λ z. z ∷ ys) (some_is h)
drop_at (y ∷ ys) (suc i) x h = drop_at ys i x h

next_at : {A : Type 0} (xs : List A) (i : ℕ) (x : A) → slice_get xs i ≡ Some x → drop i xs ≡ x ∷ drop (i + 1) xs
next_at xs i x h = rw add-one (drop_at xs i x h)

-- one step of a loop over parts and what is left of a view
pub view_next : {A B : Type 0} (f : A → B → Entry) (later : Bool) (i : ℕ) (xs : List A) (x : A) (y : B) (ys all : List B) → slice_get xs i ≡ Some x → all ≡ y ∷ ys
    → entry_text later (f x y) ++ entries_text (later_behind later (f x y).1) (zipped f (drop (i + 1) xs) ys) ≡ entries_text later (zipped f (drop i xs) all)
view_next f later i xs x y ys all h is =
    sym (ap₂ (λ us vs. entries_text later (zipped f us vs)) (next_at xs i x h) is ∙ entry_next later (f x y).0 (f x y).1 (zipped f (drop (i + 1) xs) ys))

-- one step of a loop over parts and their values
pub value_next : {A B : Type 0} (f : A → B → Entry) (later : Bool) (i : ℕ) (xs : List A) (ys : List B) (x : A) (y : B) → slice_get xs i ≡ Some x → slice_get ys i ≡ Some y
    → entry_text later (f x y) ++ entries_text (later_behind later (f x y).1) (zipped f (drop (i + 1) xs) (drop (i + 1) ys)) ≡ entries_text later (zipped f (drop i xs) (drop i ys))
value_next f later i xs ys x y h k = view_next f later i xs x y (drop (i + 1) ys) (drop i ys) h (next_at ys i y k)

-- after the last part
pub view_over : {A B : Type 0} (f : A → B → Entry) (later : Bool) (i : ℕ) (xs : List A) (ys : List B) → length xs ≤ i → codes "}" ≡ entries_text later (zipped f (drop i xs) ys)
view_over f later i xs ys h = sym (ap (entries_text later) (none f (drop i xs) ys (omega (arith, length-drop i xs, h))))
  where
    none : {A B : Type 0} (f : A → B → Entry) (xs : List A) (ys : List B) → length xs ≤ 0 → zipped f xs ys ≡ []
    none f [] ys h = refl
    none f (x ∷ xs) ys h = absurd (omega (arith, h))

-- ---- fields

shown_width : (order : Order) (known : Bool) (kind : Kind) (v : Value) (b : List ℕ) → Shows order known kind v b → length b ≡ width kind
shown_width order known (Leaf l) v b h = h.0
shown_width order known (Enum l names) v b h = h.0
shown_width order known (Set p names) v b h = h.0
shown_width order known (Const c) v b h = ap length h.0
shown_width order known (Comp' n members) v b h = h.0

pub field_width : (f : FieldBytes) (o : Option Value) → IsShownIn f o → length f.bytes.now ≡ width f.kind.now
field_width f None h = absurd h
field_width f (Some v) h = shown_width f.order h.0 f.kind.now v f.bytes.now h.1

pub shown_there : (f : FieldBytes) (o : Option Value) → IsShownIn f o → IsSome o
shown_there f None h = absurd h
shown_there f (Some v) h = refl

absent_is : (kind : Kind) → value_data kind value.Absent ≡ None
unfolding value_data
absent_is (Leaf l) = refl
absent_is (Enum l names) = refl
absent_is (Set p names) = refl
absent_is (Const c) = refl
absent_is (Comp' n members) = refl

absent_data : (f : Field) (v : Value) (o : Option Value) → o ≡ Some v → o ≡ Some value.Absent → value_data f.kind v ≡ None
absent_data f v o h k = ap (value_data f.kind) (some_is (sym h ∙ k)) ∙ absent_is f.kind

-- a field that is absent
pub absent_written : {O : Type 0} {state : O → Object (List ℕ)} {a : Printer O} (later : Bool) (f : Field) (v : Value) (o : Option Value) → o ≡ Some v → o ≡ Some value.Absent → Prints state a a (entry_text later (field_entry f v))
absent_written later f v o h k = reprinted (sym (ap (λ d. entry_text later (f.name, d)) (absent_data f v o h k))) prints_nothing

pub absent_later : (later : Bool) (f : Field) (v : Value) (o : Option Value) → o ≡ Some v → o ≡ Some value.Absent → later ≡ later_behind later (field_entry f v).1
absent_later later f v o h k = sym (ap (later_behind later) (absent_data f v o h k))

-- a field that is there
module _ (later : Bool) (b : FieldBytes) (f : Field) (v : Value) where
  shown_as : (o : Option Value) → IsShownIn b o → o ≡ Some v → (known : Bool) × Shows b.order known b.kind.now v b.bytes.now
  shown_as None s h = cc
  shown_as (Some w) s h = subst (λ u. (known : Bool) × Shows b.order known b.kind.now u b.bytes.now) (some_is h) s

  pub field_written : {O : Type 0} {state : O → Object (List ℕ)} {before key after : Printer O} (name : List ℕ) (o : Option Value) → f.name ≡ name → f.kind ≡ b.kind.now → IsShownIn b o → o ≡ Some v
      → Prints state before key (comma_if later ++ key_text name) → PrintsShown b.order b.kind.now b.bytes.now (Prints state key after) → Prints state before after (entry_text later (field_entry f v))
  field_written name o named kind s h k w =
      let shows = shown_as o s h in
      let there = is_shown b.order shows.0 b.kind.now v b.bytes.now shows.1 in
      reprinted (entry_is later name (value_data b.kind.now v) there.0 there.1 ∙ sym (ap₂ (λ n kind. entry_text later (n, value_data kind v)) named kind)) (then_prints k (w.text shows.0 v shows.1))

  pub field_later : (o : Option Value) → f.kind ≡ b.kind.now → IsShownIn b o → o ≡ Some v → true ≡ later_behind later (field_entry f v).1
  field_later o kind s h =
      let shows = shown_as o s h in
      let there = is_shown b.order shows.0 b.kind.now v b.bytes.now shows.1 in
      sym (ap (λ k. later_behind later (value_data k v)) kind ∙ later_is later (value_data b.kind.now v) there.0 there.1)
