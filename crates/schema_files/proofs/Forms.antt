-- Whether two schemas are of one form is decided.
use Rattle.std.proofs.Common.{◌≡◌, inl, inr, ℕ, zero, suc, ℤ, List, [], ◌∷◌, Option, Some, None, refl, ap, ◌∙◌, subst}
use mathlib.Core.Former.{Count}
use Rattle.sbe_types.specs.declared.kind.Primitive.{Primitive}
use Rattle.sbe_types.specs.declared.kind.Primitive.TheVariants as prim
use Rattle.sbe_types.specs.declared.kind.Order.{Order}
use Rattle.sbe_types.specs.declared.kind.Order.TheVariants as order
use Rattle.sbe_types.specs.declared.kind.Presence.{Presence}
use Rattle.sbe_types.specs.declared.kind.Presence.TheVariants as presence
use Rattle.sbe_types.specs.declared.kind.LeafShape.{LeafShape}
use Rattle.sbe_types.specs.declared.kind.LeafShape.TheVariants as shape
use Rattle.sbe_types.specs.declared.kind.Leaf.{Leaf as LeafOf}
use Rattle.sbe_types.specs.declared.kind.Named.{Named}
use Rattle.sbe_types.specs.declared.kind.ConstValue.{ConstValue}
use Rattle.sbe_types.specs.declared.kind.ConstValue.TheVariants as constant
use Rattle.sbe_types.specs.declared.kind.Kind.{Kind, Leaf, Enum, Set, Const, Comp', Row_of-Member, end_of-Member, more_of-Member, items-the_row-Member}
use Rattle.sbe_types.specs.declared.kind.Member.{Member}
use Rattle.sbe_types.specs.declared.schema.WireSchema.{WireSchema}
use Rattle.sbe_types.specs.Places.{place_of, end_past}
use Rattle.schema_check.specs.Forms.{SameForm, IsLike, AreLike}
use Rattle.schema_check.proofs.FormLemmas.{first_stands}
use Rattle.schema_files.proofs.Deciding.{Decided, Apart, numbers, through, pairs, lists, options, integers, both, and}

-- ---- words

abbrev prim_number : Primitive → ℕ
prim_number prim.Char = 0
prim_number prim.I8 = 1
prim_number prim.I16 = 2
prim_number prim.I32 = 3
prim_number prim.I64 = 4
prim_number prim.U8 = 5
prim_number prim.U16 = 6
prim_number prim.U32 = 7
prim_number prim.U64 = 8

abbrev prim_of : ℕ → Primitive
prim_of zero = prim.Char
prim_of (suc zero) = prim.I8
prim_of (suc (suc zero)) = prim.I16
prim_of (suc (suc (suc zero))) = prim.I32
prim_of (suc (suc (suc (suc zero)))) = prim.I64
prim_of (suc (suc (suc (suc (suc zero))))) = prim.U8
prim_of (suc (suc (suc (suc (suc (suc zero)))))) = prim.U16
prim_of (suc (suc (suc (suc (suc (suc (suc zero))))))) = prim.U32
prim_of (suc (suc (suc (suc (suc (suc (suc (suc n)))))))) = prim.U64

prim_back : (p : Primitive) → prim_of (prim_number p) ≡ p
prim_back prim.Char = refl
prim_back prim.I8 = refl
prim_back prim.I16 = refl
prim_back prim.I32 = refl
prim_back prim.I64 = refl
prim_back prim.U8 = refl
prim_back prim.U16 = refl
prim_back prim.U32 = refl
prim_back prim.U64 = refl

prims : Apart Primitive
prims = through prim_number prim_of prim_back numbers

orders : Apart Order
orders order.Little order.Little = inl refl
orders order.Little order.Big = inr (λ h. cc)
orders order.Big order.Little = inr (λ h. cc)
orders order.Big order.Big = inl refl

abbrev presence_number : Presence → ℕ
presence_number presence.Required = 0
presence_number presence.Optional = 1
presence_number presence.Constant = 2

abbrev presence_of : ℕ → Presence
presence_of zero = presence.Required
presence_of (suc zero) = presence.Optional
presence_of (suc (suc n)) = presence.Constant

presence_back : (p : Presence) → presence_of (presence_number p) ≡ p
presence_back presence.Required = refl
presence_back presence.Optional = refl
presence_back presence.Constant = refl

abbrev shape_number : LeafShape → ℕ
shape_number shape.Number = 0
shape_number shape.RangedText = 1
shape_number shape.EncodedText = 2
shape_number shape.Octets = 3
shape_number shape.Numbers = 4

abbrev shape_of : ℕ → LeafShape
shape_of zero = shape.Number
shape_of (suc zero) = shape.RangedText
shape_of (suc (suc zero)) = shape.EncodedText
shape_of (suc (suc (suc zero))) = shape.Octets
shape_of (suc (suc (suc (suc n)))) = shape.Numbers

shape_back : (s : LeafShape) → shape_of (shape_number s) ≡ s
shape_back shape.Number = refl
shape_back shape.RangedText = refl
shape_back shape.EncodedText = refl
shape_back shape.Octets = refl
shape_back shape.Numbers = refl

-- ---- kinds

abbrev LeafParts : Type 0
LeafParts = Primitive × (ℕ × (LeafShape × (Presence × (ℤ × (ℤ × ℤ)))))

abbrev leaf_parts : LeafOf → LeafParts
leaf_parts l = (l.prim, (l.length, (l.shape, (l.presence, (l.null, (l.low, l.high))))))

abbrev leaf_of : LeafParts → LeafOf
leaf_of p = record { prim = p.0; length = p.1.0; shape = p.1.1.0; presence = p.1.1.1.0; null = p.1.1.1.1.0; low = p.1.1.1.1.1.0; high = p.1.1.1.1.1.1 }

leaves : Apart LeafOf
leaves = through leaf_parts leaf_of (λ l. refl)
    (pairs prims (pairs numbers (pairs (through shape_number shape_of shape_back numbers) (pairs (through presence_number presence_of presence_back numbers) (pairs integers (pairs integers integers))))))

names : Apart Named
names = through (λ (n : Named). (n.name, n.number)) (λ (p : List ℕ × ℤ). record { name = p.0; number = p.1 }) (λ n. refl) (pairs (lists numbers) integers)

constants : Apart ConstValue
constants (constant.Num m) (constant.Num n) = elim (integers m n) [ inl e ↦ inl (ap (λ k. constant.Num k) e) | inr miss ↦ inr (λ h. miss cc) ]
constants (constant.Num m) (constant.Text t) = inr (λ h. cc)
constants (constant.Num m) (constant.Code p n) = inr (λ h. cc)
constants (constant.Text t) (constant.Num n) = inr (λ h. cc)
constants (constant.Text t) (constant.Text u) = elim (lists numbers t u) [ inl e ↦ inl (ap (λ k. constant.Text k) e) | inr miss ↦ inr (λ h. miss cc) ]
constants (constant.Text t) (constant.Code p n) = inr (λ h. cc)
constants (constant.Code p m) (constant.Num n) = inr (λ h. cc)
constants (constant.Code p m) (constant.Text t) = inr (λ h. cc)
constants (constant.Code p m) (constant.Code q n) =
    both (prims p q) (names m n) (λ e f. ap (λ (x : Primitive). constant.Code x m) e ∙ ap (λ (x : Named). constant.Code q x) f) (λ h. cc) (λ h. cc)

-- how many members a composite has
abbrev shape_in : Kind → List (Unit {0})
shape_in (Comp' n members) = n
shape_in (Leaf l) = []
shape_in (Enum l ns) = []
shape_in (Set p ns) = []
shape_in (Const c) = []

units : Apart (Unit {0})
units x y = inl refl

-- the first member of all
abbrev first_in : {n : Count} → Row_of-Member n → Option Member
first_in end_of-Member = None
first_in (more_of-Member name offset kind rest) = Some (record { name = name; offset = offset; kind = kind })

-- the members of a composite
abbrev items_in : Kind → List Member
items_in (Comp' n members) = items-the_row-Member _ members
items_in (Leaf l) = []
items_in (Enum l ns) = []
items_in (Set p ns) = []
items_in (Const c) = []

first_of : {x y : Member} {xs ys : List Member} → ◌≡◌ {A = List Member} (x ∷ xs) (y ∷ ys) → x ≡ y
first_of h = cc

rest_of : {x y : Member} {xs ys : List Member} → ◌≡◌ {A = List Member} (x ∷ xs) (y ∷ ys) → xs ≡ ys
rest_of h = cc

-- rows of the same members are the same
items_same : {n : Count} (row other : Row_of-Member n) → items-the_row-Member n row ≡ items-the_row-Member n other → row ≡ other
items_same end_of-Member end_of-Member h = refl
items_same (more_of-Member name offset kind rest) (more_of-Member called at like others) h =
    let here = first_of h in
    ap (λ (x : List ℕ). more_of-Member x offset kind rest) (ap (λ (m : Member). m.name) here) ∙ ap (λ (x : Option ℕ). more_of-Member called x kind rest) (ap (λ (m : Member). m.offset) here)
    ∙ ap (λ (x : Kind). more_of-Member called at x rest) (ap (λ (m : Member). m.kind) here) ∙ ap (λ x. more_of-Member called at like x) (items_same rest others (rest_of h))

comp_by : (n : _) (row : _) → ((o : _) → Decided (row ≡ o)) → (m : _) → n ≡ m → (other : _) → Decided (Comp' n row ≡ Comp' m other)
comp_by n row apart m e = subst (λ k. (other : _) → Decided (Comp' n row ≡ Comp' k other)) e
    (λ other. elim (apart other) [ inl f ↦ inl (ap (λ r. Comp' n r) f) | inr miss ↦ inr (λ h. miss (items_same row other (ap items_in h))) ])

some_is : {x y : Member} → ◌≡◌ {A = Option Member} (Some x) (Some y) → x ≡ y
some_is h = cc

mutual
  kinds : Apart Kind
  kinds (Leaf l) (Leaf m) = elim (leaves l m) [ inl e ↦ inl (ap (λ k. Leaf k) e) | inr miss ↦ inr (λ h. miss cc) ]
  kinds (Leaf l) (Enum m ns) = inr (λ h. cc)
  kinds (Leaf l) (Set p ns) = inr (λ h. cc)
  kinds (Leaf l) (Const c) = inr (λ h. cc)
  kinds (Leaf l) (Comp' n row) = inr (λ h. cc)
  kinds (Enum l ms) (Leaf m) = inr (λ h. cc)
  kinds (Enum l ms) (Enum m ns) = both (leaves l m) (lists names ms ns) (λ e f. ap (λ (x : LeafOf). Enum x ms) e ∙ ap (λ (x : List Named). Enum m x) f) (λ h. cc) (λ h. cc)
  kinds (Enum l ms) (Set p ns) = inr (λ h. cc)
  kinds (Enum l ms) (Const c) = inr (λ h. cc)
  kinds (Enum l ms) (Comp' n row) = inr (λ h. cc)
  kinds (Set p ms) (Leaf m) = inr (λ h. cc)
  kinds (Set p ms) (Enum m ns) = inr (λ h. cc)
  kinds (Set p ms) (Set q ns) = both (prims p q) (lists names ms ns) (λ e f. ap (λ (x : Primitive). Set x ms) e ∙ ap (λ (x : List Named). Set q x) f) (λ h. cc) (λ h. cc)
  kinds (Set p ms) (Const c) = inr (λ h. cc)
  kinds (Set p ms) (Comp' n row) = inr (λ h. cc)
  kinds (Const c) (Leaf m) = inr (λ h. cc)
  kinds (Const c) (Enum m ns) = inr (λ h. cc)
  kinds (Const c) (Set p ns) = inr (λ h. cc)
  kinds (Const c) (Const d) = elim (constants c d) [ inl e ↦ inl (ap (λ k. Const k) e) | inr miss ↦ inr (λ h. miss cc) ]
  kinds (Const c) (Comp' n row) = inr (λ h. cc)
  kinds (Comp' n row) (Leaf m) = inr (λ h. cc)
  kinds (Comp' n row) (Enum m ns) = inr (λ h. cc)
  kinds (Comp' n row) (Set p ns) = inr (λ h. cc)
  kinds (Comp' n row) (Const c) = inr (λ h. cc)
  kinds (Comp' n row) (Comp' m other) = elim (lists units n m) [ inl e ↦ comp_by n row (λ o. rows row o) m e other | inr miss ↦ inr (λ h. miss (ap shape_in h)) ]

  rows : {n : Count} (row other : Row_of-Member n) → Decided (row ≡ other)
  rows end_of-Member end_of-Member = inl refl
  rows (more_of-Member name offset kind rest) (more_of-Member called at like others) =
      let front : Decided ((name ≡ called) × (offset ≡ at)) = and (lists numbers name called) (options numbers offset at) in
      let back : Decided ((kind ≡ like) × (rest ≡ others)) = and (kinds kind like) (rows rest others) in
      both front back
      (λ e f. ap (λ (x : List ℕ). more_of-Member x offset kind rest) e.0 ∙ ap (λ (x : Option ℕ). more_of-Member called x kind rest) e.1
      ∙ ap (λ (x : Kind). more_of-Member called at x rest) f.0 ∙ ap (λ x. more_of-Member called at like x) f.1)
      (λ h. let same = some_is (ap first_in h) in (ap (λ (m : Member). m.name) same, ap (λ (m : Member). m.offset) same))
      (λ h. (ap (λ (m : Member). m.kind) (some_is (ap first_in h)), items_same rest others (rest_of (ap (λ r. items-the_row-Member _ r) h))))

-- ---- the forms of schemas

like_decided : (e : ℕ) (m n : Member) → Decided (IsLike e m n)
like_decided e m n =
    let front : Decided ((m.name ≡ n.name) × (m.kind ≡ n.kind)) = and (lists numbers m.name n.name) (kinds m.kind n.kind) in
    both front (options numbers (place_of e m.offset m.kind) (place_of e n.offset n.kind))
    (λ x y. record { name = x.0; kind = x.1; place = y }) (λ like. (like.name, like.kind)) (λ like. like.place)

likes_decided : (e : ℕ) (ms ns : List Member) → Decided (AreLike e ms ns)
likes_decided e [] [] = inl tt
likes_decided e [] (n ∷ ns) = inr (λ h. h)
likes_decided e (m ∷ ms) [] = inr (λ h. h)
likes_decided e (m ∷ ms) (n ∷ ns) = and (like_decided e m n) (likes_decided (end_past e m.offset m.kind) ms ns)

pub form_decided : (s t : WireSchema) → Decided (SameForm s t)
form_decided s t =
    let stands = first_stands s.header.members t.header.members in
    both (orders s.order t.order) (likes_decided 0 s.header.members t.header.members)
    (λ same like. record { order = same; header = stands.rest like })
    (λ form. form.order)
    (λ form. stands.all form.header)
