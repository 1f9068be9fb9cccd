-- Values of kinds that stand to each other.
use Rattle.std.proofs.Common.{◌≡◌, ℕ, zero, suc, ◌+◌, ◌*◌, Bool, true, false, cond, List, [], ◌∷◌, length, take, drop, Some, None, refl, sym, ap, ◌∙◌, subst}
use Rattle.std.specs.Prelude.{not, ◌&&◌, ◌||◌, ◌==◌, ℤ, pos}
use Rattle.std.specs.Int.{bit_at}
use Rattle.sbe_types.specs.declared.kind.Order.{Order}
use Rattle.sbe_types.specs.declared.kind.Named.{Named}
use Rattle.sbe_types.specs.declared.kind.Leaf.{Leaf as LeafOf}
use Rattle.sbe_types.specs.declared.kind.Kind.{Kind, Leaf, Enum, Set, Const, Comp', Row_of-Member, end_of-Member, more_of-Member}
use Rattle.sbe_types.specs.declared.message.Value.{Value}
use Rattle.sbe_types.specs.declared.message.Value.TheVariants as value
use Rattle.sbe_types.specs.Numbers.{number_of, natural, prim_width}
use Rattle.sbe_types.specs.Places.{width, is_const, begin_of, row_end}
use Rattle.sbe_types.specs.Shown.{is_null, is_listed, has_listed_bits, shown_enum, shown_set}
use Rattle.sbe_types.specs.Shows.{Shows, ShowsLeaf, MembersShow}
use Rattle.version_laws.proofs.Stands.{Lists, KindStands, RowStands}

module _ (R : Lists) where
  pub same_const : (k l : Kind) → KindStands R k l → is_const k ≡ is_const l
  same_const (Leaf a) (Leaf b) h = refl
  same_const (Enum a xs) (Enum b ys) h = refl
  same_const (Set p xs) (Set q ys) h = refl
  same_const (Const c) (Const d) h = refl
  same_const (Comp' n old) (Comp' k new) h = refl
  same_const k l h = absurd h

  mutual
    pub same_width : (k l : Kind) → KindStands R k l → width k ≡ width l
    same_width (Leaf a) (Leaf b) h = ap (λ (l : LeafOf). prim_width l.prim * l.length) h
    same_width (Enum a xs) (Enum b ys) h = ap (λ (l : LeafOf). prim_width l.prim) h.0
    same_width (Set p xs) (Set q ys) h = ap prim_width h.0
    same_width (Const c) (Const d) h = refl
    same_width (Comp' n old) (Comp' k new) h = same_end 0 old new h
    same_width k l h = absurd h

    pub same_end : (e : ℕ) {n : _} (old : Row_of-Member n) {k : _} (new : Row_of-Member k) → RowStands R old new → row_end e old ≡ row_end e new
    same_end e end_of-Member end_of-Member h = refl
    same_end e end_of-Member (more_of-Member name offset kind rest) h = absurd h
    same_end e (more_of-Member name offset kind rest) end_of-Member h = absurd h
    same_end e (more_of-Member name offset kind rest) (more_of-Member name' offset' kind' rest') h =
        same_end (cond (is_const kind) e (begin_of e offset + width kind)) rest rest' h.2
        ∙ ap (λ c. row_end (cond c e (begin_of e offset + width kind)) rest') (same_const kind kind' h.1)
        ∙ ap (λ o. row_end (cond (is_const kind') e (begin_of e o + width kind)) rest') h.0
        ∙ ap (λ w. row_end (cond (is_const kind') e (begin_of e offset' + w)) rest') (same_width kind kind' h.1)

  pub const_width : (k : Kind) → is_const k ≡ true → width k ≡ 0
  const_width (Leaf a) h = cc
  const_width (Enum a xs) h = cc
  const_width (Set p xs) h = cc
  const_width (Const c) h = refl
  const_width (Comp' n row) h = cc

-- ---- the other way round

abbrev pub flipped : Lists → Lists
flipped R xs ys = R ys xs

module _ (R : Lists) where
  mutual
    pub kind_flips : (k l : Kind) → KindStands R k l → KindStands (flipped R) l k
    kind_flips (Leaf a) (Leaf b) h = sym h
    kind_flips (Enum a xs) (Enum b ys) h = (sym h.0, h.1)
    kind_flips (Set p xs) (Set q ys) h = (sym h.0, h.1)
    kind_flips (Const c) (Const d) h = sym h
    kind_flips (Comp' n old) (Comp' k new) h = row_flips old new h
    kind_flips k l h = absurd h

    row_flips : {n : _} (old : Row_of-Member n) {k : _} (new : Row_of-Member k) → RowStands R old new → RowStands (flipped R) new old
    row_flips end_of-Member end_of-Member h = h
    row_flips end_of-Member (more_of-Member name offset kind rest) h = absurd h
    row_flips (more_of-Member name offset kind rest) end_of-Member h = absurd h
    row_flips (more_of-Member name offset kind rest) (more_of-Member name' offset' kind' rest') h =
        (sym h.0, kind_flips kind kind' h.1, row_flips rest rest' h.2)

-- ---- what is shown stays shown

-- a number that may stand beside the one list may stand beside the other
abbrev pub Keeps : Lists → Bool → Bool → Type 0
Keeps R known known' = (xs ys : List Named) → R xs ys → (n : ℤ) → (is_listed xs n || not known) ≡ true → (is_listed ys n || not known') ≡ true

or_true : (t : Bool) → (t || true) ≡ true
or_true true = refl
or_true false = refl

or_false : (t : Bool) → (t || false) ≡ t
or_false true = refl
or_false false = refl

one_bit : (z x y k : Bool) → (x || k ≡ true → y ≡ true) → ((z || x) || k) ≡ true → (z || y) ≡ true
one_bit true x y k h e = refl
one_bit false x y k h e = h e

front_bits : (x y k : Bool) → ((x && y) || k) ≡ true → ((x || k) ≡ true) × ((y || k) ≡ true)
front_bits true y k h = (refl, h)
front_bits false y true h = (refl, or_true y)
front_bits false y false h = cc

both_true : (x y : Bool) → x ≡ true → y ≡ true → (x && y) ≡ true
both_true true y h k = k
both_true false y h k = cc

bits_stay : (xs ys : List Named) (known : Bool) (n k : ℕ) → ((m : ℤ) → (is_listed xs m || not known) ≡ true → is_listed ys m ≡ true) →
    (has_listed_bits xs k n || not known) ≡ true → has_listed_bits ys k n ≡ true
bits_stay xs ys known n zero keeps h = refl
bits_stay xs ys known n (suc k) keeps h =
    let two = front_bits (has_listed_bits xs k n) (bit_at n k == 0 || is_listed xs (pos k)) (not known) h in
    both_true (has_listed_bits ys k n) (bit_at n k == 0 || is_listed ys (pos k)) (bits_stay xs ys known n k keeps two.0)
    (one_bit (bit_at n k == 0) (is_listed xs (pos k)) (is_listed ys (pos k)) (not known) (keeps (pos k)) two.1)

set_stays : (xs ys : List Named) (known known' : Bool) (n : ℕ) → ((m : ℤ) → (is_listed xs m || not known) ≡ true → (is_listed ys m || not known') ≡ true) →
    (has_listed_bits xs 64 n || not known) ≡ true → (has_listed_bits ys 64 n || not known') ≡ true
set_stays xs ys known true n keeps h =
    or_false (has_listed_bits ys 64 n) ∙ bits_stay xs ys known n 64 (λ m e. sym (or_false (is_listed ys m)) ∙ keeps m e) h
set_stays xs ys known false n keeps h = or_true (has_listed_bits ys 64 n)

set_moves : (v w : Value) (t u : Bool) → (t ≡ true → u ≡ true) → cond t (Some w) None ≡ Some v → cond u (Some w) None ≡ Some v
set_moves v w true u h e = ap (λ b. cond b (Some w) None) (h refl) ∙ e
set_moves v w false u h e = cc

enum_moves : (v w : Value) (z t u : Bool) → (t ≡ true → u ≡ true) → cond z (Some value.Null) (cond t (Some w) None) ≡ Some v → cond z (Some value.Null) (cond u (Some w) None) ≡ Some v
enum_moves v w true t u h e = e
enum_moves v w false t u h e = set_moves v w t u h e

module _ (order : Order) (R : Lists) (known known' : Bool) (keeps : Keeps R known known') where
  mutual
    pub value_moves : (k l : Kind) → KindStands R k l → (v : Value) (b : List ℕ) → Shows order known k v b → Shows order known' l v b
    value_moves (Leaf x) (Leaf y) h v b s = subst (λ (l : LeafOf). (length b ≡ width (Leaf l)) × ShowsLeaf order l.shape l v b) h s
    value_moves (Enum x xs) (Enum y ys) h v b s =
        subst (λ (l : LeafOf). (length b ≡ prim_width l.prim) × (shown_enum l ys known' (number_of order l.prim b) ≡ Some v)) h.0
        (s.0, enum_moves v (value.Enum (number_of order x.prim b)) (is_null x (number_of order x.prim b)) _ _ (keeps xs ys h.1 (number_of order x.prim b)) s.1)
    value_moves (Set p xs) (Set q ys) h v b s =
        subst (λ p. (length b ≡ prim_width p) × (shown_set ys known' (natural (number_of order p b)) ≡ Some v)) h.0
        (s.0, set_moves v (value.Set (natural (number_of order p b))) _ _ (set_stays xs ys known known' (natural (number_of order p b)) (keeps xs ys h.1)) s.1)
    value_moves (Const c) (Const d) h v b s = s
    value_moves (Comp' n old) (Comp' k new) h v b s =
        (s.0 ∙ same_end R 0 old new h, (s.1.0, s.1.1, members_move 0 old new h s.1.0 b s.1.2))
    value_moves k l h v b s = absurd h

    members_move : (e : ℕ) {n : _} (old : Row_of-Member n) {k : _} (new : Row_of-Member k) → RowStands R old new → (vs : List Value) (b : List ℕ) → MembersShow order known e old vs b → MembersShow order known' e new vs b
    members_move e end_of-Member end_of-Member h [] b s = tt
    members_move e end_of-Member end_of-Member h (v ∷ vs) b s = absurd s
    members_move e end_of-Member (more_of-Member name offset kind rest) h vs b s = absurd h
    members_move e (more_of-Member name offset kind rest) end_of-Member h vs b s = absurd h
    members_move e (more_of-Member name offset kind rest) (more_of-Member name' offset' kind' rest') h [] b s = absurd s
    members_move e (more_of-Member name offset kind rest) (more_of-Member name' offset' kind' rest') h (v ∷ vs) b s =
        let here = value_moves kind kind' h.1 v (take (width kind) (drop (begin_of e offset) b)) s.0 in
        let there = members_move (cond (is_const kind) e (begin_of e offset + width kind)) rest rest' h.2 vs b s.1 in
        subst (λ o. Shows order known' kind' v (take (width kind') (drop (begin_of e o) b)) × MembersShow order known' (cond (is_const kind') e (begin_of e o + width kind')) rest' vs b) h.0
        (subst (λ w. Shows order known' kind' v (take w (drop (begin_of e offset) b)) × MembersShow order known' (cond (is_const kind') e (begin_of e offset + w)) rest' vs b) (same_width R kind kind' h.1)
        (here, subst (λ c. MembersShow order known' (cond c e (begin_of e offset + width kind)) rest' vs b) (same_const R kind kind' h.1) there))
