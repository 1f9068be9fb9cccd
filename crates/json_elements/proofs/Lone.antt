-- An object of one key, which may come more than once: then the last counts.
use Rattle.std.proofs.Common.{◌≡◌, ℕ, zero, suc, ◌-◌, ◌<◌, ◌≤◌, Bool, true, false, Some, None, List, [], ◌∷◌, length, get_or, map, Bor, refl, sym, ap, ◌∙◌, subst, arith, true≢false}
use Rattle.std.specs.Prelude.{Option, ◌&&◌, ◌==◌, ⊤}
use Rattle.std.specs.List.{list_all}
use Rattle.std.specs.Str.{bytes_eq}
use Rattle.std.specs.Ordering.{nat_cmp, match_ordering, is_eq}
use Rattle.std.specs.Cmp.Lexicographic.{slice_cmp}
use Rattle.std.specs.declared.cmp.Ordering.{Ordering}
use Rattle.std.specs.declared.cmp.Ordering.TheVariants.{Less, Equal, Greater}
use Rattle.std.proofs.lemmas.Map.Text.{is_eq-slice_cmp}
use Rattle.std.proofs.lemmas.Slice.Eq.{bytes_eq-Decides}
use Rattle.serde_json.specs.Data.{Data, null, boolean, number, string, array, object, Members, no_members, member, put, depth}
use Rattle.serde_json.specs.Find.{as_object}
use Rattle.json_data.specs.declared.data.Json.{Json}
use Rattle.json_data.specs.Trees.{data_of, members_of, put_each}
use Rattle.json_elements.specs.Elements.{lone, local_name}

abbrev Pair : Type 0
Pair = Bor (List ℕ) × Json

-- a key with its data
abbrev Entry : Type 0
Entry = Bor (List ℕ) × Data

abbrev entry_of : Pair → Entry
entry_of m = (m.0, data_of m.1)

abbrev HasKey : List ℕ → Entry → Bool
HasKey k m = bytes_eq m.0.now k

-- there are two members or more
abbrev IsTwo : Members → Type 0
IsTwo no_members = ⊥
IsTwo (member k d no_members) = ⊥
IsTwo (member k d (member l e ms)) = ⊤

pub not_object : (d : Data) → as_object d ≡ None → lone d ≡ None
not_object null h = refl
not_object (boolean b) h = refl
not_object (number n) h = refl
not_object (string s) h = refl
not_object (array ds) h = refl
not_object (object ms) h = cc

pub seen_object : (d : Data) (ms : Members) → Some ms ≡ as_object d → lone (object ms) ≡ lone d
seen_object null ms h = cc
seen_object (boolean b) ms h = cc
seen_object (number n) ms h = cc
seen_object (string s) ms h = cc
seen_object (array ds) ms h = cc
seen_object (object ns) ms h =
    let same : ms ≡ ns = cc in
    ap (λ m. lone (object m)) same

-- ---- one member more

if_equal : (o : Ordering) (a b c : Members) → is_eq o ≡ true → match_ordering o a b c ≡ b
if_equal Less a b c h = absurd (true≢false (sym h))
if_equal Equal a b c h = refl
if_equal Greater a b c h = absurd (true≢false (sym h))

if_apart : (o : Ordering) (a b c : Members) → is_eq o ≡ false → IsTwo a → IsTwo c → IsTwo (match_ordering o a b c)
if_apart Less a b c h x z = x
if_apart Equal a b c h x z = absurd (true≢false h)
if_apart Greater a b c h x z = z

each_way : (P : Members → Type 0) (o : Ordering) (a b c : Members) → P a → P b → P c → P (match_ordering o a b c)
each_way P Less a b c x y z = x
each_way P Equal a b c x y z = y
each_way P Greater a b c x y z = z

put_same : (k : List ℕ) (m : Entry) (d : Data) → HasKey k m ≡ true → put m.0.now m.1 (member k d no_members) ≡ member k m.1 no_members
put_same k m d h = if_equal (slice_cmp nat_cmp m.0.now k) _ _ _ (is_eq-slice_cmp m.0.now k ∙ h)

put_other : (k : List ℕ) (m : Entry) (d : Data) → HasKey k m ≡ false → IsTwo (put m.0.now m.1 (member k d no_members))
put_other k m d h = if_apart (slice_cmp nat_cmp m.0.now k) _ _ _ (is_eq-slice_cmp m.0.now k ∙ h) tt tt

put_after : (l k : List ℕ) (e d : Data) (ms : Members) → IsTwo (member l e (put k d ms))
put_after l k e d no_members = tt
put_after l k e d (member l2 e2 ms) = each_way (λ ns. IsTwo (member l e ns)) (slice_cmp nat_cmp k l2) _ _ _ tt tt tt

put_keeps : (k : List ℕ) (d : Data) (ms : Members) → IsTwo ms → IsTwo (put k d ms)
put_keeps k d no_members h = absurd h
put_keeps k d (member l e no_members) h = absurd h
put_keeps k d (member l e (member l2 e2 ms)) h = each_way IsTwo (slice_cmp nat_cmp k l) _ _ _ tt tt (put_after l k e d (member l2 e2 ms))

-- ---- all members

two_kept : (ms : List Entry) (found : Members) → IsTwo found → IsTwo (put_each ms found)
two_kept [] found h = h
two_kept (m ∷ ms) found h = two_kept ms (put m.0.now m.1 found) (put_keeps m.0.now m.1 found h)

-- the last data of some, the first of which is this
abbrev last_of : Data → List Entry → Data
last_of d [] = d
last_of d (m ∷ ms) = last_of m.1 ms

right : (a b : Bool) → (a && b) ≡ true → b ≡ true
right true b h = h
right false b h = cc

left : (a b : Bool) → (a && b) ≡ true → a ≡ true
left true b h = refl
left false b h = cc

later : (a b : Bool) → a ≡ true → (a && b) ≡ false → b ≡ false
later true b e h = h
later false b e h = cc

all_same : (k : List ℕ) (d : Data) (ms : List Entry) → list_all (HasKey k) ms ≡ true → put_each ms (member k d no_members) ≡ member k (last_of d ms) no_members
all_same k d [] h = refl
all_same k d (m ∷ ms) h =
    ap (put_each ms) (put_same k m d (left (HasKey k m) (list_all (HasKey k) ms) h)) ∙ all_same k m.1 ms (right (HasKey k m) (list_all (HasKey k) ms) h)

differs_at : (b : Bool) (k : List ℕ) (d : Data) (m : Entry) (ms : List Entry) → (list_all (HasKey k) ms ≡ false → IsTwo (put_each ms (member k m.1 no_members))) →
    HasKey k m ≡ b → (HasKey k m && list_all (HasKey k) ms) ≡ false → IsTwo (put_each ms (put m.0.now m.1 (member k d no_members)))
differs_at true k d m ms rest is h = subst (λ found. IsTwo (put_each ms found)) (sym (put_same k m d is)) (rest (later (HasKey k m) (list_all (HasKey k) ms) is h))
differs_at false k d m ms rest is h = two_kept ms (put m.0.now m.1 (member k d no_members)) (put_other k m d is)

one_differs : (k : List ℕ) (d : Data) (ms : List Entry) → list_all (HasKey k) ms ≡ false → IsTwo (put_each ms (member k d no_members))
one_differs k d [] h = absurd (true≢false h)
one_differs k d (m ∷ ms) h = differs_at (HasKey k m) k d m ms (one_differs k m.1 ms) refl h

-- ---- the members of an object as they came

all_mapped : (k : List ℕ) (ms : List Pair) → list_all (HasKey k) (map entry_of ms) ≡ list_all (λ m. bytes_eq m.0.now k) ms
all_mapped k [] = refl
all_mapped k (m ∷ ms) = ap (λ b. bytes_eq m.0.now k && b) (all_mapped k ms)

is_last : (m : Pair) (ms : List Pair) (n : ℕ) (other : Pair) → n ≡ length ms → last_of (data_of m.1) (map entry_of ms) ≡ data_of (get_or (m ∷ ms) n other).1
is_last m [] zero other e = refl
is_last m [] (suc n) other e = absurd (omega arith)
is_last m (r ∷ ms) zero other e = absurd (omega arith)
is_last m (r ∷ ms) (suc n) other e = is_last r ms n other (omega arith)

own_key : (k : List ℕ) → bytes_eq k k ≡ true
own_key k = (bytes_eq-Decides k k).1 refl

two_is_none : (ms : Members) → IsTwo ms → lone (object ms) ≡ None
two_is_none no_members h = absurd h
two_is_none (member k d no_members) h = absurd h
two_is_none (member k d (member l e ms)) h = refl

pub lone_is : (ms : List Pair) (other : Pair) → (length ms == 0) ≡ false → list_all (λ m. bytes_eq m.0.now (get_or ms 0 other).0.now) ms ≡ true →
    lone (object (members_of ms)) ≡ Some (local_name (get_or ms 0 other).0.now, data_of (get_or ms (length ms - 1) other).1)
lone_is [] other some same = absurd (true≢false some)
lone_is (m ∷ ms) other some same =
    let k : List ℕ = m.0.now in
    let rest : list_all (HasKey k) (map entry_of ms) ≡ true = all_mapped k ms ∙ right (bytes_eq k k) (list_all (λ (p : Pair). bytes_eq p.0.now k) ms) same in
    ap (λ (found : Members). lone (object found)) (all_same k (data_of m.1) (map entry_of ms) rest)
    ∙ ap (λ (d : Data). Some (local_name k, d)) (is_last m ms (length (m ∷ ms) - 1) other (omega arith))

pub not_lone : (ms : List Pair) (other : Pair) → (length ms == 0) ≡ false → list_all (λ m. bytes_eq m.0.now (get_or ms 0 other).0.now) ms ≡ false → lone (object (members_of ms)) ≡ None
not_lone [] other some apart = absurd (true≢false some)
not_lone (m ∷ ms) other some apart =
    let k : List ℕ = m.0.now in
    let rest : list_all (HasKey k) (map entry_of ms) ≡ false = all_mapped k ms ∙ later (bytes_eq k k) (list_all (λ (p : Pair). bytes_eq p.0.now k) ms) (own_key k) apart in
    two_is_none _ (one_differs k (data_of m.1) (map entry_of ms) rest)

-- a name that is equal to another, with the same data
pub renamed : (n m : List ℕ) (d : Data) (found : Option (List ℕ × Data)) → n ≡ m → found ≡ Some (m, d) → Some (n, d) ≡ found
renamed n m d found same is = ap (λ (k : List ℕ). Some (k, d)) same ∙ sym is

pub none_lone : (ms : List Pair) → length ms ≡ 0 → lone (object (members_of ms)) ≡ None
none_lone [] h = refl
none_lone (m ∷ ms) h = absurd (omega arith)

-- ---- what lies deeper

abbrev lone_depth : Option (List ℕ × Data) → ℕ
lone_depth None = 0
lone_depth (Some p) = suc (depth p.1)

lone_within : (d : Data) → lone_depth (lone d) ≤ depth d
lone_within null = omega arith
lone_within (boolean b) = omega arith
lone_within (number n) = omega arith
lone_within (string s) = omega arith
lone_within (array ds) = omega arith
lone_within (object no_members) = omega arith
lone_within (object (member k d no_members)) = omega arith
lone_within (object (member k d (member l e ms))) = omega arith

pub lone_deeper : (d inner : Data) (name : List ℕ) → lone d ≡ Some (name, inner) → depth inner < depth d
lone_deeper d inner name h = let e : lone_depth (lone d) ≡ suc (depth inner) = ap lone_depth h in omega (arith, lone_within d)
