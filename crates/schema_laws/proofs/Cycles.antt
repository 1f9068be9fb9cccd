-- Endless chains are those that meet a composite twice.
use Rattle.std.proofs.Common.{◌≡◌, ℕ, zero, suc, ◌<◌, ◌≤◌, Bool, true, false, List, [], ◌∷◌, ◌++◌, length, Option, Some, None, refl, sym, ap, ◌∙◌, subst, arith}
use Rattle.std.specs.Prelude.{◌||◌, nat_eq, slice_get, option_and_then}
use Rattle.std.specs.List.{list_any, IsDistinct, AllByRecursion}
use Rattle.std.specs.Str.{bytes_eq}
use Rattle.std.proofs.lemmas.Slice.Eq.{bytes_eq-Decides}
use Rattle.std.proofs.lemmas.Map.Steps.{length-le_from_distinct_below}
use Rattle.std.proofs.lemmas.Bool.Decides.{nat_tests}
use Rattle.sbe_types.specs.declared.tree.CompositeEl.{CompositeEl}
use Rattle.sbe_types.specs.declared.tree.MemberItem.{MemberItem, Row_of-MemberItem, end_of-MemberItem, more_of-MemberItem}
use Rattle.sbe_types.specs.declared.tree.MemberItem as part
use Rattle.sbe_types.specs.declared.tree.TypesItem.{TypesItem}
use Rattle.sbe_types.specs.declared.tree.TypesItem.TheVariants as item
use Rattle.schema_rules.specs.Names.{place_of, declared_as}
use Rattle.schema_rules.specs.Chains.{member_has, row_has, composite_has, is_composite, item_goes_on, goes_on, is_endless}
use Rattle.schema_laws.specs.Cycles.{refers, IsChain, comes_twice, MeetsTwice}

-- ---- tests

or_left : (a b : Bool) → a ≡ true → (a || b) ≡ true
or_left true b h = refl
or_left false b h = cc

or_right : (a b : Bool) → b ≡ true → (a || b) ≡ true
or_right true b h = refl
or_right false b h = h

or_to : {P : Type 0} (a b : Bool) → (a || b) ≡ true → (a ≡ true → P) → (b ≡ true → P) → P
or_to true b h f g = f refl
or_to false b h f g = g h

or_by : (a b c d : Bool) → (a || b) ≡ true → (a ≡ true → c ≡ true) → (b ≡ true → d ≡ true) → (c || d) ≡ true
or_by a b c d h f g = or_to a b h (λ k. or_left c d (f k)) (λ k. or_right c d (g k))

by_test : {P : Type 0} (b : Bool) → (b ≡ true → P) → (b ≡ false → P) → P
by_test true f g = f refl
by_test false f g = g refl

same_name : (name : List ℕ) → bytes_eq name name ≡ true
same_name name = (bytes_eq-Decides name name).1 refl

one_name : (a b : List ℕ) → bytes_eq a b ≡ true → a ≡ b
one_name a b h = (bytes_eq-Decides a b).0 h

-- ---- refs inside a composite

-- a ref whose name is so, by its name
abbrev Named : (List ℕ → Bool) → (List ℕ → Bool) → Type 0
Named is_so refers = (name : List ℕ) × (refers name ≡ true) × (is_so name ≡ true)

or_named : (is_so : List ℕ → Bool) (a b : Bool) (p q : List ℕ → Bool) → (a || b) ≡ true → (a ≡ true → Named is_so p) → (b ≡ true → Named is_so q) → Named is_so (λ name. p name || q name)
or_named is_so a b p q h f g =
    or_to a b h
    (λ k. let found = f k in (found.0, or_left (p found.0) (q found.0) found.1, found.2))
    (λ k. let found = g k in (found.0, or_right (p found.0) (q found.0) found.1, found.2))

mutual
  member_named : (is_so : List ℕ → Bool) (m : MemberItem) → member_has is_so m ≡ true → Named is_so (λ name. member_has (bytes_eq name) m)
  member_named is_so (part.Type t) h = cc
  member_named is_so (part.Enum e) h = cc
  member_named is_so (part.Set s) h = cc
  member_named is_so (part.Ref r) h = (r.type_name, same_name r.type_name, h)
  member_named is_so (part.Composite' name offset since n row) h = row_named is_so _ row h

  row_named : (is_so : List ℕ → Bool) (n : _) (row : Row_of-MemberItem n) → row_has is_so row ≡ true → Named is_so (λ name. row_has (bytes_eq name) row)
  row_named is_so n end_of-MemberItem h = cc
  row_named is_so n (more_of-MemberItem m rest) h =
      or_named is_so (member_has is_so m) (row_has is_so rest) (λ name. member_has (bytes_eq name) m) (λ name. row_has (bytes_eq name) rest) h (member_named is_so m) (row_named is_so _ rest)

any_named : (is_so : List ℕ → Bool) (ms : List MemberItem) → list_any (member_has is_so) ms ≡ true → Named is_so (λ name. list_any (member_has (bytes_eq name)) ms)
any_named is_so [] h = cc
any_named is_so (m ∷ ms) h =
    or_named is_so (member_has is_so m) (list_any (member_has is_so) ms) (λ name. member_has (bytes_eq name) m) (λ name. list_any (member_has (bytes_eq name)) ms) h (member_named is_so m) (any_named is_so ms)

composite_named : (is_so : List ℕ → Bool) (c : CompositeEl) → composite_has is_so c ≡ true → Named is_so (refers c)
composite_named is_so c h = any_named is_so c.children h

-- a ref of that name makes a composite have it
mutual
  member_by : (is_so : List ℕ → Bool) (name : List ℕ) → is_so name ≡ true → (m : MemberItem) → member_has (bytes_eq name) m ≡ true → member_has is_so m ≡ true
  member_by is_so name so (part.Type t) h = cc
  member_by is_so name so (part.Enum e) h = cc
  member_by is_so name so (part.Set s) h = cc
  member_by is_so name so (part.Ref r) h = ap is_so (sym (one_name name r.type_name h)) ∙ so
  member_by is_so name so (part.Composite' n offset since k row) h = row_by is_so name so _ row h

  row_by : (is_so : List ℕ → Bool) (name : List ℕ) → is_so name ≡ true → (n : _) (row : Row_of-MemberItem n) → row_has (bytes_eq name) row ≡ true → row_has is_so row ≡ true
  row_by is_so name so n end_of-MemberItem h = cc
  row_by is_so name so n (more_of-MemberItem m rest) h =
      or_by (member_has (bytes_eq name) m) (row_has (bytes_eq name) rest) (member_has is_so m) (row_has is_so rest) h (member_by is_so name so m) (row_by is_so name so _ rest)

any_by : (is_so : List ℕ → Bool) (name : List ℕ) → is_so name ≡ true → (ms : List MemberItem) → list_any (member_has (bytes_eq name)) ms ≡ true → list_any (member_has is_so) ms ≡ true
any_by is_so name so [] h = cc
any_by is_so name so (m ∷ ms) h =
    or_by (member_has (bytes_eq name) m) (list_any (member_has (bytes_eq name)) ms) (member_has is_so m) (list_any (member_has is_so) ms) h (member_by is_so name so m) (any_by is_so name so ms)

composite_by : (is_so : List ℕ → Bool) (name : List ℕ) → is_so name ≡ true → (c : CompositeEl) → refers c name ≡ true → composite_has is_so c ≡ true
composite_by is_so name so c h = any_by is_so name so c.children h

-- ---- an endless chain has as many places as one likes

-- the declared composite of a name, by its place
abbrev Found : List TypesItem → List ℕ → ℕ → CompositeEl → Type 0
Found types name k d = (place_of name types ≡ Some k) × (slice_get types k ≡ Some (item.Composite d))

placed : (types : List TypesItem) (d : CompositeEl) (o : Option ℕ) → option_and_then (slice_get types) o ≡ Some (item.Composite d) → (k : ℕ) × (o ≡ Some k) × (slice_get types k ≡ Some (item.Composite d))
placed types d None h = cc
placed types d (Some k) h = (k, refl, h)

composite_is : (o : Option TypesItem) → is_composite o ≡ true → (d : CompositeEl) × (o ≡ Some (item.Composite d))
composite_is None h = cc
composite_is (Some (item.Type t)) h = cc
composite_is (Some (item.Enum e)) h = cc
composite_is (Some (item.Set s)) h = cc
composite_is (Some (item.Composite c)) h = (c, refl)

going_is : (is_so : List ℕ → Bool) (o : Option TypesItem) → item_goes_on is_so o ≡ true → (d : CompositeEl) × (o ≡ Some (item.Composite d)) × (composite_has is_so d ≡ true)
going_is is_so None h = cc
going_is is_so (Some (item.Type t)) h = cc
going_is is_so (Some (item.Enum e)) h = cc
going_is is_so (Some (item.Set s)) h = cc
going_is is_so (Some (item.Composite c)) h = (c, refl, h)

chain_of : (types : List TypesItem) (n : ℕ) (name : List ℕ) → goes_on n types name ≡ true →
    (k : ℕ) × (d : CompositeEl) × (ks : List ℕ) × Found types name k d × IsChain types d ks × (length ks ≡ n)
chain_of types zero name h =
    let c = composite_is (declared_as types name) h in
    let p = placed types c.0 (place_of name types) c.1 in
    (p.0, c.0, [], (p.1, p.2), tt, refl)
chain_of types (suc n) name h =
    let c = going_is (goes_on n types) (declared_as types name) h in
    let p = placed types c.0 (place_of name types) c.1 in
    let inner = composite_named (goes_on n types) c.0 c.2 in
    let more = chain_of types n inner.0 inner.2 in
    (p.0, c.0, more.0 ∷ more.2, (p.1, p.2), (inner.0, more.1, inner.1, more.3.0, more.3.1, more.4), ap suc more.5)

-- ---- more places than types: one comes twice

got_below : (types : List TypesItem) (k : ℕ) (t : TypesItem) → slice_get types k ≡ Some t → k < length types
got_below [] k t h = cc
got_below (x ∷ xs) zero t h = omega arith
got_below (x ∷ xs) (suc k) t h = let e = got_below xs k t h in omega (arith, e)

chain_below : (types : List TypesItem) (c : CompositeEl) (ks : List ℕ) → IsChain types c ks → (q : ℕ) → list_any (nat_eq q) ks ≡ true → q < length types
chain_below types c [] chain q h = cc
chain_below types c (k ∷ ks) chain q h =
    or_to (nat_eq q k) (list_any (nat_eq q) ks) h
    (λ e. let below = got_below types k (item.Composite chain.1) chain.4 in grind (arith, nat_tests))
    (chain_below types chain.1 ks chain.5 q)

none_same : (k : ℕ) (ks : List ℕ) → list_any (nat_eq k) ks ≡ false → AllByRecursion (λ q. nat_eq k q ≡ false) ks
none_same k [] h = tt
none_same k (q ∷ ks) h =
    by_test (nat_eq k q) (λ e. cc) (λ e. (e, none_same k ks (sym (ap (λ b. b || list_any (nat_eq k) ks) e) ∙ h)))

distinct : (ks : List ℕ) → comes_twice ks ≡ false → IsDistinct nat_eq ks
unfolding IsDistinct
distinct [] h = tt
distinct (k ∷ ks) h =
    by_test (list_any (nat_eq k) ks) (λ e. cc) (λ e. (none_same k ks e, distinct ks (sym (ap (λ b. b || comes_twice ks) e) ∙ h)))

too_many : (types : List TypesItem) (c : CompositeEl) (ks : List ℕ) → IsChain types c ks → length types < length ks → comes_twice ks ≡ true
too_many types c ks chain many =
    by_test (comes_twice ks) (λ e. e) (λ e.
    let few : length ks ≤ length types = length-le_from_distinct_below ks (length types) (distinct ks e) (chain_below types c ks chain) in
    absurd (omega (arith, few, many)))

pub meets : (types : List TypesItem) (k : ℕ) (c : CompositeEl) → is_endless types c ≡ true → MeetsTwice types k c
meets types k c h =
    let first = composite_named (goes_on (length types) types) c h in
    let more = chain_of types (length types) first.0 first.2 in
    let chain : IsChain types c (more.0 ∷ more.2) = (first.0, more.1, first.1, more.3.0, more.3.1, more.4) in
    let many : length types < length (more.0 ∷ more.2) = omega (arith, more.5) in
    (more.0 ∷ more.2, chain, or_right (list_any (nat_eq k) (more.0 ∷ more.2)) (comes_twice (more.0 ∷ more.2)) (too_many types c (more.0 ∷ more.2) chain many))

-- ---- a place that comes twice makes the chain endless

-- what a name that is found goes on as
found_goes : (types : List TypesItem) (name : List ℕ) (k : ℕ) (d : CompositeEl) → Found types name k d → declared_as types name ≡ Some (item.Composite d)
found_goes types name k d found = ap (option_and_then (slice_get types)) found.0 ∙ found.1

same_composite : (types : List TypesItem) (k : ℕ) (c d : CompositeEl) → slice_get types k ≡ Some (item.Composite c) → slice_get types k ≡ Some (item.Composite d) → c ≡ d
same_composite types k c d h e = cc

-- a chain from d that leads to c, from which a chain leads back to it
loops : (types : List TypesItem) (k : ℕ) (c : CompositeEl) (round : List ℕ) → slice_get types k ≡ Some (item.Composite c) → IsChain types c (round ++ k ∷ []) →
    (n : ℕ) (d : CompositeEl) (ks : List ℕ) → IsChain types d (ks ++ k ∷ []) → composite_has (goes_on n types) d ≡ true
loops types k c round at back zero d [] chain = composite_by (goes_on zero types) chain.0 (ap is_composite (found_goes types chain.0 k chain.1 (chain.3, chain.4))) d chain.2
loops types k c round at back zero d (j ∷ ks) chain = composite_by (goes_on zero types) chain.0 (ap is_composite (found_goes types chain.0 j chain.1 (chain.3, chain.4))) d chain.2
loops types k c round at back (suc n) d [] chain =
    composite_by (goes_on (suc n) types) chain.0 (ap (item_goes_on (goes_on n types)) (found_goes types chain.0 k chain.1 (chain.3, chain.4))
    ∙ subst (λ (x : CompositeEl). composite_has (goes_on n types) x ≡ true) (same_composite types k c chain.1 at chain.4) (loops types k c round at back n c round back)) d chain.2
loops types k c round at back (suc n) d (j ∷ ks) chain =
    composite_by (goes_on (suc n) types) chain.0 (ap (item_goes_on (goes_on n types)) (found_goes types chain.0 j chain.1 (chain.3, chain.4)) ∙ loops types k c round at back n chain.1 ks chain.5) d chain.2

-- the part of a chain that leads to k
leads : (types : List TypesItem) (k : ℕ) (c : CompositeEl) (ks : List ℕ) → IsChain types c ks → list_any (nat_eq k) ks ≡ true → (round : List ℕ) × IsChain types c (round ++ k ∷ [])
leads types k c [] chain h = cc
leads types k c (j ∷ ks) chain h =
    by_test (nat_eq k j)
    (λ e. let same : j ≡ k = grind (arith, nat_tests) in ([], subst (λ i. IsChain types c (i ∷ [])) same (chain.0, chain.1, chain.2, chain.3, chain.4, tt)))
    (λ e. let more = leads types k chain.1 ks chain.5 (sym (ap (λ b. b || list_any (nat_eq k) ks) e) ∙ h) in (j ∷ more.0, (chain.0, chain.1, chain.2, chain.3, chain.4, more.1)))

name_goes : (types : List TypesItem) (n : ℕ) (name : List ℕ) (k : ℕ) (d : CompositeEl) → Found types name k d → ((m : ℕ) → composite_has (goes_on m types) d ≡ true) → goes_on n types name ≡ true
name_goes types zero name k d found h = ap is_composite (found_goes types name k d found)
name_goes types (suc n) name k d found h = ap (item_goes_on (goes_on n types)) (found_goes types name k d found) ∙ h n

goes_always : (types : List TypesItem) (k : ℕ) (c : CompositeEl) (ks : List ℕ) → slice_get types k ≡ Some (item.Composite c) → IsChain types c ks → comes_twice (k ∷ ks) ≡ true → (n : ℕ) → composite_has (goes_on n types) c ≡ true
goes_always types k c [] at chain twice n = cc
goes_always types k c (j ∷ ks) at chain twice n =
    or_to (list_any (nat_eq k) (j ∷ ks)) (comes_twice (j ∷ ks)) twice
    (λ h. let back = leads types k c (j ∷ ks) chain h in loops types k c back.0 at back.1 n c back.0 back.1)
    (λ h. composite_by (goes_on n types) chain.0 (name_goes types n chain.0 j chain.1 (chain.3, chain.4) (goes_always types j chain.1 ks chain.4 chain.5 h)) c chain.2)

pub ends_not : (types : List TypesItem) (k : ℕ) (c : CompositeEl) → slice_get types k ≡ Some (item.Composite c) → MeetsTwice types k c → is_endless types c ≡ true
ends_not types k c at twice = goes_always types k c twice.0 at twice.1 twice.2 (length types)
