-- What a cycle of composites is. From SBE 1.0, "Composite types"; that a schema has none is own profile.
use Rattle.std.specs.Prelude.{◌≡◌, ℕ, ◌||◌, nat_eq, Bool, true, false, List, [], ◌∷◌, Some, slice_get, ⊤}
use Rattle.std.specs.List.{list_any}
use Rattle.std.specs.Str.{bytes_eq}
use Rattle.sbe_types.specs.declared.tree.CompositeEl.{CompositeEl}
use Rattle.sbe_types.specs.declared.tree.TypesItem.{TypesItem}
use Rattle.sbe_types.specs.declared.tree.TypesItem.TheVariants as item
use Rattle.schema_rules.specs.Names.{place_of}
use Rattle.schema_rules.specs.Chains.{composite_has}

-- Some ref inside a composite, however deep, has this name.
abbrev pub refers : CompositeEl → List ℕ → Bool
refers c name = composite_has (bytes_eq name) c

-- The indexes of declared composites: a ref inside c names the first, a ref inside that one the second, and so on.
abbrev pub IsChain : List TypesItem → CompositeEl → List ℕ → Type 0
IsChain types c [] = ⊤
IsChain types c (k ∷ ks) =
    (name : List ℕ) × (d : CompositeEl) × (refers c name ≡ true) × (place_of name types ≡ Some k) × (slice_get types k ≡ Some (item.Composite d)) × IsChain types d ks

-- One of the indexes occurs a second time.
abbrev pub comes_twice : List ℕ → Bool
comes_twice [] = false
comes_twice (k ∷ ks) = list_any (nat_eq k) ks || comes_twice ks

-- A chain that begins at the composite c, which has index k, meets a composite a second time.
abbrev pub MeetsTwice : List TypesItem → ℕ → CompositeEl → Type 0
MeetsTwice types k c = (ks : List ℕ) × IsChain types c ks × (comes_twice (k ∷ ks) ≡ true)
