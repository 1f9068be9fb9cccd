-- Whether a group's entries begin with a field, and its dimension has their number.
use Rattle.std.proofs.Common.{◌≡◌, ℕ, zero, suc, ◌≤◌, ◌<◌, true, false, cond, List, [], ◌∷◌, length, drop, get_or, is_some, is_none, refl, sym, ap, ◌∙◌, subst, arith}
use Rattle.std.specs.Str.{bytes_eq}
use Rattle.sbe_types.specs.declared.kind.Kind.{Kind, Leaf, Enum, Set, Const, Comp'}
use Rattle.sbe_types.specs.declared.kind.Member.{Member}
use Rattle.sbe_types.specs.Places.{begin_of, end_past}
use Rattle.sbe_wire.specs.Named.{spot_of, spot_named}
use Rattle.reference_graph.specs.Expansion.{Structure, ended, plain, counted}
use Rattle.structure_rows.specs.declared.row.PlaceRow.{PlaceRow}
use Rattle.structure_rows.specs.Rows.{rows_of}
use Rattle.bridge_plan.specs.Mappings.{delimiter_of}
use Rattle.plan_rows.specs.Found.{is_leaf}

-- ---- the first place

begins_of : (d : PlaceRow) (s : Structure) → 1 ≤ length (rows_of s) → is_none (get_or (rows_of s) 0 d).entries ≡ is_some (delimiter_of s)
begins_of d ended h = absurd (omega (arith, h))
begins_of d (plain tag more) h = refl
begins_of d (counted tag inner more) h = refl

pub begins : (d : PlaceRow) (s : Structure) (rows : List PlaceRow) → rows ≡ rows_of s → 1 ≤ length rows → is_none (get_or rows 0 d).entries ≡ is_some (delimiter_of s)
begins d s rows h = subst (λ (rs : List PlaceRow). 1 ≤ length rs → is_none (get_or rs 0 d).entries ≡ is_some (delimiter_of s)) (sym h) (begins_of d s)

no_first : (s : Structure) → length (rows_of s) < 1 → false ≡ is_some (delimiter_of s)
no_first ended h = refl
no_first (plain tag more) h = absurd (omega (arith, h))
no_first (counted tag inner more) h = absurd (omega (arith, h))

pub without_first : (s : Structure) (rows : List PlaceRow) → rows ≡ rows_of s → length rows < 1 → false ≡ is_some (delimiter_of s)
without_first s rows h = subst (λ (rs : List PlaceRow). length rs < 1 → false ≡ is_some (delimiter_of s)) (sym h) (no_first s)

-- ---- the number of entries

leaf_there : (e : ℕ) (k : Kind) → is_some (spot_of e k) ≡ is_leaf k
leaf_there e (Leaf l) = refl
leaf_there e (Enum l names) = refl
leaf_there e (Set p names) = refl
leaf_there e (Const c) = refl
leaf_there e (Comp' n members) = refl

pub spot_here : (e : ℕ) (name : List ℕ) (m : Member) (ms : List Member) → bytes_eq m.name name ≡ true → is_some (spot_named e name (m ∷ ms)) ≡ is_leaf m.kind
spot_here e name m ms h =
    ap (λ t. is_some (cond t (spot_of (begin_of e m.offset) m.kind) (spot_named (end_past e m.offset m.kind) name ms))) h ∙ leaf_there (begin_of e m.offset) m.kind

pub spot_later : (e : ℕ) (name : List ℕ) (m : Member) (ms : List Member) → bytes_eq m.name name ≡ false → spot_named e name (m ∷ ms) ≡ spot_named (end_past e m.offset m.kind) name ms
spot_later e name m ms h = ap (λ t. cond t (spot_of (begin_of e m.offset) m.kind) (spot_named (end_past e m.offset m.kind) name ms)) h

-- after the last member nothing is left
pub none_left : {X : Type 0} (i : ℕ) (xs : List X) → length xs ≤ i → drop i xs ≡ []
none_left zero [] h = refl
none_left zero (x ∷ xs) h = absurd (omega (arith, h))
none_left (suc i) [] h = refl
none_left (suc i) (x ∷ xs) h = none_left i xs (omega (arith, h))
