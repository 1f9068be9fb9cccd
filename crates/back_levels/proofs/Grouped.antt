-- What a group's row is made of: the tag that begins its entries, the type of its count, and the tags of its places.
use Rattle.std.proofs.Common.{◌≡◌, ◌≤◌, ◌<◌, ℕ, true, false, cond, List, [], ◌∷◌, ◌++◌, map, length, get_or, Option, Some, None, refl, sym, ap, ◌∙◌, subst, arith}
use Rattle.std.specs.Option.{option_map}
use Rattle.std.specs.Prelude.{codes}
use Rattle.std.specs.Str.{bytes_eq}
use Rattle.sbe_types.specs.declared.kind.Kind.{Kind, Leaf, Enum, Set, Const, Comp'}
use Rattle.sbe_types.specs.declared.kind.Leaf.{Leaf as LeafOf}
use Rattle.sbe_types.specs.declared.kind.Member.{Member}
use Rattle.sbe_types.specs.declared.schema.Group.{Group, out-Group}
use Rattle.sbe_types.specs.Places.{begin_of, end_past}
use Rattle.sbe_wire.specs.Named.{Spot, spot_of, spot_named}
use Rattle.reference_graph.specs.Expansion.{Structure, ended, plain, counted, structure_tags}
use Rattle.structure_rows.specs.declared.row.PlaceRow.{PlaceRow}
use Rattle.structure_rows.specs.Rows.{rows_of}
use Rattle.bridge_rules.specs.Members.{and_then}
use Rattle.bridge_plan.specs.Mappings.{delimiter_of}
use Rattle.bridge_plan.specs.Covers.{count_leaf}
use Rattle.back_levels.specs.Found.{leaf_in, plain_tag}

-- ---- the first place

first_of : (d : PlaceRow) (s : Structure) → 1 ≤ length (rows_of s) → plain_tag (get_or (rows_of s) 0 d) ≡ delimiter_of s
first_of d ended h = absurd (omega (arith, h))
first_of d (plain tag more) h = refl
first_of d (counted tag inner more) h = refl

-- the tag of the first of the rows, if it is a field's
pub begins : (d : PlaceRow) (s : Structure) (rows : List PlaceRow) → rows ≡ rows_of s → 1 ≤ length rows → plain_tag (get_or rows 0 d) ≡ delimiter_of s
begins d s rows h = subst (λ (rs : List PlaceRow). 1 ≤ length rs → plain_tag (get_or rs 0 d) ≡ delimiter_of s) (sym h) (first_of d s)

no_first : (s : Structure) → length (rows_of s) < 1 → None ≡ delimiter_of s
no_first ended h = refl
no_first (plain tag more) h = absurd (omega (arith, h))
no_first (counted tag inner more) h = absurd (omega (arith, h))

-- without rows there is none
pub without_first : (s : Structure) (rows : List PlaceRow) → rows ≡ rows_of s → length rows < 1 → None ≡ delimiter_of s
without_first s rows h = subst (λ (rs : List PlaceRow). length rs < 1 → None ≡ delimiter_of s) (sym h) (no_first s)

-- ---- the count

abbrev pub leaf_of_spot : Option Spot → Option LeafOf
leaf_of_spot o = option_map (λ (s : Spot). s.leaf) o

leaf_there : (e : ℕ) (k : Kind) → leaf_of_spot (spot_of e k) ≡ leaf_in k
leaf_there e (Leaf l) = refl
leaf_there e (Enum l names) = refl
leaf_there e (Set p names) = refl
leaf_there e (Const c) = refl
leaf_there e (Comp' n members) = refl

-- the first member of the name has the type of its kind
pub leaf_here : (e : ℕ) (name : List ℕ) (m : Member) (ms : List Member) → bytes_eq m.name name ≡ true → leaf_of_spot (spot_named e name (m ∷ ms)) ≡ leaf_in m.kind
leaf_here e name m ms h =
    ap (λ t. leaf_of_spot (cond t (spot_of (begin_of e m.offset) m.kind) (spot_named (end_past e m.offset m.kind) name ms))) h ∙ leaf_there (begin_of e m.offset) m.kind

-- the type of a group's count
pub count_told : (g : Group) → count_leaf g ≡ leaf_of_spot (spot_named 0 (codes "numInGroup") (out-Group g).dim)
count_told g = by_spot (spot_named 0 (codes "numInGroup") (out-Group g).dim)
  where
    by_spot : (o : Option Spot) → and_then o (λ spot. Some spot.leaf) ≡ leaf_of_spot o
    by_spot None = refl
    by_spot (Some s) = refl

-- ---- the tags

tags_join : (xs ys : List PlaceRow) → map (λ (p : PlaceRow). p.tag) (xs ++ ys) ≡ map (λ (p : PlaceRow). p.tag) xs ++ map (λ (p : PlaceRow). p.tag) ys
tags_join [] ys = refl
tags_join (x ∷ xs) ys = ap (λ ts. x.tag ∷ ts) (tags_join xs ys)

-- the tags of the rows of a structure are the structure's
pub tags_of_rows : (s : Structure) → map (λ (p : PlaceRow). p.tag) (rows_of s) ≡ structure_tags s
tags_of_rows ended = refl
tags_of_rows (plain tag rest) = ap (λ ts. tag ∷ ts) (tags_of_rows rest)
tags_of_rows (counted tag inner rest) =
    ap (λ ts. tag ∷ ts)
    (tags_join (rows_of inner) (rows_of rest) ∙ ap (λ ts. ts ++ map (λ (p : PlaceRow). p.tag) (rows_of rest)) (tags_of_rows inner)
    ∙ ap (λ ts. structure_tags inner ++ ts) (tags_of_rows rest))
