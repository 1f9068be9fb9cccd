-- Steps that lead from a place to one of its parts, and the places of parts.
use Rattle.std.proofs.Common.{◌≡◌, ◌+◌, ℕ, zero, suc, Bool, false, List, [], ◌∷◌, ◌++◌, length, Option, Some, None, refl, ap, ◌∙◌, arith}
use Rattle.std.specs.Prelude.{slice_get, map, is_some, true}
use Rattle.std.specs.Option.{option_map, option_and_then, IsSome}
use Rattle.sbe_types.specs.declared.kind.Leaf.{Leaf as LeafOf}
use Rattle.sbe_types.specs.declared.kind.Kind.{Leaf}
use Rattle.sbe_types.specs.declared.path.Step.{Step}
use Rattle.sbe_types.specs.declared.path.Step.TheVariants.{Part, Entry, Elem}
use Rattle.sbe_types.specs.declared.schema.Level.{Level, out-Level}
use Rattle.layout_tables.specs.Paths.{Inside, in_level, in_group, in_kind, in_nothing, NamedPart, field_part, group_part, data_part, level_parts, parts_inside, to_part, path_from}
use Rattle.layout_tables.proofs.Items.{long_map, get_behind}

-- ---- steps

-- the steps lead from the place to one of its parts
abbrev pub Leads : Inside → List Step → Type 0
Leads inside steps = (first : Bool) → IsSome (path_from first inside steps)

-- steps that lead on from below lead on from the place by this step
abbrev pub LeadsBy : Inside → Step → Inside → Type 0
LeadsBy inside step below = (steps : List Step) → Leads below steps → Leads inside (step ∷ steps)

pub here : (inside : Inside) (steps : List Step) → steps ≡ [] → Leads inside steps
here inside steps none first = ap (λ s. is_some (path_from first inside s)) none

mapped : {X Y : Type 0} (f : X → Y) (o : Option X) → IsSome o → is_some (option_map f o) ≡ true
mapped f None h = cc
mapped f (Some x) h = refl

pub part_leads : (inside : Inside) (i : ℕ) (p : NamedPart) → slice_get (parts_inside inside) i ≡ Some p → LeadsBy inside (Part i) p.inside
part_leads inside i p at steps leads first =
    ap (λ o. is_some (option_and_then (λ s. option_map (λ rest. s.text ++ rest) (path_from false s.inside steps)) (option_map (to_part first) o))) at
    ∙ mapped _ (path_from false p.inside steps) (leads false)

pub entry_leads : (level : Level) (i : ℕ) → LeadsBy (in_group level) (Entry i) (in_level level)
entry_leads level i steps leads first = mapped _ (path_from false (in_level level) steps) (leads false)

pub element_leads : (l : LeafOf) (i : ℕ) → LeadsBy (in_kind (Leaf l)) (Elem i) in_nothing
element_leads l i steps leads first = mapped _ (path_from false in_nothing steps) (leads false)

-- ---- the places of parts

-- these parts stand after i others
abbrev pub Behind : List NamedPart → ℕ → List NamedPart → Type 0
Behind all i parts = (j k : ℕ) (p : NamedPart) → j ≡ i + k → slice_get parts k ≡ Some p → slice_get all j ≡ Some p

pub first_is : (all : List NamedPart) (i : ℕ) (x : NamedPart) (xs : List NamedPart) → Behind all i (x ∷ xs) → slice_get all i ≡ Some x
first_is all i x xs h = h i 0 x (omega arith) refl

pub next_are : (all : List NamedPart) (i : ℕ) (x : NamedPart) (xs : List NamedPart) → Behind all i (x ∷ xs) → Behind all (suc i) xs
next_are all i x xs h = λ j k p e at. h j (suc k) p (omega (arith, e)) at

in_front : (a b : List NamedPart) (k : ℕ) (p : NamedPart) → slice_get a k ≡ Some p → slice_get (a ++ b) k ≡ Some p
in_front [] b k p h = cc
in_front (x ∷ a) b zero p h = h
in_front (x ∷ a) b (suc k) p h = in_front a b k p h

pub all_are : (a : List NamedPart) → Behind a 0 a
all_are a = λ j k p e at. ap (slice_get a) (omega (arith, e)) ∙ at

pub fields_stand : (level : Level) → Behind (level_parts level) 0 (map field_part (out-Level level).fields)
fields_stand level = λ j k p e at. ap (slice_get (level_parts level)) (omega (arith, e)) ∙ in_front (map field_part (out-Level level).fields) _ k p at

pub groups_stand : (level : Level) → Behind (level_parts level) (length (out-Level level).fields) (map group_part (out-Level level).groups)
groups_stand level = λ j k p e at.
    get_behind (map field_part (out-Level level).fields) _ j k (omega (arith, e, long_map field_part (out-Level level).fields)) ∙ in_front (map group_part (out-Level level).groups) _ k p at

pub data_stand : (level : Level) → Behind (level_parts level) (length (out-Level level).fields + length (out-Level level).groups) (map data_part (out-Level level).parts)
data_stand level = λ j k p e at.
    let a = map field_part (out-Level level).fields in
    let b = map group_part (out-Level level).groups in
    let c = map data_part (out-Level level).parts in
    get_behind a (b ++ c) j (length b + k) (omega (arith, e, long_map field_part (out-Level level).fields, long_map group_part (out-Level level).groups))
    ∙ get_behind b c (length b + k) k refl ∙ at
