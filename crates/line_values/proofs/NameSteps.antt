-- The next name in a list of names.
use Rattle.std.proofs.Common.{◌≡◌, ℕ, zero, suc, ◌+◌, ◌<◌, Bool, true, false, cond, List, [], ◌∷◌, length, drop, get_or, refl, sym, ap, ◌∙◌, arith, drop-cons, add-one}
use Rattle.std.specs.Prelude.{if◌then◌else◌}
use Rattle.std.proofs.lemmas.Slice.Eq.{bytes_eq-Decides}
use Rattle.std.specs.Str.{bytes_eq}
use Rattle.sbe_types.specs.declared.kind.Member.{Member}
use Rattle.sbe_types.specs.declared.schema.Field.{Field}
use Rattle.sbe_types.specs.declared.schema.DataField.{DataField}
use Rattle.sbe_types.specs.declared.schema.Group.{Group}
use Rattle.line_values.specs.Objects.{is_named}
use Rattle.line_values.specs.Keys.{field_names, data_names, group_name}
use Rattle.line_values.specs.Code.{member_list_names, group_list_names}

-- item i of a list, and those after it
pub there : {A : Type 0} (xs : List A) (i : ℕ) (x : A) → i < length xs → x ≡ get_or xs i x → drop i xs ≡ x ∷ drop (i + 1) xs
there xs i x h is = rw add-one (drop-cons xs i x h ∙ ap (λ y. y ∷ drop (suc i) xs) (sym is))

pub field_next : (key : List ℕ) (fs : List Field) (i : ℕ) (f : Field) → i < length fs → f ≡ get_or fs i f
    → is_named key (field_names (drop i fs)) ≡ cond (bytes_eq key f.name) true (is_named key (field_names (drop (i + 1) fs)))
field_next key fs i f h is = ap (λ xs. is_named key (field_names xs)) (there fs i f h is)

pub part_next : (key : List ℕ) (ps : List DataField) (i : ℕ) (p : DataField) → i < length ps → p ≡ get_or ps i p
    → is_named key (data_names (drop i ps)) ≡ cond (bytes_eq key p.name) true (is_named key (data_names (drop (i + 1) ps)))
part_next key ps i p h is = ap (λ xs. is_named key (data_names xs)) (there ps i p h is)

pub member_next : (key : List ℕ) (ms : List Member) (i : ℕ) (m : Member) → i < length ms → m ≡ get_or ms i m
    → is_named key (member_list_names (drop i ms)) ≡ cond (bytes_eq key m.name) true (is_named key (member_list_names (drop (i + 1) ms)))
member_next key ms i m h is = ap (λ xs. is_named key (member_list_names xs)) (there ms i m h is)

pub group_next : (key : List ℕ) (gs : List Group) (i : ℕ) (g : Group) → i < length gs → g ≡ get_or gs i g
    → is_named key (group_list_names (drop i gs)) ≡ cond (bytes_eq key (group_name g)) true (is_named key (group_list_names (drop (i + 1) gs)))
group_next key gs i g h is = ap (λ xs. is_named key (group_list_names xs)) (there gs i g h is)

-- ---- a name in its place

here : (key name : List ℕ) (rest : Bool) → key ≡ name → (if bytes_eq key name then true else rest) ≡ true
here key name rest same = ap (λ (b : Bool). if b then true else rest) ((bytes_eq-Decides key name).1 same)

later : (b rest : Bool) → rest ≡ true → (if b then true else rest) ≡ true
later true rest h = refl
later false rest h = h

pub field_there : (key : List ℕ) (fs : List Field) (i : ℕ) (f : Field) → i < length fs → key ≡ (get_or fs i f).name → is_named key (field_names fs) ≡ true
field_there key [] i f h same = absurd (omega arith)
field_there key (g ∷ fs) zero f h same = here key g.name _ same
field_there key (g ∷ fs) (suc i) f h same = later (bytes_eq key g.name) _ (field_there key fs i f (omega arith) same)

pub member_there : (key : List ℕ) (ms : List Member) (i : ℕ) (m : Member) → i < length ms → key ≡ (get_or ms i m).name → is_named key (member_list_names ms) ≡ true
member_there key [] i m h same = absurd (omega arith)
member_there key (n ∷ ms) zero m h same = here key n.name _ same
member_there key (n ∷ ms) (suc i) m h same = later (bytes_eq key n.name) _ (member_there key ms i m (omega arith) same)
