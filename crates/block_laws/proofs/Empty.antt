-- The pieces of an empty block.
use Rattle.std.proofs.Common.{◌≡◌, ℕ, zero, suc, ◌-◌, ◌*◌, Bool, true, false, cond, List, [], ◌∷◌, ◌++◌, length, replicate, Option, Some, None, refl, sym, ap, ap₂, ◌∙◌, arith, append_assoc, length-append}
use Rattle.std.specs.Prelude.{option_map, ◌&&◌}
use Rattle.std.proofs.lemmas.List.{length-replicate}
use Rattle.sbe_types.specs.declared.kind.Order.{Order}
use Rattle.sbe_types.specs.declared.kind.Leaf.{Leaf as LeafOf}
use Rattle.sbe_types.specs.declared.kind.Kind.{Kind, Leaf, Enum, Set, Const, Comp'}
use Rattle.sbe_types.specs.declared.schema.Field.{Field}
use Rattle.sbe_types.specs.declared.message.Elem.TheVariants as elem
use Rattle.sbe_types.specs.Numbers.{prim_width, bytes_of}
use Rattle.sbe_types.specs.Places.{end_past, fields_end, width}
use Rattle.sbe_types.specs.Shown.{is_optional}
use Rattle.sbe_types.specs.Wire.{both, padded, elements_bytes}
use Rattle.sbe_types.proofs.Inverse.{bytes_of-width}
use Rattle.kind_bytes.specs.Members.{followed_by}
use Rattle.typed_writer.specs.Empty.{empty_block, empty_bytes, empty_field, empty_fields, has_null_elements}
use Rattle.block_laws.specs.Pieces.{gap, laid, AreWide, Ascend}
use Rattle.block_laws.specs.Blocks.{Task, HoldsFirst}
use Rattle.block_laws.proofs.Pieces.{laid_long}

none_some : {A : Type 0} {x : A} → ◌≡◌ {A = Option A} None (Some x) → ⊥
none_some h = cc

some_is : {A : Type 0} {x y : A} → ◌≡◌ {A = Option A} (Some x) (Some y) → x ≡ y
some_is h = cc

both_are : (a b : Option (List ℕ)) (all : List ℕ) → both a b ≡ Some all → (x : List ℕ) × (y : List ℕ) × (a ≡ Some x) × (b ≡ Some y) × (all ≡ x ++ y)
both_are None b all h = absurd (none_some h)
both_are (Some x) None all h = absurd (none_some h)
both_are (Some x) (Some y) all h = (x, y, refl, refl, sym (some_is h))

-- ---- one field

nulls_long : (order : Order) (l : LeafOf) (n : ℕ) (p : List ℕ) → elements_bytes order l (replicate n elem.Null) ≡ Some p → length p ≡ prim_width l.prim * n
nulls_long order l zero p h = ap length (sym (some_is h)) ∙ omega arith
nulls_long order l (suc n) p h =
    let two = both_are (bytes_of order l.prim l.null) (elements_bytes order l (replicate n elem.Null)) p h in
    let one = (bytes_of-width order l.prim l.null two.0 two.2).0 in
    let rest = nulls_long order l n two.1 two.3 in
    let long = ap length two.4 ∙ length-append two.0 two.1 in
    omega (arith, long, one, rest)

leaf_long : (order : Order) (l : LeafOf) (b : Bool) (p : List ℕ) → cond b (elements_bytes order l (replicate l.length elem.Null)) (Some (replicate (width (Leaf l)) 0)) ≡ Some p → length p ≡ width (Leaf l)
leaf_long order l true p h = nulls_long order l l.length p h
leaf_long order l false p h = ap length (sym (some_is h)) ∙ length-replicate (width (Leaf l)) 0

enum_long : (order : Order) (l : LeafOf) (b : Bool) (p : List ℕ) → cond b (bytes_of order l.prim l.null) (Some (replicate (prim_width l.prim) 0)) ≡ Some p → length p ≡ prim_width l.prim
enum_long order l true p h = (bytes_of-width order l.prim l.null p h).0
enum_long order l false p h = ap length (sym (some_is h)) ∙ length-replicate (prim_width l.prim) 0

-- the bytes of a field that isn't set are as wide as its kind
empty_wide : (order : Order) (kind : Kind) (p : List ℕ) → empty_bytes order kind ≡ Some p → length p ≡ width kind
empty_wide order (Leaf l) p h = leaf_long order l (is_optional l.presence && has_null_elements l.shape) p h
empty_wide order (Enum l names) p h = enum_long order l (is_optional l.presence) p h
empty_wide order (Set prim names) p h = ap length (sym (some_is h)) ∙ length-replicate (prim_width prim) 0
empty_wide order (Const c) p h = ap length (sym (some_is h))
empty_wide order (Comp' n members) p h = ap length (sym (some_is h)) ∙ length-replicate (width (Comp' n members)) 0

-- ---- all of them

apart : (order : Order) (e : ℕ) (fs : List Field) (x : List ℕ) → empty_fields order e fs ≡ Some x → (ps : List (List ℕ)) × AreWide fs ps × (x ≡ laid e fs ps)
apart order e [] x h = ([], tt, sym (some_is h))
apart order e (f ∷ fs) x h =
    let next = end_past e f.offset f.kind in
    let zeros : List ℕ = replicate (gap e f) 0 in
    let two = both_are (empty_field order e f) (empty_fields order next fs) x h in
    let one = both_are (Some zeros) (empty_bytes order f.kind) two.0 two.2 in
    let rest = apart order next fs two.1 two.3 in
    let p = one.1 in
    let here : two.0 ≡ zeros ++ p = one.4 ∙ ap (λ q. q ++ p) (sym (some_is one.2)) in
    (p ∷ rest.0, (empty_wide order f.kind p one.3, rest.1), two.4 ∙ ap₂ (λ a b. a ++ b) here rest.2 ∙ append_assoc zeros p (laid next fs rest.0))

begun_by : (task : Task) (front bytes : List ℕ) (o : Option (List ℕ)) → empty_fields task.order 0 task.fields ≡ o → Ascend 0 task.fields → followed_by front (option_map (padded task.long) o) ≡ Some bytes →
    HoldsFirst task 0 front bytes
begun_by task front bytes None is up h = absurd (none_some h)
begun_by task front bytes (Some x) is up h =
    let parts = apart task.order 0 task.fields x is in
    let ends = laid_long 0 task.fields parts.0 up parts.1 in
    let long : length x ≡ fields_end 0 task.fields = omega (arith, ap length parts.2, ends) in
    record {
      pieces = parts.0;
      wide = parts.1;
      whole = sym (some_is h) ∙ ap (λ n. front ++ (x ++ replicate (task.long - n) 0)) long ∙ ap (λ z. front ++ (z ++ replicate (task.long - fields_end 0 task.fields) 0)) parts.2;
      set = refl;
    }

-- an empty block holds none of its values yet
pub begun : (task : Task) (front bytes : List ℕ) → Ascend 0 task.fields → followed_by front (empty_block task.order task.long task.fields) ≡ Some bytes → HoldsFirst task 0 front bytes
begun task front bytes up h = begun_by task front bytes (empty_fields task.order 0 task.fields) refl up h
