-- Parts that are written one after another, each at its place.
use Rattle.std.proofs.Common.{◌≡◌, ℕ, ◌+◌, ◌-◌, ◌≤◌, Bool, true, false, cond, List, [], ◌∷◌, ◌++◌, length, take, drop, Option, Some, refl, sym, ap, ◌∙◌, subst, arith, append_assoc, length-append}
use Rattle.std.specs.Prelude.{replicate}
use Rattle.std.proofs.lemmas.List.{length-replicate}
use Rattle.std.proofs.Math.Seq.{take-append_seam, drop-append_seam}
use Rattle.sbe_types.specs.declared.kind.Order.{Order}
use Rattle.sbe_types.specs.declared.kind.Kind.{Kind, Comp', Row_of-Member, end_of-Member, more_of-Member}
use Rattle.sbe_types.specs.declared.message.Value.{Value, items_hidden-the_row-Value-0}
use Rattle.sbe_types.specs.declared.message.Value.TheVariants as value
use Rattle.sbe_types.specs.Places.{width, is_const, begin_of, row_end}
use Rattle.sbe_types.specs.Shows.{Shows, MembersShow}
use Rattle.sbe_types.specs.Wire.{both, wire_bytes, row_bytes, FitsKind}
use Rattle.sbe_wire.specs.Placed.{BeginsBehind}
use Rattle.sbe_wire.proofs.Combine.{empty_is}
use Rattle.sbe_wire.proofs.Values.{const_width}

pub joined_part : (front zeros wire rest : List ℕ) (p n : ℕ) → length front + length zeros ≡ p → length wire ≡ n → take n (drop p (front ++ ((zeros ++ wire) ++ rest))) ≡ wire
joined_part front zeros wire rest p n at long =
    let moved : front ++ ((zeros ++ wire) ++ rest) ≡ (front ++ zeros) ++ (wire ++ rest) = ap (λ b. front ++ b) (append_assoc zeros wire rest) ∙ sym (append_assoc front zeros (wire ++ rest)) in
    let place : p ≡ length (front ++ zeros) = omega (arith, at, length-append front zeros) in
    ap (λ b. take n (drop p b)) moved
    ∙ ap (λ k. take n (drop k ((front ++ zeros) ++ (wire ++ rest)))) place
    ∙ ap (take n) (drop-append_seam (front ++ zeros) (wire ++ rest))
    ∙ ap (λ k. take k (wire ++ rest)) (sym long)
    ∙ take-append_seam wire rest

-- the zeros before a part
abbrev pub gap : ℕ → Option ℕ → Kind → List ℕ
gap e offset kind = replicate (cond (is_const kind) 0 (begin_of e offset - e)) 0

-- where the part ends
abbrev pub past : ℕ → Option ℕ → Kind → ℕ
past e offset kind = cond (is_const kind) e (begin_of e offset + width kind)

-- a part stands at its place
pub part_there : (e : ℕ) (offset : Option ℕ) (kind : Kind) (t : Bool) → is_const kind ≡ t → BeginsBehind e offset kind → (front wire rest : List ℕ) → length front ≡ e → length wire ≡ width kind →
    take (width kind) (drop (begin_of e offset) (front ++ ((replicate (cond t 0 (begin_of e offset - e)) 0 ++ wire) ++ rest))) ≡ wire
part_there e offset kind true c after front wire rest at long =
    let none : wire ≡ [] = empty_is wire (omega (arith, long, const_width kind c)) in
    ap (λ n. take n (drop (begin_of e offset) (front ++ (wire ++ rest)))) (const_width kind c) ∙ sym none
part_there e offset kind false c after front wire rest at long =
    let begins : e ≤ begin_of e offset = after c in
    joined_part front (replicate (begin_of e offset - e) 0) wire rest (begin_of e offset) (width kind) (omega (arith, at, begins, length-replicate {A = ℕ} (begin_of e offset - e) 0)) long

-- with its zeros it reaches its end
pub part_reaches : (e : ℕ) (offset : Option ℕ) (kind : Kind) (t : Bool) → is_const kind ≡ t → BeginsBehind e offset kind → (wire : List ℕ) → length wire ≡ width kind →
    e + length (replicate (cond t 0 (begin_of e offset - e)) 0 ++ wire) ≡ cond t e (begin_of e offset + width kind)
part_reaches e offset kind true c after wire long = omega (arith, long, const_width kind c)
part_reaches e offset kind false c after wire long =
    let begins : e ≤ begin_of e offset = after c in
    omega (arith, long, begins, length-append (replicate (begin_of e offset - e) 0) wire, length-replicate {A = ℕ} (begin_of e offset - e) 0)

-- the members after members that end at e have bytes up to their end, which show them after any e bytes
abbrev pub RowFits : Order → ℕ → {n : _} → Row_of-Member n → List Value → Type 0
RowFits order e row vs =
    (bytes : List ℕ) × (row_bytes order e row (Some vs) ≡ Some bytes) × (e + length bytes ≡ row_end e row)
    × ((front : List ℕ) → length front ≡ e → MembersShow order true e row vs (front ++ bytes))

pub no_member : (order : Order) (e : ℕ) → RowFits order e end_of-Member []
no_member order e = ([], refl, omega arith, λ front at. tt)

pub one_member : (order : Order) (e : ℕ) (name : List ℕ) (offset : Option ℕ) (kind : Kind) {n : _} (rest : Row_of-Member n) (v : Value) (vs : List Value) →
    BeginsBehind e offset kind → FitsKind order kind v → RowFits order (past e offset kind) rest vs → RowFits order e (more_of-Member name offset kind rest) (v ∷ vs)
one_member order e name offset kind rest v vs after here there =
    let zeros = gap e offset kind in
    let wire = here.0 in
    let next = past e offset kind in
    let first : e + length (zeros ++ wire) ≡ next = part_reaches e offset kind (is_const kind) refl after wire here.2 in
    let is : row_bytes order e (more_of-Member name offset kind rest) (Some (v ∷ vs)) ≡ Some ((zeros ++ wire) ++ there.0) =
    ap (λ o. both (both (Some zeros) o) (row_bytes order next rest (Some vs))) here.1 ∙ ap (λ o. both (Some (zeros ++ wire)) o) there.1 in (
      (zeros ++ wire) ++ there.0,
      is,
      omega (arith, length-append (zeros ++ wire) there.0, first, there.2),
      λ front at. (
        subst (Shows order true kind v) (sym (part_there e offset kind (is_const kind) refl after front wire there.0 at here.2)) here.3,
        subst (MembersShow order true next rest vs) (append_assoc front (zeros ++ wire) there.0) (there.3 (front ++ (zeros ++ wire)) (omega (arith, length-append front (zeros ++ wire), at, first))),
      ),
    )

pub of_members : (order : Order) (n : _) (members : Row_of-Member _) (vs : List Value) → RowFits order 0 members vs → FitsKind order (Comp' n members) (value.Comp vs)
of_members order n members vs h =
    let is : wire_bytes order (Comp' n members) (value.Comp vs) ≡ Some h.0 = ap (λ l. row_bytes order 0 members (Some l)) (items_hidden-the_row-Value-0 vs) ∙ h.1 in
    let long : length h.0 ≡ width (Comp' n members) = omega (arith, h.2) in
    (h.0, is, long, (long, (vs, refl, h.3 [] refl)))
