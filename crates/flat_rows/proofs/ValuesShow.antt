-- Where the bytes of each value show one, the bytes are a block.
use Rattle.std.proofs.Common.{◌≡◌, ◌≤◌, ◌+◌, ℕ, Bool, false, cond, List, [], ◌∷◌, ◌++◌, length, take, drop, refl, sym, subst, arith}
use Rattle.std.specs.Bool.{MatchBool}
use Rattle.sbe_types.specs.declared.kind.Kind.{Kind, Leaf, Enum, Set, Const, Comp', Row_of-Member, end_of-Member, more_of-Member}
use Rattle.sbe_types.specs.declared.kind.Order.{Order}
use Rattle.sbe_types.specs.declared.message.Value.{Value}
use Rattle.sbe_types.specs.declared.message.Value.TheVariants as value
use Rattle.sbe_types.specs.declared.schema.Field.{Field}
use Rattle.sbe_types.specs.Places.{width, row_end, is_const, begin_of, end_past, fields_end}
use Rattle.sbe_types.specs.Shows.{Shows, MembersShow}
use Rattle.sbe_wire.specs.declared.mode.Mode.{Mode}
use Rattle.sbe_wire.specs.Lays.{FieldLays, FieldsLay, BlockLays}
use Rattle.sbe_wire.specs.Placed.{IsPlacedKind, IsPlacedRow, ArePlaced}
use Rattle.sbe_wire.specs.Versions.{floor}
use Rattle.sbe_wire.proofs.Values.{row_grows, slice_long}
use Rattle.flat_rows.specs.Scalars.{Scalar, kind_scalars, member_scalars, field_scalars, scalars_of}
use Rattle.flat_rows.specs.BlockChecks.{AllAlive, bytes_there, ShowsSome, ScalarsShow}
use Rattle.flat_rows.proofs.Inside.{kind_inside, fields_grow, floor_is}

module _ (order : Order) (known : Bool) (b : List ℕ) where
  both_show : (ss ts : List Scalar) → ScalarsShow order known (ss ++ ts) b → ScalarsShow order known ss b × ScalarsShow order known ts b
  both_show [] ts h = (tt, h)
  both_show (s ∷ ss) ts h = let rest = both_show ss ts h.1 in ((h.0, rest.0), rest.1)

  mutual
    kind_shows : (kind : Kind) (at : ℕ) → IsPlacedKind kind → (is_const kind ≡ false → at + width kind ≤ length b) → ScalarsShow order known (kind_scalars kind at) b →
        ShowsSome order known kind (bytes_there kind at b)
    kind_shows (Leaf l) at placed fits h = h.0
    kind_shows (Enum l names) at placed fits h = h.0
    kind_shows (Set p names) at placed fits h = h.0
    kind_shows (Const c) at placed fits h = (value.Const, (refl, refl))
    kind_shows (Comp' n members) at placed fits h =
        let w = width (Comp' n members) in
        let all = members_show members at 0 w placed (omega arith) (fits refl) h in
        (value.Comp all.0, (slice_long at w b (fits refl), (all.0, refl, all.1)))

    -- the members of a composite of w bytes
    members_show : {n : _} (row : Row_of-Member n) (at e w : ℕ) → IsPlacedRow e row → row_end e row ≤ w → at + w ≤ length b → ScalarsShow order known (member_scalars at e row) b →
        (vs : List Value) × MembersShow order known e row vs (take w (drop at b))
    members_show end_of-Member at e w placed ends fits h = ([], tt)
    members_show (more_of-Member name offset kind rest) at e w placed ends fits h =
        let p = begin_of e offset in
        let next = cond (is_const kind) e (p + width kind) in
        let grows : next ≤ row_end next rest = row_grows rest next placed.2 in
        let within : is_const kind ≡ false → p + width kind ≤ w = λ c. subst (λ (t : Bool). cond t e (p + width kind) ≤ w) c (omega (arith, grows, ends)) in
        let there : is_const kind ≡ false → at + p + width kind ≤ length b = λ c. omega (arith, within c, fits) in
        let two = both_show (kind_scalars kind (at + p)) (member_scalars at next rest) h in
        let one = kind_shows kind (at + p) placed.1 there two.0 in
        let more = members_show rest at next w placed.2 ends fits two.1 in
        (one.0 ∷ more.0, (subst (Shows order known kind one.0) (sym (kind_inside at p w kind b within)) one.1, more.1))

module _ (mode : Mode) (b : List ℕ) where
  fields_show : (e : ℕ) (fs : List Field) → ArePlaced e fs → AllAlive mode.version fs → fields_end e fs ≤ length b → ScalarsShow mode.order mode.known (field_scalars e fs) b →
      (vs : List Value) × FieldsLay mode e fs vs b
  fields_show e [] placed alive ends h = ([], tt)
  fields_show e (f ∷ fs) placed alive ends h =
      let p = begin_of e f.offset in
      let next = end_past e f.offset f.kind in
      let grows : next ≤ fields_end next fs = fields_grow next fs placed.2 in
      let within : is_const f.kind ≡ false → p + width f.kind ≤ length b = λ c. subst (λ (t : Bool). cond t e (p + width f.kind) ≤ length b) c (omega (arith, grows, ends)) in
      let two = both_show mode.order mode.known b (kind_scalars f.kind p) (field_scalars next fs) h in
      let one = kind_shows mode.order mode.known b f.kind p placed.1 within two.0 in
      let more = fields_show next fs placed.2 alive.1 ends two.1 in
      let here : FieldLays mode e f one.0 b =
      subst (λ t. MatchBool t (Shows mode.order mode.known f.kind one.0 (take (width f.kind) (drop p b))) (one.0 ≡ value.Absent)) (sym alive.0) one.1 in
      (one.0 ∷ more.0, (here, more.1))

pub block_shown : (mode : Mode) (fs : List Field) (b : List ℕ) → ArePlaced 0 fs → AllAlive mode.version fs → floor mode.version fs ≤ length b →
    ScalarsShow mode.order mode.known (scalars_of fs) b → (vs : List Value) × BlockLays mode fs vs b
block_shown mode fs b placed alive reaches h =
    let all = fields_show mode b 0 fs placed alive (omega (arith, reaches, floor_is mode.version 0 0 fs alive refl)) h in
    (all.0, (reaches, all.1))
