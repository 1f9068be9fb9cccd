-- Blocks of levels that stand to each other.
use Rattle.std.proofs.Common.{◌≡◌, ℕ, ◌+◌, ◌≤◌, Bool, true, false, cond, List, [], ◌∷◌, take, drop, refl, sym, ap, ◌∙◌, subst, arith}
use Rattle.std.specs.Prelude.{not, ◌&&◌}
use Rattle.std.specs.Bool.{MatchBool}
use Rattle.sbe_types.specs.declared.kind.Order.{Order}
use Rattle.sbe_types.specs.declared.kind.Kind.{Kind}
use Rattle.sbe_types.specs.declared.schema.Field.{Field}
use Rattle.sbe_types.specs.declared.message.Value.{Value}
use Rattle.sbe_types.specs.declared.message.Value.TheVariants as value
use Rattle.sbe_types.specs.Places.{width, is_const, begin_of, end_past}
use Rattle.sbe_types.specs.Shows.{Shows}
use Rattle.sbe_wire.specs.declared.mode.Mode.{Mode}
use Rattle.sbe_wire.specs.Versions.{is_alive, floor, floor_from}
use Rattle.sbe_wire.specs.Lays.{FieldLays, FieldsLay, BlockLays}
use Rattle.sbe_wire.specs.Placed.{BeginsBehind, ArePlaced}
use Rattle.version_laws.specs.Differ.{is_old}
use Rattle.version_laws.specs.Projected.{projected_list, lifted_list, old_field}
use Rattle.version_laws.proofs.Stands.{Lists, FieldStands, FieldsStand}
use Rattle.version_laws.proofs.KindMoves.{Keeps, flipped, value_moves, kind_flips, same_const, same_width, const_width}

-- ---- choices by a Bool

pub taken : (X Y : Type 0) (t : Bool) → t ≡ true → MatchBool t X Y → X
taken X Y t e h = subst (λ t. MatchBool t X Y) e h

pub passed : (X Y : Type 0) (t : Bool) → t ≡ false → MatchBool t X Y → Y
passed X Y t e h = subst (λ t. MatchBool t X Y) e h

pub take_it : (X Y : Type 0) (t : Bool) → t ≡ true → X → MatchBool t X Y
take_it X Y t e x = subst (λ t. MatchBool t X Y) (sym e) x

pub pass_it : (X Y : Type 0) (t : Bool) → t ≡ false → Y → MatchBool t X Y
pass_it X Y t e y = subst (λ t. MatchBool t X Y) (sym e) y

pub chosen_alike : (X Y Z : Type 0) (t u : Bool) → t ≡ u → (X → Z) → MatchBool t X Y → MatchBool u Z Y
chosen_alike X Y Z t u e f h = subst (λ u. MatchBool u Z Y) e (by_case t h)
  where
    by_case : (t : Bool) → MatchBool t X Y → MatchBool t Z Y
    by_case true h = f h
    by_case false h = h

pub by_bool : (Z : Type 0) (t : Bool) → (t ≡ true → Z) → (t ≡ false → Z) → Z
by_bool Z true f g = f refl
by_bool Z false f g = g refl

-- ---- one field

pub field_flips : (R : Lists) (e : ℕ) (f : Field) (d : ℕ) (g : Field) → FieldStands R e f d g → FieldStands (flipped R) d g e f
field_flips R e f d g h = record {
  name = sym h.name;
  since = sym h.since;
  place = λ c. sym (h.place (same_const R f.kind g.kind h.kind ∙ c));
  kind = kind_flips R f.kind g.kind h.kind;
}

-- how values are read in this order, by a schema that knows all parts or doesn't, and at this version
abbrev pub moded : Order → Bool → ℕ → Mode
moded order known version = record { order = order; known = known; version = version }

module _ (order : Order) (R : Lists) (known known' : Bool) (keeps : Keeps R known known') where
  slice_is : (e : ℕ) (f : Field) (d : ℕ) (g : Field) → FieldStands R e f d g → (b : List ℕ) (c : Bool) → is_const f.kind ≡ c →
      take (width f.kind) (drop (begin_of e f.offset) b) ≡ take (width g.kind) (drop (begin_of d g.offset) b)
  slice_is e f d g h b true c =
      ap (λ w. take w (drop (begin_of e f.offset) b)) (const_width R f.kind c)
      ∙ sym (ap (λ w. take w (drop (begin_of d g.offset) b)) (const_width R g.kind (sym (same_const R f.kind g.kind h.kind) ∙ c)))
  slice_is e f d g h b false c =
      ap (λ w. take w (drop (begin_of e f.offset) b)) (same_width R f.kind g.kind h.kind)
      ∙ ap (λ p. take (width g.kind) (drop p b)) (h.place c)

  pub field_moves : (version version' e : ℕ) (f : Field) (d : ℕ) (g : Field) → FieldStands R e f d g → is_alive version f.since ≡ is_alive version' g.since →
      (v : Value) (b : List ℕ) → FieldLays (moded order known version) e f v b → FieldLays (moded order known' version') d g v b
  field_moves version version' e f d g h alive v b lays =
      chosen_alike _ _ _ (is_alive version f.since) (is_alive version' g.since) alive
      (λ s. subst (Shows order known' g.kind v) (slice_is e f d g h b (is_const f.kind) refl) (value_moves order R known known' keeps f.kind g.kind h.kind v _ s))
      lays

-- ---- the versions by which the two read; `least` is old's own

-- a part that old has is alive in both or in none
abbrev pub AlikeTo : ℕ → ℕ → ℕ → Type 0
AlikeTo least version version' = (since : ℕ) → is_old least since ≡ true → is_alive version since ≡ is_alive version' since

-- a part that old lacks isn't alive
abbrev pub DeadBeyond : ℕ → ℕ → Type 0
DeadBeyond least version' = (since : ℕ) → is_old least since ≡ false → is_alive version' since ≡ false

-- ---- floors

reach_alike : (r r' x y : ℕ) (t u c d : Bool) → t ≡ u → c ≡ d → (c ≡ false → x ≡ y) → r ≡ r' → cond (t && not c) x r ≡ cond (u && not d) y r'
reach_alike r r' x y true u true d e k h s = rw (sym e, sym k) s
reach_alike r r' x y true u false d e k h s = rw (sym e, sym k) (h refl)
reach_alike r r' x y false u c d e k h s = rw (sym e) s

past_grows : (e : ℕ) (offset : _) (kind : Kind) (t : Bool) → is_const kind ≡ t → BeginsBehind e offset kind → e ≤ cond t e (begin_of e offset + width kind)
past_grows e offset kind true c h = omega arith
past_grows e offset kind false c h = let begins : e ≤ begin_of e offset = h c in omega arith

reach_more : (r r' d : ℕ) (t : Bool) → r ≤ r' → r ≤ d → r ≤ cond t d r'
reach_more r r' d true low within = within
reach_more r r' d false low within = low

reach_both : (r r' d x y : ℕ) (t u c k : Bool) → t ≡ u → c ≡ k → (c ≡ false → x ≡ y) → r ≤ r' → r ≤ y → (cond (t && not c) x r ≤ cond (u && not k) y r') × (cond (t && not c) x r ≤ y)
reach_both r r' d x y true u true k e i h low within = rw (sym e, sym i) (low, within)
reach_both r r' d x y true u false k e i h low within = let is : x ≡ y = h refl in rw (sym e, sym i) (omega (arith, is), omega (arith, is))
reach_both r r' d x y false u c k e i h low within = rw (sym e) (low, within)

unreached : (version' d r' : ℕ) (g : Field) → is_alive version' g.since ≡ false → cond (is_alive version' g.since && not (is_const g.kind)) (end_past d g.offset g.kind) r' ≡ r'
unreached version' d r' g e = ap (λ t. cond (t && not (is_const g.kind)) (end_past d g.offset g.kind) r') e

pub ends_alike : (R : Lists) (e : ℕ) (f : Field) (d : ℕ) (g : Field) → FieldStands R e f d g → is_const f.kind ≡ false → end_past e f.offset f.kind ≡ end_past d g.offset g.kind
ends_alike R e f d g h c =
    ap (λ t. cond t e (begin_of e f.offset + width f.kind)) c
    ∙ ap (λ p. p + width f.kind) (h.place c) ∙ ap (λ w. begin_of d g.offset + w) (same_width R f.kind g.kind h.kind)
    ∙ sym (ap (λ t. cond t d (begin_of d g.offset + width g.kind)) (sym (same_const R f.kind g.kind h.kind) ∙ c))

module _ (R : Lists) (least version version' : ℕ) (alike : AlikeTo least version version') where
  alive_is : (e : ℕ) (f : Field) (d : ℕ) (g : Field) → FieldStands R e f d g → is_old least g.since ≡ true → is_alive version f.since ≡ is_alive version' g.since
  alive_is e f d g h old = ap (is_alive version) h.since ∙ alike g.since old

  -- the floor is the same where nothing that was added is alive
  pub same_floor : DeadBeyond least version' → (e r : ℕ) (olds : List Field) (d r' : ℕ) (news : List Field) → FieldsStand R least e olds d news → r ≡ r' →
      floor_from version e r olds ≡ floor_from version' d r' news
  same_floor dead e r [] d r' [] h s = s
  same_floor dead e r (f ∷ fs) d r' [] h s = absurd h
  same_floor dead e r [] d r' (g ∷ gs) h s =
      by_bool _ (is_old least g.since) (λ o. absurd (taken _ _ _ o h))
      (λ o. same_floor dead e r [] (end_past d g.offset g.kind) _ gs (passed _ _ _ o h) (s ∙ sym (unreached version' d r' g (dead g.since o))))
  same_floor dead e r (f ∷ fs) d r' (g ∷ gs) h s =
      by_bool _ (is_old least g.since)
      (λ o. let k = taken _ _ _ o h in
      same_floor dead (end_past e f.offset f.kind) _ fs (end_past d g.offset g.kind) _ gs k.1
      (reach_alike r r' (end_past e f.offset f.kind) (end_past d g.offset g.kind) _ _ _ _ (alive_is e f d g k.0 o) (same_const R f.kind g.kind k.0.kind) (ends_alike R e f d g k.0) s))
      (λ o. same_floor dead e r (f ∷ fs) (end_past d g.offset g.kind) _ gs (passed _ _ _ o h) (s ∙ sym (unreached version' d r' g (dead g.since o))))

  -- old's floor isn't above new's, where new's fields don't go back
  pub lower_floor : (e r : ℕ) (olds : List Field) (d r' : ℕ) (news : List Field) → FieldsStand R least e olds d news → ArePlaced d news → r ≤ r' → r ≤ d →
      floor_from version e r olds ≤ floor_from version' d r' news
  lower_floor e r [] d r' [] h placed low within = low
  lower_floor e r (f ∷ fs) d r' [] h placed low within = absurd h
  lower_floor e r [] d r' (g ∷ gs) h placed low within =
      let grows = past_grows d g.offset g.kind (is_const g.kind) refl placed.0 in
      by_bool _ (is_old least g.since) (λ o. absurd (taken _ _ _ o h))
      (λ o. lower_floor e r [] (end_past d g.offset g.kind) _ gs (passed _ _ _ o h) placed.2
      (reach_more r r' (end_past d g.offset g.kind) _ low (omega (arith, within, grows))) (omega (arith, within, grows)))
  lower_floor e r (f ∷ fs) d r' (g ∷ gs) h placed low within =
      let grows = past_grows d g.offset g.kind (is_const g.kind) refl placed.0 in
      by_bool _ (is_old least g.since)
      (λ o. let k = taken _ _ _ o h in
      let step = reach_both r r' d (end_past e f.offset f.kind) (end_past d g.offset g.kind) _ _ _ _ (alive_is e f d g k.0 o) (same_const R f.kind g.kind k.0.kind) (ends_alike R e f d g k.0) low (omega (arith, within, grows)) in
      lower_floor (end_past e f.offset f.kind) _ fs (end_past d g.offset g.kind) _ gs k.1 placed.2 step.0 step.1)
      (λ o. lower_floor e r (f ∷ fs) (end_past d g.offset g.kind) _ gs (passed _ _ _ o h) placed.2
      (reach_more r r' (end_past d g.offset g.kind) _ low (omega (arith, within, grows))) (omega (arith, within, grows)))

-- ---- the fields of a block

module _ (order : Order) (R : Lists) (known known' : Bool) (least version version' : ℕ) (alike : AlikeTo least version version') where
  abbrev mode : Mode
  mode = moded order known version

  abbrev mode' : Mode
  mode' = moded order known' version'

  -- what lies under old lies under new, where no field that was added is alive
  pub lift_fields : Keeps R known known' → DeadBeyond least version' → (e : ℕ) (olds : List Field) (d : ℕ) (news : List Field) → FieldsStand R least e olds d news →
      (vs : List Value) (b : List ℕ) → FieldsLay mode e olds vs b → FieldsLay mode' d news (lifted_list (old_field least) value.Absent news vs) b
  lift_fields keeps dead e [] d [] h [] b lies = tt
  lift_fields keeps dead e [] d [] h (v ∷ vs) b lies = absurd lies
  lift_fields keeps dead e (f ∷ fs) d [] h vs b lies = absurd h
  lift_fields keeps dead e [] d (g ∷ gs) h [] b lies =
      by_bool _ (is_old least g.since) (λ o. absurd (taken _ _ _ o h))
      (λ o. (pass_it _ _ _ (dead g.since o) refl, lift_fields keeps dead e [] (end_past d g.offset g.kind) gs (passed _ _ _ o h) [] b lies))
  lift_fields keeps dead e [] d (g ∷ gs) h (v ∷ vs) b lies = absurd lies
  lift_fields keeps dead e (f ∷ fs) d (g ∷ gs) h [] b lies = absurd lies
  lift_fields keeps dead e (f ∷ fs) d (g ∷ gs) h (v ∷ vs) b lies =
      by_bool _ (is_old least g.since)
      (λ o. let k = taken _ _ _ o h in
      subst (λ t. FieldsLay mode' d (g ∷ gs) (cond t (v ∷ lifted_list (old_field least) value.Absent gs vs) (value.Absent ∷ lifted_list (old_field least) value.Absent gs (v ∷ vs))) b) (sym o) (
        field_moves order R known known' keeps version version' e f d g k.0 (alive_is R least version version' alike e f d g k.0 o) v b lies.0,
        lift_fields keeps dead (end_past e f.offset f.kind) fs (end_past d g.offset g.kind) gs k.1 vs b lies.1,
      ))
      (λ o. subst (λ t. FieldsLay mode' d (g ∷ gs) (cond t (v ∷ lifted_list (old_field least) value.Absent gs vs) (value.Absent ∷ lifted_list (old_field least) value.Absent gs (v ∷ vs))) b) (sym o)
      (pass_it _ _ _ (dead g.since o) refl, lift_fields keeps dead e (f ∷ fs) (end_past d g.offset g.kind) gs (passed _ _ _ o h) (v ∷ vs) b lies))

  -- what lies under new lies under old, as far as old has it
  pub cut_fields : Keeps (flipped R) known' known → (e : ℕ) (olds : List Field) (d : ℕ) (news : List Field) → FieldsStand R least e olds d news →
      (vs : List Value) (b : List ℕ) → FieldsLay mode' d news vs b → FieldsLay mode e olds (projected_list (old_field least) news vs) b
  cut_fields keeps e [] d [] h vs b lies = tt
  cut_fields keeps e (f ∷ fs) d [] h vs b lies = absurd h
  cut_fields keeps e olds d (g ∷ gs) h [] b lies = absurd lies
  cut_fields keeps e [] d (g ∷ gs) h (v ∷ vs) b lies =
      by_bool _ (is_old least g.since) (λ o. absurd (taken _ _ _ o h))
      (λ o. subst (λ t. FieldsLay mode e [] (cond t (v ∷ projected_list (old_field least) gs vs) (projected_list (old_field least) gs vs)) b) (sym o)
      (cut_fields keeps e [] (end_past d g.offset g.kind) gs (passed _ _ _ o h) vs b lies.1))
  cut_fields keeps e (f ∷ fs) d (g ∷ gs) h (v ∷ vs) b lies =
      by_bool _ (is_old least g.since)
      (λ o. let k = taken _ _ _ o h in
      subst (λ t. FieldsLay mode e (f ∷ fs) (cond t (v ∷ projected_list (old_field least) gs vs) (projected_list (old_field least) gs vs)) b) (sym o) (
        field_moves order (flipped R) known' known keeps version' version d g e f (field_flips R e f d g k.0) (sym (alive_is R least version version' alike e f d g k.0 o)) v b lies.0,
        cut_fields keeps (end_past e f.offset f.kind) fs (end_past d g.offset g.kind) gs k.1 vs b lies.1,
      ))
      (λ o. subst (λ t. FieldsLay mode e (f ∷ fs) (cond t (v ∷ projected_list (old_field least) gs vs) (projected_list (old_field least) gs vs)) b) (sym o)
      (cut_fields keeps e (f ∷ fs) (end_past d g.offset g.kind) gs (passed _ _ _ o h) vs b lies.1))

  -- ---- blocks

  pub lift_block : Keeps R known known' → DeadBeyond least version' → (olds news : List Field) → FieldsStand R least 0 olds 0 news →
      (vs : List Value) (b : List ℕ) → BlockLays mode olds vs b → BlockLays mode' news (lifted_list (old_field least) value.Absent news vs) b
  lift_block keeps dead olds news h vs b lies =
      let same : floor version olds ≡ floor version' news = same_floor R least version version' alike dead 0 0 olds 0 0 news h refl in
      (omega (arith, lies.0, same), lift_fields keeps dead 0 olds 0 news h vs b lies.1)

  pub cut_block : Keeps (flipped R) known' known → (olds news : List Field) → FieldsStand R least 0 olds 0 news → ArePlaced 0 news →
      (vs : List Value) (b : List ℕ) → BlockLays mode' news vs b → BlockLays mode olds (projected_list (old_field least) news vs) b
  cut_block keeps olds news h placed vs b lies =
      let low : floor version olds ≤ floor version' news = lower_floor R least version version' alike 0 0 olds 0 0 news h placed (omega arith) (omega arith) in
      (omega (arith, lies.0, low), cut_fields keeps 0 olds 0 news h vs b lies.1)
