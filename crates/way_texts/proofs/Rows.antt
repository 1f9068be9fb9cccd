-- What a row says of the plan that it is one of, and what is after it.
use Rattle.std.proofs.Common.{◌≡◌, ◌≤◌, ℕ, Bool, true, false, cond, List, [], ◌∷◌, ◌++◌, length, take, drop, Option, Some, None, refl, sym, ap, subst, arith, ◌∙◌}
use Rattle.std.proofs.lemmas.Bool.{eq-eqb, ne_eqb}
use Rattle.std.specs.Prelude.{◌==◌, slice_get}
use Rattle.sbe_types.specs.declared.schema.Level.{Level, out-Level}
use Rattle.bridge_rules.specs.Rules.{Rule}
use Rattle.bridge_terms.specs.Parts.{TagLists}
use Rattle.bridge_terms.specs.Places.{Way}
use Rattle.bridge_terms.specs.Plans.{Plan, Repeat, done, single, group}
use Rattle.bridge_terms.specs.MessageFields.{length_in}
use Rattle.message_walk.specs.declared.plan.PlanRow.{PlanRow}
use Rattle.message_walk.specs.declared.plan.Part.TheVariants as part
use Rattle.message_walk.specs.Rows.{AreRows, IsSlotAt, size_of}
use Rattle.message_walk.proofs.RowLemmas.{own_front, own_rest, own_size, slot_sizeless}
use Rattle.way_texts.specs.WayTexts.{data_name, field_name, first_text, group_text, inside_text, part_text, place_name, FromPart}

cons_is : {A : Type 0} {x y : A} {xs ys : List A} → ◌≡◌ {A = List A} (x ∷ xs) (y ∷ ys) → (x ≡ y) × (xs ≡ ys)
cons_is h = (cc, cc)

empty : {A : Type 0} {x : A} {xs : List A} → ◌≡◌ {A = List A} [] (x ∷ xs) → ⊥
empty h = cc

some_is : {A : Type 0} {x y : A} → ◌≡◌ {A = Option A} (Some x) (Some y) → x ≡ y
some_is h = cc

none_some : {A : Type 0} {x : A} {o : Option A} → o ≡ None → o ≡ Some x → ⊥
none_some none some = cc

module _ {R : Type 0} (spells : R → Rule → Type 0) (lists : TagLists) where
  -- a plan whose first row is a group's with so many rows of its entries
  pub record AtGroup (p : Plan) (row : PlanRow R) (others : List (PlanRow R)) (size : ℕ) : Type 0 where
    pub inner : Plan
    pub within : size ≤ length others
    pub own_rows : AreRows spells lists inner (take size others)
    pub text : (level : Level) (way : List Way) → first_text p level way
        ≡ group_text (slice_get (out-Level level).groups row.number) (λ below more. inside_text (λ t w. part_text inner below t w) more) way

  at_counted : (g : Repeat) (inner q : Plan) (row r : PlanRow R) (others own rest : List (PlanRow R)) (size : ℕ) → row ≡ r → others ≡ own ++ rest
      → r.number ≡ g.place → size_of r.part ≡ Some (length own) → AreRows spells lists inner own → size_of row.part ≡ Some size → AtGroup (group g inner q) row others size
  at_counted g inner q row r others own rest size same after number many rows is =
      let long : size ≡ length own = some_is (sym is ∙ ap (λ r. size_of r.part) same ∙ many) in
      let place : row.number ≡ g.place = ap (λ r. r.number) same ∙ number in
      record {
        inner = inner;
        within = subst (λ n. n ≤ length others) (sym long) (subst (λ xs. length own ≤ length xs) (sym after) (own_size own rest));
        own_rows = subst (AreRows spells lists inner) (sym (ap (λ n. take n others) long ∙ ap (take (length own)) after ∙ own_front own rest)) rows;
        text = λ level way. ap (λ n. group_text (slice_get (out-Level level).groups n) (λ below more. inside_text (λ t w. part_text inner below t w) more) way) (sym place);
      }

  pub at_group : (p : Plan) (row : PlanRow R) (others : List (PlanRow R)) (size : ℕ) → AreRows spells lists p (row ∷ others) → size_of row.part ≡ Some size → AtGroup p row others size
  at_group done row others size rows is = absurd (empty (sym rows))
  at_group (single s q) row others size rows is =
      let same = cons_is rows.2 in
      absurd (none_some (slot_sizeless spells (length_in s.tag lists.lengths) s rows.0.number rows.0.part rows.4) (ap (λ r. size_of r.part) (sym same.0) ∙ is))
  at_group (group g inner q) row others size rows is =
      let same = cons_is rows.3 in
      at_counted g inner q row rows.0 others rows.1 rows.2 size same.0 same.1 rows.5 rows.7 rows.8 is

  -- the name of a field whose row is the first
  pub at_field : (p : Plan) (row : PlanRow R) (others : List (PlanRow R)) (by : R) (level : Level) (way : List Way) → AreRows spells lists p (row ∷ others) → row.part ≡ part.Field by
      → first_text p level way ≡ field_name (slice_get (out-Level level).fields row.number)
  at_field done row others by level way rows is = absurd (empty (sym rows))
  at_field (single s q) row others by level way rows is =
      let same = cons_is rows.2 in
      let at = subst (λ w. IsSlotAt spells (length_in s.tag lists.lengths) s rows.0.number w) (ap (λ r. r.part) (sym same.0) ∙ is) rows.4 in
      ap (λ place. place_name place level) at.0 ∙ ap (λ r. field_name (slice_get (out-Level level).fields r.number)) (sym same.0)
  at_field (group g inner q) row others by level way rows is =
      let same = cons_is rows.3 in
      absurd (none_some (ap size_of is) (ap (λ r. size_of r.part) same.0 ∙ rows.7))

  -- the name of data
  pub at_data : (p : Plan) (row : PlanRow R) (others : List (PlanRow R)) (own : Option ℕ) (level : Level) (way : List Way) → AreRows spells lists p (row ∷ others) → row.part ≡ part.Data own
      → first_text p level way ≡ data_name (slice_get (out-Level level).parts row.number)
  at_data done row others own level way rows is = absurd (empty (sym rows))
  at_data (single s q) row others own level way rows is =
      let same = cons_is rows.2 in
      by_lead own (subst (λ w. IsSlotAt spells (length_in s.tag lists.lengths) s rows.0.number w) (ap (λ r. r.part) (sym same.0) ∙ is) rows.4) (ap (λ r. r.number) (sym same.0))
    where
      by_lead : (own : Option ℕ) → IsSlotAt spells (length_in s.tag lists.lengths) s rows.0.number (part.Data own) → rows.0.number ≡ row.number
          → place_name s.place level ≡ data_name (slice_get (out-Level level).parts row.number)
      by_lead (Some tag) at number = ap (λ place. place_name place level) at.0 ∙ ap (λ n. data_name (slice_get (out-Level level).parts n)) number
      by_lead None at number = ap (λ place. place_name place level) at.0 ∙ ap (λ n. data_name (slice_get (out-Level level).parts n)) number
  at_data (group g inner q) row others own level way rows is =
      let same = cons_is rows.3 in
      absurd (none_some (ap size_of is) (ap (λ r. size_of r.part) same.0 ∙ rows.7))

  -- no row is left
  pub at_end : (p : Plan) (tag : ℕ) (level : Level) → AreRows spells lists p [] → FromPart spells lists p tag level []
  at_end done tag level rows = record { plan = done; rows_are = refl; text = λ way. refl }
  at_end (single s q) tag level rows = absurd (empty rows.2)
  at_end (group g inner q) tag level rows = absurd (empty rows.3)

  chosen : {X : Type 0} (b : Bool) (x y : X) → b ≡ true → cond b x y ≡ x
  chosen true x y is = refl
  chosen false x y is = absurd cc

  -- the first row has the tag
  pub at_part : (p : Plan) (tag : ℕ) (level : Level) (row : PlanRow R) (others : List (PlanRow R)) → AreRows spells lists p (row ∷ others) → row.lead ≡ tag
      → FromPart spells lists p tag level (row ∷ others)
  at_part done tag level row others rows is = absurd (empty (sym rows))
  at_part (single s q) tag level row others rows is = record {
    plan = single s q;
    rows_are = rows;
    text = λ way. chosen (s.tag == tag) (place_name s.place level) (part_text q level tag way) (eq-eqb s.tag tag (sym rows.3 ∙ ap (λ r. r.lead) (sym (cons_is rows.2).0) ∙ is));
  }
  at_part (group g inner q) tag level row others rows is = record {
    plan = group g inner q;
    rows_are = rows;
    text = λ way. chosen (g.tag == tag) (first_text (group g inner q) level way) (part_text q level tag way) (eq-eqb g.tag tag (sym rows.4 ∙ ap (λ r. r.lead) (sym (cons_is rows.3).0) ∙ is));
  }

  -- what is after the first row, with another tag
  pub record Passed (p : Plan) (tag : ℕ) (rest : List (PlanRow R)) : Type 0 where
    pub plan : Plan
    pub rows_are : AreRows spells lists plan rest
    pub text : (level : Level) (way : List Way) → part_text p level tag way ≡ part_text plan level tag way

  passed : {X : Type 0} (b : Bool) (x y : X) → b ≡ false → cond b x y ≡ y
  passed false x y is = refl
  passed true x y is = absurd cc

  pub after_slot : (p : Plan) (tag : ℕ) (row : PlanRow R) (others : List (PlanRow R)) → AreRows spells lists p (row ∷ others) → (row.lead ≡ tag → ⊥) → size_of row.part ≡ None
      → Passed p tag others
  after_slot done tag row others rows other none = absurd (empty (sym rows))
  after_slot (single s q) tag row others rows other none =
      let same = cons_is rows.2 in
      record {
        plan = q;
        rows_are = subst (AreRows spells lists q) (sym same.1) rows.5;
        text = λ level way. passed (s.tag == tag) (place_name s.place level) (part_text q level tag way) (ne_eqb s.tag tag (λ is. other (ap (λ r. r.lead) same.0 ∙ rows.3 ∙ is)));
      }
  after_slot (group g inner q) tag row others rows other none =
      let same = cons_is rows.3 in
      absurd (none_some none (ap (λ r. size_of r.part) same.0 ∙ rows.7))

  pub after_group : (p : Plan) (tag : ℕ) (row : PlanRow R) (others : List (PlanRow R)) (size : ℕ) → AreRows spells lists p (row ∷ others) → (row.lead ≡ tag → ⊥) → size_of row.part ≡ Some size
      → (size ≤ length others) × Passed p tag (drop size others)
  after_group done tag row others size rows other is = absurd (empty (sym rows))
  after_group (single s q) tag row others size rows other is =
      let same = cons_is rows.2 in
      absurd (none_some (slot_sizeless spells (length_in s.tag lists.lengths) s rows.0.number rows.0.part rows.4) (ap (λ r. size_of r.part) (sym same.0) ∙ is))
  after_group (group g inner q) tag row others size rows other is =
      let same = cons_is rows.3 in
      let long : size ≡ length rows.1 = some_is (sym is ∙ ap (λ r. size_of r.part) same.0 ∙ rows.7) in (
        subst (λ n. n ≤ length others) (sym long) (subst (λ xs. length rows.1 ≤ length xs) (sym same.1) (own_size rows.1 rows.2)),
        record {
          plan = q;
          rows_are = subst (AreRows spells lists q) (sym (ap (λ n. drop n others) long ∙ ap (drop (length rows.1)) same.1 ∙ own_rest rows.1 rows.2)) rows.9;
          text = λ level way. passed (g.tag == tag) (first_text (group g inner q) level way) (part_text q level tag way) (ne_eqb g.tag tag (λ is. other (ap (λ r. r.lead) same.0 ∙ rows.4 ∙ is)));
        },
      )

  -- ---- by the rows that are left

  first_row : {X : Type 0} (left : List X) (row : X) → slice_get left 0 ≡ Some row → left ≡ row ∷ drop 1 left
  first_row [] row h = absurd cc
  first_row (x ∷ xs) row h = ap (λ r. r ∷ xs) (some_is h)

  pub left_rows : (p : Plan) (left : List (PlanRow R)) (row : PlanRow R) → AreRows spells lists p left → slice_get left 0 ≡ Some row → AreRows spells lists p (row ∷ drop 1 left)
  left_rows p left row rows there = subst (AreRows spells lists p) (first_row left row there) rows

  pub part_here : (p : Plan) (tag : ℕ) (level : Level) (left : List (PlanRow R)) (row : PlanRow R) → AreRows spells lists p left → slice_get left 0 ≡ Some row → row.lead ≡ tag
      → FromPart spells lists p tag level left
  part_here p tag level left row rows there is =
      subst (FromPart spells lists p tag level) (sym (first_row left row there)) (at_part p tag level row (drop 1 left) (left_rows p left row rows there) is)

  pub no_part : (p : Plan) (tag : ℕ) (level : Level) (left : List (PlanRow R)) → length left ≡ 0 → AreRows spells lists p left → FromPart spells lists p tag level left
  no_part p tag level [] none rows = at_end p tag level rows
  no_part p tag level (x ∷ xs) none rows = absurd (omega (arith, none))

  -- what is left after the first row and those of its entries
  pub passed_row : (p : Plan) (tag : ℕ) (left after : List (PlanRow R)) (row : PlanRow R) → AreRows spells lists p left → slice_get left 0 ≡ Some row → (row.lead ≡ tag → ⊥)
      → ((size : ℕ) → size_of row.part ≡ Some size → size ≤ length (drop 1 left) → after ≡ drop size (drop 1 left))
      → (size_of row.part ≡ None → after ≡ drop 1 left) → Passed p tag after
  passed_row p tag left after row rows there other grouped slot = by_size (size_of row.part) refl
    where
      by_size : (o : Option ℕ) → size_of row.part ≡ o → Passed p tag after
      by_size None is = subst (Passed p tag) (sym (slot is)) (after_slot p tag row (drop 1 left) (left_rows p left row rows there) other is)
      by_size (Some size) is =
          let past = after_group p tag row (drop 1 left) size (left_rows p left row rows there) other is in
          subst (Passed p tag) (sym (grouped size is past.0)) past.1

  -- no row is left, and so no text
  pub no_text : (p : Plan) (left : List (PlanRow R)) (level : Level) (way : List Way) → length left ≡ 0 → AreRows spells lists p left → first_text p level way ≡ []
  no_text done left level way none rows = refl
  no_text (single s q) left level way none rows = absurd (omega (arith, none, ap length rows.2))
  no_text (group g inner q) left level way none rows = absurd (omega (arith, none, ap length rows.3))
