-- What a row says of the plan that it is one of.
use Rattle.std.proofs.Common.{◌≡◌, ◌⊎◌, inl, inr, ◌≤◌, ℕ, suc, false, List, [], ◌∷◌, ◌++◌, length, take, drop, Option, Some, None, refl, sym, ap, subst, arith, ◌∙◌}
use Rattle.std.specs.Prelude.{map, slice_get}
use Rattle.std.specs.Fmt.{decimal}
use Rattle.sbe_types.specs.declared.schema.Group.{Group, out-Group}
use Rattle.sbe_types.specs.declared.schema.Level.{Level, out-Level}
use Rattle.sbe_types.specs.declared.message.Block.{Block, out-Block}
use Rattle.sbe_types.specs.declared.message.GroupVal.TheVariants as groupval
use Rattle.flyweight_view.specs.TypedBlocks.{TypedBlock, typed_level}
use Rattle.bridge_rules.specs.Rules.{Rule}
use Rattle.bridge_rules.specs.Texts.{text_by}
use Rattle.bridge_terms.specs.Parts.{TagLists}
use Rattle.bridge_terms.specs.Plans.{Plan, Slot, Repeat, done, single, group, Each}
use Rattle.bridge_terms.specs.Blocks.{values_of, value_at, nth_or, entries_of}
use Rattle.bridge_terms.specs.MessageFields.{begins, gives_field, length_in}
use Rattle.bridge_terms.specs.Places.{to_part, to_entry, then_places, places_in, place_of, places_of, begun_places, slot_places, run_places, entries_places, no_places}
use Rattle.message_walk.specs.declared.plan.PlanRow.{PlanRow}
use Rattle.message_walk.specs.declared.plan.Part.{Part}
use Rattle.message_walk.specs.declared.plan.Part.TheVariants as part
use Rattle.message_walk.specs.Rows.{AreRows, Fits, FitsBlock, IsSlotAt, IsThere, size_of, entry_places}

cons_is : {A : Type 0} {x y : A} {xs ys : List A} → ◌≡◌ {A = List A} (x ∷ xs) (y ∷ ys) → (x ≡ y) × (xs ≡ ys)
cons_is h = (cc, cc)

some_is : {A : Type 0} {x y : A} → ◌≡◌ {A = Option A} (Some x) (Some y) → x ≡ y
some_is h = cc

none_some : {A : Type 0} {x : A} {o : Option A} → o ≡ None → o ≡ Some x → ⊥
none_some none some = cc

-- the places at a field's or data's row, and after it
pub record AtSlot {R : Type 0} (spells : R → Rule → Type 0) (lists : TagLists) (p : Plan) (row : PlanRow R) (others : List (PlanRow R)) (seen : TypedBlock) : Type 0 where
  pub slot : Slot
  pub rest : Plan
  pub is : IsSlotAt spells (length_in row.lead lists.lengths) slot row.number row.part
  pub there : IsThere slot.rule slot.place seen.fields seen.parts
  pub rows : AreRows spells lists rest others
  pub fits : FitsBlock rest seen
  pub places : places_of p (values_of p seen.block) ≡ then_places (slot_places row.lead (text_by slot.rule (value_at slot.place seen.block))) (places_of rest (values_of rest seen.block))
  pub begun : begins p (values_of p seen.block) ≡ gives_field (text_by slot.rule (value_at slot.place seen.block))

at_single : {R : Type 0} (spells : R → Rule → Type 0) (lists : TagLists) (s : Slot) (q : Plan) (row r : PlanRow R) (others rest : List (PlanRow R)) (seen : TypedBlock)
    → r ≡ row → rest ≡ others → r.lead ≡ s.tag → IsSlotAt spells (length_in s.tag lists.lengths) s r.number r.part → AreRows spells lists q rest
    → FitsBlock (single s q) seen → AtSlot spells lists (single s q) row others seen
at_single spells lists s q row r others rest seen same after lead at rows fits =
    let lead_is : row.lead ≡ s.tag = ap (λ r. r.lead) (sym same) ∙ lead in
    record {
      slot = s;
      rest = q;
      is = subst (λ tag. IsSlotAt spells (length_in tag lists.lengths) s row.number row.part) (sym lead_is)
          (subst (λ r. IsSlotAt spells (length_in s.tag lists.lengths) s r.number r.part) same at);
      there = fits.0;
      rows = subst (AreRows spells lists q) after rows;
      fits = fits.1;
      places = ap (λ t. then_places (slot_places t (text_by s.rule (value_at s.place seen.block))) (places_of q (values_of q seen.block))) (sym lead_is);
      begun = refl;
    }

pub at_slot : {R : Type 0} (spells : R → Rule → Type 0) (lists : TagLists) (p : Plan) (row : PlanRow R) (others : List (PlanRow R)) (seen : TypedBlock)
    → AreRows spells lists p (row ∷ others) → size_of row.part ≡ None → FitsBlock p seen → AtSlot spells lists p row others seen
at_slot spells lists done row others seen rows size fits = absurd cc
at_slot spells lists (single s q) row others seen rows size fits =
    let same = cons_is rows.2 in
    at_single spells lists s q row rows.0 others rows.1 seen (sym same.0) (sym same.1) rows.3 rows.4 rows.5 fits
at_slot spells lists (group g inner q) row others seen rows size fits =
    let same = cons_is rows.3 in
    absurd (none_some size (ap (λ r. size_of r.part) same.0 ∙ rows.7))

-- the places at a group's row, and after it and the rows of its entries
pub record AtGroup {R : Type 0} (spells : R → Rule → Type 0) (lists : TagLists) (p : Plan) (row : PlanRow R) (others : List (PlanRow R)) (size : ℕ) (seen : TypedBlock) : Type 0 where
  pub inner : Plan
  pub rest : Plan
  pub found : Group
  pub within : size ≤ length others
  pub unpaired : length_in row.lead lists.lengths ≡ None
  pub own_rows : AreRows spells lists inner (take size others)
  pub rows : AreRows spells lists rest (drop size others)
  pub there : slice_get seen.groups row.number ≡ Some found
  pub own_fits : Fits inner (out-Level (out-Group found).level).fields (out-Level (out-Group found).level).groups (out-Level (out-Group found).level).parts
  pub fits : FitsBlock rest seen
  pub places : places_of p (values_of p seen.block)
      ≡ then_places (run_places row.lead (entry_places inner) (map (typed_level (out-Group found).level) (entries_of (nth_or groupval.Absent row.number (out-Block seen.block).groups))))
      (places_of rest (values_of rest seen.block))
  pub begun : begins p (values_of p seen.block) ≡ false

pub own_front : {X : Type 0} (xs ys : List X) → take (length xs) (xs ++ ys) ≡ xs
own_front [] ys = refl
own_front (x ∷ xs) ys = ap (λ zs. x ∷ zs) (own_front xs ys)

pub own_rest : {X : Type 0} (xs ys : List X) → drop (length xs) (xs ++ ys) ≡ ys
own_rest [] ys = refl
own_rest (x ∷ xs) ys = own_rest xs ys

pub own_size : {X : Type 0} (xs ys : List X) → length xs ≤ length (xs ++ ys)
own_size [] ys = omega arith
own_size (x ∷ xs) ys = let more = own_size xs ys in omega (arith, more)

pub slot_sizeless : {R : Type 0} (spells : R → Rule → Type 0) (lead : Option ℕ) (s : Slot) (n : ℕ) (w : Part R) → IsSlotAt spells lead s n w → size_of w ≡ None
slot_sizeless spells lead s n (part.Field by) is = refl
slot_sizeless spells lead s n (part.Data own) is = refl
slot_sizeless spells lead s n (part.Group size) is = absurd is

-- entries that are seen have the places of their values
entries_same : (p : Plan) (level : Level) (n : ℕ) (blocks : List Block)
    → entries_places (λ e. begun_places (begins p e) (places_of p e)) n (map (λ b. values_of p b) blocks) ≡ entries_places (entry_places p) n (map (typed_level level) blocks)
entries_same p level n [] = refl
entries_same p level n (b ∷ bs) = ap (then_places (places_in (to_entry n) (begun_places (begins p (values_of p b)) (places_of p (values_of p b))))) (entries_same p level (suc n) bs)

count_same : (p : Plan) (level : Level) (blocks : List Block) → length (map (λ b. values_of p b) blocks) ≡ length (map (typed_level level) blocks)
count_same p level [] = refl
count_same p level (b ∷ bs) = ap suc (count_same p level bs)

run_same : (p : Plan) (level : Level) (tag : ℕ) (blocks : List Block)
    → run_places tag (λ e. begun_places (begins p e) (places_of p e)) (map (λ b. values_of p b) blocks) ≡ run_places tag (entry_places p) (map (typed_level level) blocks)
run_same p level tag [] = refl
run_same p level tag (b ∷ bs) =
    ap (λ n. places_in (to_part tag) (then_places (place_of tag (decimal n)) (entries_places (λ e. begun_places (begins p e) (places_of p e)) 0 (map (λ b. values_of p b) (b ∷ bs))))) (count_same p level (b ∷ bs))
    ∙ ap (λ t. places_in (to_part tag) (then_places (place_of tag (decimal (length (map (typed_level level) (b ∷ bs))))) t)) (entries_same p level 0 (b ∷ bs))

places_at : (g : Repeat) (inner q : Plan) (lead number : ℕ) (block : Block) (level : Level) → lead ≡ g.tag → number ≡ g.place
    → places_of (group g inner q) (values_of (group g inner q) block)
    ≡ then_places (run_places lead (entry_places inner) (map (typed_level level) (entries_of (nth_or groupval.Absent number (out-Block block).groups)))) (places_of q (values_of q block))
places_at g inner q lead number block level tag place =
    ap (λ t. then_places t (places_of q (values_of q block)))
    (run_same inner level g.tag (entries_of (nth_or groupval.Absent g.place (out-Block block).groups))
    ∙ ap (λ n. run_places n (entry_places inner) (map (typed_level level) (entries_of (nth_or groupval.Absent g.place (out-Block block).groups)))) (sym tag)
    ∙ ap (λ n. run_places lead (entry_places inner) (map (typed_level level) (entries_of (nth_or groupval.Absent n (out-Block block).groups)))) (sym place))

-- each entry that is seen has the places of its level
pub each_fits : (p : Plan) (level : Level) (blocks : List Block) → Fits p (out-Level level).fields (out-Level level).groups (out-Level level).parts
    → Each (FitsBlock p) (map (typed_level level) blocks)
each_fits p level [] fits = tt
each_fits p level (b ∷ bs) fits = (fits, each_fits p level bs fits)

at_counted : {R : Type 0} (spells : R → Rule → Type 0) (lists : TagLists) (g : Repeat) (inner q : Plan) (row r : PlanRow R) (others own rest : List (PlanRow R)) (size : ℕ) (seen : TypedBlock)
    → r ≡ row → own ++ rest ≡ others → r.lead ≡ g.tag → r.number ≡ g.place → length_in g.tag lists.lengths ≡ None → size ≡ length own
    → AreRows spells lists inner own → AreRows spells lists q rest
    → FitsBlock (group g inner q) seen → AtGroup spells lists (group g inner q) row others size seen
at_counted spells lists g inner q row r others own rest size seen same after lead number unpaired many own_rows rows fits =
    let place : row.number ≡ g.place = ap (λ r. r.number) (sym same) ∙ number in
    let tag_is : row.lead ≡ g.tag = ap (λ r. r.lead) (sym same) ∙ lead in
    record {
      inner = inner;
      rest = q;
      found = fits.0.0;
      within = subst (λ n. n ≤ length others) (sym many) (subst (λ xs. length own ≤ length xs) after (own_size own rest));
      unpaired = ap (λ tag. length_in tag lists.lengths) tag_is ∙ unpaired;
      own_rows = subst (AreRows spells lists inner) (sym (ap (λ n. take n others) many ∙ ap (take (length own)) (sym after) ∙ own_front own rest)) own_rows;
      rows = subst (AreRows spells lists q) (sym (ap (λ n. drop n others) many ∙ ap (drop (length own)) (sym after) ∙ own_rest own rest)) rows;
      there = ap (slice_get seen.groups) place ∙ fits.0.1;
      own_fits = fits.0.2;
      fits = fits.1;
      places = places_at g inner q row.lead row.number seen.block (out-Group fits.0.0).level tag_is place;
      begun = refl;
    }

pub at_group : {R : Type 0} (spells : R → Rule → Type 0) (lists : TagLists) (p : Plan) (row : PlanRow R) (others : List (PlanRow R)) (size : ℕ) (seen : TypedBlock)
    → AreRows spells lists p (row ∷ others) → size_of row.part ≡ Some size → FitsBlock p seen → AtGroup spells lists p row others size seen
at_group spells lists done row others size seen rows many fits = absurd cc
at_group spells lists (single s q) row others size seen rows many fits =
    let same = cons_is rows.2 in
    absurd (none_some (slot_sizeless spells (length_in s.tag lists.lengths) s rows.0.number rows.0.part rows.4) (ap (λ r. size_of r.part) (sym same.0) ∙ many))
at_group spells lists (group g inner q) row others size seen rows many fits =
    let same = cons_is rows.3 in
    at_counted spells lists g inner q row rows.0 others rows.1 rows.2 size seen (sym same.0) (sym same.1) rows.4 rows.5 rows.6
    (some_is (sym many ∙ ap (λ r. size_of r.part) same.0 ∙ rows.7)) rows.8 rows.9 fits

no_rows : {R : Type 0} (spells : R → Rule → Type 0) (lists : TagLists) (p : Plan) (block : Block) → AreRows spells lists p []
    → (places_of p (values_of p block) ≡ no_places) × (begins p (values_of p block) ≡ false)
no_rows spells lists done block rows = (refl, refl)
no_rows spells lists (single s q) block rows = absurd (empty rows.2)
  where
    empty : {A : Type 0} {x : A} {xs : List A} → ◌≡◌ {A = List A} [] (x ∷ xs) → ⊥
    empty h = cc
no_rows spells lists (group g inner q) block rows = absurd (empty rows.3)
  where
    empty : {A : Type 0} {x : A} {xs : List A} → ◌≡◌ {A = List A} [] (x ∷ xs) → ⊥
    empty h = cc

-- ---- by the rows that are left

first_row : {R : Type 0} (left : List R) (row : R) → slice_get left 0 ≡ Some row → left ≡ row ∷ drop 1 left
first_row [] row h = absurd cc
first_row (x ∷ xs) row h = ap (λ r. r ∷ xs) (some_is h)

pub left_slot : {R : Type 0} (spells : R → Rule → Type 0) (lists : TagLists) (p : Plan) (left : List (PlanRow R)) (row : PlanRow R) (seen : TypedBlock)
    → AreRows spells lists p left → slice_get left 0 ≡ Some row → size_of row.part ≡ None → FitsBlock p seen → AtSlot spells lists p row (drop 1 left) seen
left_slot spells lists p left row seen rows there size fits =
    at_slot spells lists p row (drop 1 left) seen (subst (AreRows spells lists p) (first_row left row there) rows) size fits

pub left_group : {R : Type 0} (spells : R → Rule → Type 0) (lists : TagLists) (p : Plan) (left : List (PlanRow R)) (row : PlanRow R) (size : ℕ) (seen : TypedBlock)
    → AreRows spells lists p left → slice_get left 0 ≡ Some row → size_of row.part ≡ Some size → FitsBlock p seen → AtGroup spells lists p row (drop 1 left) size seen
left_group spells lists p left row size seen rows there many fits =
    at_group spells lists p row (drop 1 left) size seen (subst (AreRows spells lists p) (first_row left row there) rows) many fits

-- the first row of an entry is that of a field or data, or the entry begins with a group
pub at_front : {R : Type 0} (spells : R → Rule → Type 0) (lists : TagLists) (p : Plan) (left : List (PlanRow R)) (row : PlanRow R) (seen : TypedBlock)
    → AreRows spells lists p left → slice_get left 0 ≡ Some row → FitsBlock p seen
    → AtSlot spells lists p row (drop 1 left) seen ⊎ ((size : ℕ) × (size_of row.part ≡ Some size) × (begins p (values_of p seen.block) ≡ false))
at_front spells lists p left row seen rows there fits = by_size (size_of row.part) refl
  where
    by_size : (o : Option ℕ) → size_of row.part ≡ o
        → AtSlot spells lists p row (drop 1 left) seen ⊎ ((size : ℕ) × (size_of row.part ≡ Some size) × (begins p (values_of p seen.block) ≡ false))
    by_size None size = inl (left_slot spells lists p left row seen rows there size fits)
    by_size (Some n) size = inr (n, size, (left_group spells lists p left row n seen rows there size fits).begun)

pub left_none : {R : Type 0} (spells : R → Rule → Type 0) (lists : TagLists) (p : Plan) (left : List (PlanRow R)) (block : Block) → AreRows spells lists p left → length left ≡ 0
    → (places_of p (values_of p block) ≡ no_places) × (begins p (values_of p block) ≡ false)
left_none spells lists p [] block rows none = no_rows spells lists p block rows
left_none spells lists p (x ∷ xs) block rows none = absurd (omega (arith, none))

pub first_fits : (p : Plan) (e : TypedBlock) (rest es : List TypedBlock) → es ≡ e ∷ rest → Each (FitsBlock p) es → FitsBlock p e × Each (FitsBlock p) rest
first_fits p e rest es same fits = subst (Each (FitsBlock p)) same fits
