-- The places of a level's fields, and the dimension before its entries, in a tree that passed the rules.
use Rattle.std.proofs.Common.{◌≡◌, ◌≤◌, ◌+◌, ℕ, Bool, true, false, List, [], ◌∷◌, Option, Some, None, refl, sym, subst, arith}
use Rattle.std.specs.Prelude.{if◌then◌else◌, ◌&&◌, not, unwrap_or, codes, flat_map}
use Rattle.std.specs.List.{AllByRecursion}
use Rattle.sbe_types.specs.declared.limits.TheConstants.{PLACE_LIMIT}
use Rattle.sbe_types.specs.declared.kind.Member.{Member}
use Rattle.sbe_types.specs.declared.schema.Field.{Field}
use Rattle.sbe_types.specs.declared.schema.Level.{out-roll-Level}
use Rattle.sbe_types.specs.declared.tree.PartItem.{PartItem}
use Rattle.sbe_types.specs.declared.tree.PartItem as part
use Rattle.sbe_types.specs.declared.tree.Schema.{Schema}
use Rattle.sbe_types.specs.declared.tree.SchemaItem.{SchemaItem}
use Rattle.sbe_types.specs.declared.tree.SchemaItem.TheVariants as child
use Rattle.sbe_types.specs.InForm.{IsChildInForm, IsDeclaredInForm, IsPartInForm, IsInForm}
use Rattle.sbe_types.specs.Places.{width, is_const, begin_of, end_past, fields_end}
use Rattle.sbe_wire.specs.Placed.{ArePlaced}
use Rattle.schema_rules.specs.declared.facts.Fact.{Fact}
use Rattle.schema_rules.specs.declared.levels.LevelScope.{LevelScope}
use Rattle.schema_rules.specs.Facts.{counted, field_fact}
use Rattle.schema_rules.specs.Kinds.{field_kind}
use Rattle.schema_rules.specs.Names.{types_in, declared_types}
use Rattle.schema_rules.specs.PartRules.{PartsBefore, no_part, with_part}
use Rattle.schema_rules.specs.Resolved.{Within, block_of, list_fields}
use Rattle.sbe_wire.specs.Versions.{is_alive, floor_from, floor}
use Rattle.schema_rules.specs.Counters.{holds}
use Rattle.schema_facts.specs.CheckedLevels.{HasBlock}
use Rattle.schema_facts.specs.Levels.{node}
use Rattle.schema_facts.specs.Measured.{largest, AreNarrowFields, IsDimension, HasDimension, IsMeasuredLevel}
use Rattle.schema_facts.proofs.FactKinds.{past_tells}
use Rattle.schema_facts.proofs.FieldEnds.{field_tells}
use Rattle.schema_facts.specs.InOrder.{AreAccepted}
use Rattle.schema_facts.proofs.KindPlaces.{Fits, begins_behind}
use Rattle.schema_facts.proofs.KindFits.{field_fits}
use Rattle.schema_facts.proofs.LevelBlocks.{block_of_level}
use Rattle.schema_facts.proofs.KindCounters.{dimension_is}
use Rattle.schema_facts.proofs.LevelForms.{HasPlacedFields}
use Rattle.schema_facts.proofs.LevelSteps.{EachKept, PartKept, not_false}
use Rattle.schema_facts.proofs.LevelWalk.{Base, Head, Passed, DimKept, within_of, scope_of, told_of, level_of, all_joined}
use Rattle.schema_facts.proofs.WholeWalk.{Found}

-- ---- the declared types are accepted

types_form : (items : List SchemaItem) → AllByRecursion IsChildInForm items → AllByRecursion IsDeclaredInForm (flat_map types_in items)
types_form [] h = tt
types_form (child.Types el ∷ items) h = all_joined IsDeclaredInForm el.children (flat_map types_in items) h.0 (types_form items h.1)
types_form (child.Message m ∷ items) h = types_form items h.1

-- the declared types of a tree in form that passed
pub accepted : (tree : Schema) (schema : _) → IsInForm tree → Found tree schema → AreAccepted (declared_types tree)
accepted tree schema form f = record { judged = f.types; form = types_form tree.children form }

-- ---- fields one after another

fields_placed : (base : Base) (level : LevelScope) → AreAccepted base.types → (before : PartsBefore) (ps : List PartItem) → EachKept (scope_of base level) before ps → AllByRecursion IsPartInForm ps →
    (e : ℕ) → counted before.all.reached ≡ counted e → ArePlaced e (list_fields (within_of base level) ps)
fields_placed base level accepted before [] h form e same = tt
fields_placed base level accepted before (part.Field f ∷ ps) h form e same =
    let kept : PartKept (scope_of base level) before (part.Field f) = h.0 in
    let fact : Fact = field_fact base.types f in
    let fits = field_fits base.types accepted f in
    let tells = field_tells base.types f in (
      begins_behind before.all.reached e f.offset fact (field_kind base.types f) same tells form.0.place kept.own.0.1.1.1.0,
      fits.placed,
      fields_placed base level accepted (with_part (scope_of base level) before (part.Field f)) ps h.1 form.1 (end_past e f.offset (field_kind base.types f))
          (past_tells before.all.reached e f.offset fact (field_kind base.types f) same tells),
    )
fields_placed base level accepted before (part.Group' name id dimension since stated n row ∷ ps) h form e same =
    fields_placed base level accepted (with_part (scope_of base level) before (part.Group' name id dimension since stated n row)) ps h.1 form.1 e same
fields_placed base level accepted before (part.Data d ∷ ps) h form e same = fields_placed base level accepted (with_part (scope_of base level) before (part.Data d)) ps h.1 form.1 e same

fields_fit : (within : Within) → AreAccepted within.types → (ps : List PartItem) → AllByRecursion (λ (f : Field). Fits f.kind) (list_fields within ps)
fields_fit within accepted [] = tt
fields_fit within accepted (part.Field f ∷ ps) = (field_fits within.types accepted f, fields_fit within accepted ps)
fields_fit within accepted (part.Group' name id dimension since stated n row ∷ ps) = fields_fit within accepted ps
fields_fit within accepted (part.Data d ∷ ps) = fields_fit within accepted ps

-- ---- within the largest place

past_from : (fixed : Bool) (e b w : ℕ) → (fixed ≡ false → e ≤ b) → e ≤ (if fixed then e else b + w)
past_from true e b w h = omega arith
past_from false e b w h = let after = h refl in omega arith

fields_grow : (fs : List Field) (e : ℕ) → ArePlaced e fs → e ≤ fields_end e fs
fields_grow [] e h = omega arith
fields_grow (f ∷ fs) e h =
    let first = past_from (is_const f.kind) e (begin_of e f.offset) (width f.kind) h.0 in
    let later = fields_grow fs (end_past e f.offset f.kind) h.2 in
    omega (arith, first, later)

ends_there : (fixed : Bool) (e n last : ℕ) → (if fixed then e else n) ≤ last → last ≤ largest → fixed ≡ false → n ≤ largest
ends_there true e n last h small fixed = cc
ends_there false e n last h small fixed = omega arith

fields_narrow : (fs : List Field) (e : ℕ) → ArePlaced e fs → AllByRecursion (λ (f : Field). Fits f.kind) fs → fields_end e fs ≤ largest → AreNarrowFields e fs
fields_narrow [] e placed fit small = tt
fields_narrow (f ∷ fs) e placed fit small =
    let fits : Fits f.kind = fit.0 in (
      fits.narrow,
      ends_there (is_const f.kind) e (begin_of e f.offset + width f.kind) (fields_end (end_past e f.offset f.kind) fs) (fields_grow fs (end_past e f.offset f.kind) placed.2) small,
      fields_narrow fs (end_past e f.offset f.kind) placed.2 fit.1 small,
    )

-- ---- a level

-- the fields of such a level are placed
pub placed_kept : (base : Base) → AreAccepted base.types → (t : ℕ) (dim : Option (List Member)) (level : LevelScope) (head : Head) (ps : List PartItem) → Passed base level dim head ps →
    HasPlacedFields (node t dim (level_of (within_of base level) head ps))
placed_kept base accepted t dim level head ps passed =
    subst (λ r. ArePlaced 0 r.fields) (sym (out-roll-Level _)) (fields_placed base level accepted no_part ps passed.each passed.form 0 refl)

-- the floor of a version is the end of some field, or no further than what was reached
floor_within : (version : ℕ) (fs : List Field) (e reached : ℕ) → ArePlaced e fs → reached ≤ e → floor_from version e reached fs ≤ fields_end e fs
floor_within version [] e reached placed h = h
floor_within version (f ∷ fs) e reached placed h =
    let next = past_from (is_const f.kind) e (begin_of e f.offset) (width f.kind) placed.0 in
    floor_within version fs (end_past e f.offset f.kind) (if is_alive version f.since && not (is_const f.kind) then end_past e f.offset f.kind else reached) placed.2
    (either_low (is_alive version f.since && not (is_const f.kind)) (end_past e f.offset f.kind) reached (omega (arith, h, next)))
  where
    either_low : (t : Bool) (d k : ℕ) → k ≤ d → (if t then d else k) ≤ d
    either_low true d k h = omega arith
    either_low false d k h = h

-- such a level has its block
pub block_kept : (base : Base) → AreAccepted base.types → (t : ℕ) (dim : Option (List Member)) (level : LevelScope) (head : Head) (ps : List PartItem) → Passed base level dim head ps →
    HasBlock (unwrap_or dim base.header) (level_of (within_of base level) head ps)
block_kept base accepted t dim level head ps passed =
    let fields : List Field = list_fields (within_of base level) ps in
    let by = block_of_level base dim level head ps passed in
    let placed = fields_placed base level accepted no_part ps passed.each passed.form 0 refl in
    record {
      whole = subst (λ r. fields_end 0 r.fields ≤ r.block_length) (sym (out-roll-Level _)) by.whole;
      floor = λ version.
          let low = floor_within version fields 0 0 placed (omega arith) in
          let within : floor version fields ≤ block_of head.stated fields = omega (arith, low, by.whole) in
          subst (λ r. floor version r.fields ≤ r.block_length) (sym (out-roll-Level _)) within;
      narrow = subst (λ r. r.block_length ≤ PLACE_LIMIT) (sym (out-roll-Level _)) by.narrow;
      held = subst (λ r. holds (unwrap_or dim base.header) (codes "blockLength") r.block_length ≡ true) (sym (out-roll-Level _)) by.held;
    }

dim_kept : (base : Base) → AreAccepted base.types → (dim : Option (List Member)) (all : _) → DimKept base dim all → HasDimension dim
dim_kept base accepted None all h = tt
dim_kept base accepted (Some dim) all h =
    subst IsDimension (sym h.is) (dimension_is base.types accepted h.name (not_false _ h.rules.1.1.0))

-- such a level has its measures
pub measured_kept : (base : Base) → AreAccepted base.types → (t : ℕ) (dim : Option (List Member)) (level : LevelScope) (head : Head) (ps : List PartItem) → Passed base level dim head ps →
    IsMeasuredLevel (node t dim (level_of (within_of base level) head ps))
measured_kept base accepted t dim level head ps passed =
    let fields : List Field = list_fields (within_of base level) ps in
    let block = block_of_level base dim level head ps passed in
    let small : fields_end 0 fields ≤ largest = omega (arith, block.whole, block.narrow) in
    let placed = fields_placed base level accepted no_part ps passed.each passed.form 0 refl in
    record {
      fields = subst (λ r. AreNarrowFields 0 r.fields) (sym (out-roll-Level _)) (fields_narrow fields 0 placed (fields_fit (within_of base level) accepted ps) small);
      dim = dim_kept base accepted dim (told_of (scope_of base level) ps) passed.told;
    }
