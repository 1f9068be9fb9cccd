-- Fields that fit are written as a block in which they lie, and data as data.
use Rattle.std.proofs.Common.{◌≡◌, ℕ, suc, ◌+◌, ◌-◌, ◌≤◌, true, cond, List, [], ◌∷◌, ◌++◌, length, take, drop, Some, None, pos, refl, sym, ap, ◌∙◌, subst, arith, append_assoc, length-append}
use Rattle.std.specs.Prelude.{replicate}
use Rattle.std.specs.Option.{option_map}
use Rattle.sbe_types.specs.declared.kind.Order.{Order}
use Rattle.sbe_types.specs.declared.path.Step.TheVariants as way
use Rattle.sbe_types.specs.declared.schema.Field.{Field}
use Rattle.sbe_types.specs.declared.schema.DataField.{DataField}
use Rattle.sbe_types.specs.declared.message.Value.{Value}
use Rattle.sbe_types.specs.declared.message.Value.TheVariants as value
use Rattle.sbe_types.specs.declared.message.DataVal.{DataVal}
use Rattle.sbe_types.specs.declared.message.DataVal.TheVariants as dataval
use Rattle.sbe_types.specs.Numbers.{natural, prim_width}
use Rattle.sbe_types.specs.Places.{width, is_const, begin_of, end_past, fields_end}
use Rattle.sbe_types.specs.Shown.{admits}
use Rattle.sbe_types.specs.Shows.{Shows}
use Rattle.sbe_types.specs.Wire.{both, padded, FitsKind}
use Rattle.sbe_wire.specs.declared.codes.NCode.TheVariants as code
use Rattle.sbe_wire.specs.Versions.{floor, floor_from, own_mode}
use Rattle.sbe_wire.specs.Lays.{IsConcatenationOfBoth, FieldsLay, BlockLays, DataLies, DataLays}
use Rattle.sbe_wire.specs.Canonical.{fields_bytes, block_bytes, part_bytes, parts_bytes}
use Rattle.sbe_wire.specs.Fits.{FieldsFit, PartFits, PartsFit}
use Rattle.sbe_wire.specs.Misfit.{value_misfit, misfit_in, fields_misfit, take_bytes, refused, taken_in, block_taken, part_taken, parts_taken}
use Rattle.sbe_wire.specs.Placed.{ArePlaced}
use Rattle.sbe_wire.proofs.Blocks.{reach, reach_within}
use Rattle.writing_laws.specs.Writable.{AreWritableFields, IsWritablePart, AreWritableParts}
use Rattle.writing_laws.proofs.Slots.{gap, part_there, part_reaches}
use Rattle.writing_laws.proofs.Refusals.{none_or}
use Rattle.writing_laws.proofs.KindGood.{fits_good}
use Rattle.writing_laws.proofs.KindFits.{numeral}
use Rattle.writing_laws.proofs.KindBack.{padded_long}
use Rattle.writing_laws.proofs.Own.{alive_to}
use Rattle.writing_laws.proofs.Takings.{Takes, takes_bytes, takes_same, takes_passed, Written, nothing_written, written_then, written_in}

-- no field ends after the last end
floor_ends : (version e reached : ℕ) (fs : List Field) → reached ≤ e → ArePlaced e fs → floor_from version e reached fs ≤ fields_end e fs
floor_ends version e reached [] within placed = within
floor_ends version e reached (f ∷ fs) within placed =
    floor_ends version (end_past e f.offset f.kind) (reach version e reached f) fs (reach_within version e reached f _ refl within placed.0) placed.2

pub fields_good : (order : Order) (i : ℕ) (fs : List Field) (vs : List Value) → FieldsFit order fs vs → fields_misfit i fs vs ≡ None
fields_good order i [] vs h = refl
fields_good order i (f ∷ fs) [] h = absurd h
fields_good order i (f ∷ fs) (v ∷ vs) h =
    none_or (misfit_in (way.Part i) (value_misfit f.kind v)) (fields_misfit (suc i) fs vs)
    (ap (misfit_in (way.Part i)) (fits_good order f.kind v h.0)) (fields_good order (suc i) fs vs h.1)

module _ (order : Order) (version : ℕ) where
  -- ---- fields

  -- the fields after fields that end at e have bytes up to their end, and lie in them after any e bytes and in front of any
  abbrev FieldsWritten : ℕ → List Field → List Value → Type 0
  FieldsWritten e fs vs =
      (bytes : List ℕ) × (fields_bytes order e fs vs ≡ Some bytes) × (e + length bytes ≡ fields_end e fs)
      × ((front after : List ℕ) → length front ≡ e → FieldsLay (own_mode order version) e fs vs ((front ++ bytes) ++ after))

  one_field : (e : ℕ) (f : Field) (fs : List Field) (v : Value) (vs : List Value) → ArePlaced e (f ∷ fs) → f.since ≤ version →
      FitsKind order f.kind v → FieldsWritten (end_past e f.offset f.kind) fs vs → FieldsWritten e (f ∷ fs) (v ∷ vs)
  one_field e f fs v vs placed known here there =
      let zeros = gap e f.offset f.kind in
      let wire = here.0 in
      let next = end_past e f.offset f.kind in
      let first : e + length (zeros ++ wire) ≡ next = part_reaches e f.offset f.kind (is_const f.kind) refl placed.0 wire here.2 in
      let is : fields_bytes order e (f ∷ fs) (v ∷ vs) ≡ Some ((zeros ++ wire) ++ there.0) =
      ap (λ o. both (both (Some zeros) o) (fields_bytes order next fs vs)) here.1 ∙ ap (λ o. both (Some (zeros ++ wire)) o) there.1 in (
        (zeros ++ wire) ++ there.0,
        is,
        omega (arith, length-append (zeros ++ wire) there.0, first, there.2),
        λ front after at.
            let whole = (front ++ ((zeros ++ wire) ++ there.0)) ++ after in
            let apart : whole ≡ front ++ ((zeros ++ wire) ++ (there.0 ++ after)) =
            append_assoc front ((zeros ++ wire) ++ there.0) after ∙ ap (λ b. front ++ b) (append_assoc (zeros ++ wire) there.0 after) in
            let slice : take (width f.kind) (drop (begin_of e f.offset) whole) ≡ wire =
            ap (λ b. take (width f.kind) (drop (begin_of e f.offset) b)) apart ∙ part_there e f.offset f.kind (is_const f.kind) refl placed.0 front wire (there.0 ++ after) at here.2 in
            let shows : Shows order true f.kind v (take (width f.kind) (drop (begin_of e f.offset) whole)) = subst (Shows order true f.kind v) (sym slice) here.3 in
            let later : FieldsLay (own_mode order version) next fs vs whole =
            subst (λ b. FieldsLay (own_mode order version) next fs vs (b ++ after)) (append_assoc front (zeros ++ wire) there.0)
            (there.3 (front ++ (zeros ++ wire)) after (omega (arith, length-append front (zeros ++ wire), at, first))) in
            (alive_to (Shows order true f.kind v (take (width f.kind) (drop (begin_of e f.offset) whole))) (v ≡ value.Absent) version f.since known shows, later),
      )

  fields_written : (e : ℕ) (fs : List Field) (vs : List Value) → ArePlaced e fs → AreWritableFields version fs → FieldsFit order fs vs → FieldsWritten e fs vs
  fields_written e [] [] placed writable h = ([], refl, omega arith, λ front after at. tt)
  fields_written e [] (v ∷ vs) placed writable h = absurd h
  fields_written e (f ∷ fs) [] placed writable h = absurd h
  fields_written e (f ∷ fs) (v ∷ vs) placed writable h =
      one_field e f fs v vs placed writable.1 h.0 (fields_written (end_past e f.offset f.kind) fs vs placed.2 writable.2 h.1)

  -- ---- a block

  abbrev pub BlockIs : ℕ → List Field → List Value → List ℕ → Type 0
  BlockIs k fs vs b = (length b ≡ k) × BlockLays (own_mode order version) fs vs b

  pub block_written : (k : ℕ) (fs : List Field) (vs : List Value) → ArePlaced 0 fs → AreWritableFields version fs → fields_end 0 fs ≤ k → FieldsFit order fs vs →
      Written (block_bytes order k fs vs) (BlockIs k fs vs) (λ limit before. block_taken limit before k fs vs)
  block_written k fs vs placed writable within h =
      let w = fields_written 0 fs vs placed writable h in
      let short : length w.0 ≤ k = omega (arith, w.2, within) in
      let long : length (padded k w.0) ≡ k = padded_long k w.0 short in
      let reaches : floor version fs ≤ fields_end 0 fs = floor_ends version 0 0 fs (omega arith) placed in
      record {
        bytes = padded k w.0;
        is = ap (option_map (padded k)) w.1;
        lies = (long, (omega (arith, long, reaches, within), w.3 [] (replicate (k - length w.0) 0) refl));
        takes =
            subst (Takes (λ limit before. block_taken limit before k fs vs)) (sym long)
            (takes_passed (λ limit before. take_bytes limit before k) k (fields_misfit 0 fs vs) (fields_good order 0 fs vs h) (takes_bytes k));
      }

  -- ---- data

  of_data : (p : DataField) (data_bytes : List ℕ) → IsWritablePart version p → admits p.length (pos (length data_bytes)) ≡ true →
      Written (part_bytes order p (dataval.Bytes data_bytes)) (DataLays order version p (dataval.Bytes data_bytes)) (λ limit before. part_taken limit before p (dataval.Bytes data_bytes))
  of_data p data_bytes writable admitted =
      let n = length data_bytes in
      let has = numeral order p.length.prim (pos n) (writable.admitted n admitted) in
      let long : length (has.0 ++ data_bytes) ≡ prim_width p.length.prim + n = omega (arith, length-append has.0 data_bytes, has.2) in
      let lies : DataLies order p data_bytes (has.0 ++ data_bytes) = record { before = has.0; whole = refl; wide = has.2; counts = ap natural has.3; admitted = admitted } in
      record {
        bytes = has.0 ++ data_bytes;
        is = ap (λ o. both o (Some data_bytes)) has.1;
        lies =
            alive_to ((bytes : List ℕ) × (dataval.Bytes data_bytes ≡ dataval.Bytes bytes) × DataLies order p bytes (has.0 ++ data_bytes)) ((dataval.Bytes data_bytes ≡ dataval.Absent) × (has.0 ++ data_bytes ≡ []))
            version p.since writable.known (data_bytes, refl, lies);
        takes =
            takes_same (λ limit before. take_bytes limit before (length (has.0 ++ data_bytes))) (λ limit before. part_taken limit before p (dataval.Bytes data_bytes)) (length (has.0 ++ data_bytes))
            (λ limit before. ap (λ t. cond t (take_bytes limit before (prim_width p.length.prim + n)) (refused code.Length n)) admitted ∙ ap (take_bytes limit before) (sym long))
            (takes_bytes (length (has.0 ++ data_bytes)));
      }

  part_written : (p : DataField) (v : DataVal) → IsWritablePart version p → PartFits p v → Written (part_bytes order p v) (DataLays order version p v) (λ limit before. part_taken limit before p v)
  part_written p v writable h =
      subst (λ v. Written (part_bytes order p v) (DataLays order version p v) (λ limit before. part_taken limit before p v)) (sym h.1) (of_data p h.0 writable h.2)

  pub parts_written : (i : ℕ) (ps : List DataField) (vs : List DataVal) → AreWritableParts version ps → PartsFit ps vs →
      Written (parts_bytes order ps vs) (IsConcatenationOfBoth (DataLays order version) ps vs) (λ limit before. parts_taken limit i before ps vs)
  parts_written i [] [] writable h = nothing_written
  parts_written i [] (v ∷ vs) writable h = absurd h
  parts_written i (p ∷ ps) [] writable h = absurd h
  parts_written i (p ∷ ps) (v ∷ vs) writable h =
      written_then (part_bytes order p v) (parts_bytes order ps vs) (DataLays order version p v) (IsConcatenationOfBoth (DataLays order version) ps vs)
      (λ limit before. taken_in (way.Part i) (part_taken limit before p v)) (λ limit before. parts_taken limit (suc i) before ps vs)
      (written_in (way.Part i) (part_bytes order p v) (DataLays order version p v) (λ limit before. part_taken limit before p v) (part_written p v writable.0 h.0))
      (parts_written (suc i) ps vs writable.1 h.1)
