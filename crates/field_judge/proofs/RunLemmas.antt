-- The run of a group, cut off the fields after its count.
use Rattle.std.proofs.Common.{◌≡◌, ◌≤◌, ◌+◌, ℕ, Bool, true, false, cond, List, [], ◌∷◌, ◌++◌, take, drop, length, slice_get, Some, refl, sym, ap, ◌∙◌}
use Rattle.tagvalue_codec.specs.Fields.{Field}
use Rattle.bridge_rules.proofs.BoolLemmas.{if_true, if_false}
use Rattle.bridge_terms.specs.Parts.{rest_of, run_of}
use Rattle.bridge_terms.specs.Plans.{Plan, is_in, owns}
use Rattle.field_judge.specs.declared.field.AppField.{AppField}
use Rattle.field_judge.specs.Fields.{field_of, fields_of}
use Rattle.text_values.specs.declared.row.TextValue.{TextValue}
use Rattle.field_judge.specs.declared.level.BackGroup.{BackGroup}
use Rattle.field_judge.specs.declared.level.BackLevel.{BackLevel}
use Rattle.field_judge.specs.declared.level.BackPart.TheVariants as part
use Rattle.field_judge.specs.declared.level.BackRow.{BackRow}
use Rattle.field_judge.specs.Levels.{owned_by, IsRowOf, of_slot, of_group}
use Rattle.field_judge.proofs.SliceLemmas.{drop_got, dropped, ends_alike, fields_on}

-- owners that own the same have the same run
pub same_run : (o p : ℕ → ℕ → Bool) (a b : ℕ) → ((tag : ℕ) → o a tag ≡ p b tag) → (fs : List Field) → (run_of o a fs ≡ run_of p b fs) × (rest_of o a fs ≡ rest_of p b fs)
same_run o p a b same [] = (refl, refl)
same_run o p a b same (f ∷ fs) =
    let more = same_run o p a b same fs in (
      ap (λ t. cond t (f ∷ run_of o a fs) []) (same f.tag) ∙ ap (λ run. cond (p b f.tag) (f ∷ run) []) more.0,
      ap (λ t. cond t (rest_of o a fs) (f ∷ fs)) (same f.tag) ∙ ap (λ rest. cond (p b f.tag) rest (f ∷ fs)) more.1,
    )

-- an owner of nothing has no run
pub no_run : (o : ℕ → ℕ → Bool) (a : ℕ) → ((tag : ℕ) → o a tag ≡ false) → (fs : List Field) → (run_of o a fs ≡ []) × (rest_of o a fs ≡ fs)
no_run o a none [] = (refl, refl)
no_run o a none (f ∷ fs) = (if_false (o a f.tag) (f ∷ run_of o a fs) [] (none f.tag), if_false (o a f.tag) (rest_of o a fs) (f ∷ fs) (none f.tag))

-- so many fields are in the run so far, and the rest of it is left
abbrev pub IsRunSoFar : List ℕ → List AppField → ℕ → Type 0
IsRunSoFar owned fields i =
    (fields_of (take i fields) ++ run_of (owned_by owned) 0 (fields_of (drop i fields)) ≡ run_of (owned_by owned) 0 (fields_of fields))
    × (rest_of (owned_by owned) 0 (fields_of (drop i fields)) ≡ rest_of (owned_by owned) 0 (fields_of fields))

pub run_on : (owned : List ℕ) (fields : List AppField) (i : ℕ) (x : AppField) → slice_get fields i ≡ Some x → is_in x.tag owned ≡ true → IsRunSoFar owned fields i → IsRunSoFar owned fields (i + 1)
run_on owned fields i x at here so_far =
    let own = owned_by owned in
    let more = fields_of (drop (i + 1) fields) in
    let left : fields_of (drop i fields) ≡ field_of x ∷ more = ap fields_of (drop_got fields i x at) in (
      ap (λ fs. fs ++ run_of own 0 more) (fields_on fields i x at)
          ∙ joined (fields_of (take i fields)) (field_of x) (run_of own 0 more)
          ∙ ap (λ run. fields_of (take i fields) ++ run) (sym (if_true (is_in x.tag owned) (field_of x ∷ run_of own 0 more) [] here))
          ∙ ap (λ fs. fields_of (take i fields) ++ run_of own 0 fs) (sym left) ∙ so_far.0,
      sym (if_true (is_in x.tag owned) (rest_of own 0 more) (field_of x ∷ more) here) ∙ ap (rest_of own 0) (sym left) ∙ so_far.1,
    )
  where
    joined : (xs : List Field) (f : Field) (ys : List Field) → (xs ++ f ∷ []) ++ ys ≡ xs ++ f ∷ ys
    joined [] f ys = refl
    joined (z ∷ zs) f ys = ap (λ ws. z ∷ ws) (joined zs f ys)

nothing_added : (xs : List Field) → xs ++ [] ≡ xs
nothing_added [] = refl
nothing_added (x ∷ xs) = ap (λ ys. x ∷ ys) (nothing_added xs)

pub run_ended : (owned : List ℕ) (fields : List AppField) (i : ℕ) (x : AppField) → slice_get fields i ≡ Some x → is_in x.tag owned ≡ false → IsRunSoFar owned fields i
    → (fields_of (take i fields) ≡ run_of (owned_by owned) 0 (fields_of fields)) × (fields_of (drop i fields) ≡ rest_of (owned_by owned) 0 (fields_of fields))
run_ended owned fields i x at here so_far =
    let own = owned_by owned in
    let more = fields_of (drop (i + 1) fields) in
    let left : fields_of (drop i fields) ≡ field_of x ∷ more = ap fields_of (drop_got fields i x at) in (
      sym (nothing_added (fields_of (take i fields)))
          ∙ ap (λ run. fields_of (take i fields) ++ run) (sym (ap (run_of own 0) left ∙ if_false (is_in x.tag owned) (field_of x ∷ run_of own 0 more) [] here)) ∙ so_far.0,
      sym (ap (rest_of own 0) left ∙ if_false (is_in x.tag owned) (rest_of own 0 more) (field_of x ∷ more) here ∙ sym left) ∙ so_far.1,
    )

pub run_whole : (owned : List ℕ) (fields : List AppField) (i : ℕ) → length fields ≤ i → IsRunSoFar owned fields i
    → (fields_of (take (length fields) fields) ≡ run_of (owned_by owned) 0 (fields_of fields)) × (fields_of (drop (length fields) fields) ≡ rest_of (owned_by owned) 0 (fields_of fields))
run_whole owned fields i beyond so_far =
    let own = owned_by owned in
    let alike = ends_alike fields i beyond in
    let left : fields_of (drop i fields) ≡ [] = ap fields_of (dropped fields i beyond) in (
      ap fields_of (sym alike.0) ∙ sym (nothing_added (fields_of (take i fields)))
          ∙ ap (λ run. fields_of (take i fields) ++ run) (sym (ap (run_of own 0) left)) ∙ so_far.0,
      ap fields_of (sym alike.1) ∙ sym (ap (rest_of own 0) left ∙ sym left) ∙ so_far.1,
    )

-- ---- what a row owns

pub value_owns : (levels : List BackLevel) (p : Plan) (r : BackRow) (v : TextValue) → IsRowOf levels p r → r.part ≡ part.Value v → (tag : ℕ) → owns p r.tag tag ≡ false
value_owns levels p r v (of_slot s is wrong owned) here = owned
value_owns levels p r v (of_group g inner b own is there level numbered wrong owned) here = absurd (never (sym here ∙ is.is))
  where
    never : part.Value v ≡ part.Group b → ⊥
    never k = cc

pub group_owns : (levels : List BackLevel) (p : Plan) (r : BackRow) (b : BackGroup) → IsRowOf levels p r → r.part ≡ part.Group b → (tag : ℕ) → owns p r.tag tag ≡ owned_by b.owned 0 tag
group_owns levels p r b (of_slot s is wrong owned) here = absurd (never (sym is.is ∙ here))
  where
    never : {v : TextValue} → part.Value v ≡ part.Group b → ⊥
    never k = cc
group_owns levels p r b (of_group g inner c own is there level numbered wrong owned) here = λ tag.
    owned tag ∙ ap (is_in tag) (sym is.owned ∙ ap (λ (d : BackGroup). d.owned) (same (sym is.is ∙ here)))
  where
    same : {c d : BackGroup} → part.Group c ≡ part.Group d → c ≡ d
    same k = cc
