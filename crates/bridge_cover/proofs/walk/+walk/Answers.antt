use Rattle.std.proofs.Common.{◌≡◌, ◌∷◌, [], ℕ, List, Option, subst, sym, ap, arith, ◌∙◌}
use Rattle.sbe_types.specs.declared.schema.Level.{out-Level}
use Rattle.reference_graph.specs.Expansion.{Structure}
use Rattle.structure_rows.specs.Rows.{rows_of}
use Rattle.bridge_plan.specs.Mappings.{Mapping}
use Rattle.bridge_plan.specs.Covers.{uncovered}
use Rattle.bridge_cover.specs.Kinds.{HasKind}
use Rattle.bridge_cover.specs.Parts.{groups_left, ids_of, outermost_first, Sees}
use Rattle.bridge_cover.specs.Tables.{AreTables}
use Rattle.bridge_cover.proofs.Groups.{tag_is}
use Rattle.bridge_cover.proofs.Kinded.{field_kinds}
use Rattle.bridge_cover.proofs.Walked.{all_at, if_told, fields_begin, field_passed, field_missed, fields_passed, groups_told, group_passed}
use Rattle.bridge_cover.proofs.walk.+walk.Goals as goal

-- ---- the fields of a level

pub level_uncovered-returns : goal.level_uncovered-returns
level_uncovered-returns t c =
    let Path : Type 0 = Option (List (List ℕ)) in
    if_told (λ (path : Path). (m : Mapping) (s : Structure) → Sees m s [] c.in_ok-here.here → outermost_first path ≡ uncovered m s c.args.level.now)
    (λ (path : Path). (m : Mapping) (s : Structure) → AreTables m c.args.tables.now → c.args.rows.now ≡ rows_of s →
    outermost_first path ≡ uncovered m s c.args.level.now)
    (λ path left m s tables is. left m s (c.in_ok-here.ensures m s tables is))
    c.parts_uncovered.result c.parts_uncovered.ensures

pub parts_uncovered-loop-field-init : goal.parts_uncovered-loop-field-init
parts_uncovered-loop-field-init t c = λ m s sees. fields_begin m s c.args.here.now c.as_slice-fields.result.now sees

pub parts_uncovered-covers_field-requires : goal.parts_uncovered-covers_field-requires
parts_uncovered-covers_field-requires t c = record {
  order =
      all_at HasKind c.as_slice-fields.result.now (out-Level c.args.level.now).fields c.loop-field.field-index c.field-item.result
      (field_kinds c.args.level.now c.requires.order) c.as_slice-fields.ensures (omega arith) c.field-item.is;
}

pub parts_uncovered-returns-then-not-covered : goal.parts_uncovered-returns-then-not-covered
parts_uncovered-returns-then-not-covered t c = λ m s sees.
    let p = c.loop-field.invariant m s sees in
    field_missed m s c.loop-field.here c.as_slice-fields.result.now c.loop-field.field-index p c.field-item.result (omega arith)
    c.field-item.is
    c.in_ok-covered.covered (c.in_ok-covered.ensures m s p.earlier p.sees) c.if-not-covered.true
    c.in_ok-path_to.field-0 (c.in_ok-path_to.ensures ∙ ap (λ n. n ∷ []) c.as_slice.ensures) c.args.level.now c.as_slice-fields.ensures

pub parts_uncovered-loop-field-preserved : goal.parts_uncovered-loop-field-preserved
parts_uncovered-loop-field-preserved t c = λ m s sees.
    let p = c.loop-field.invariant m s sees in
    field_passed m s c.loop-field.here c.as_slice-fields.result.now c.loop-field.field-index p c.field-item.result
    c.pass.new.self (omega arith) c.field-item.is
    c.in_ok-covered.covered (c.in_ok-covered.ensures m s p.earlier p.sees) c.if-not-covered.false
    (c.in_ok-pass.ensures m s p.earlier p.sees)

pub parts_uncovered-returns : goal.parts_uncovered-returns
parts_uncovered-returns t c =
    let fields = c.as_slice-fields.result.now in
    let i = c.loop-field.field-index in
    let Path : Type 0 = Option (List (List ℕ)) in
    if_told (λ (path : Path). (m : Mapping) (s : Structure) (before : List ℕ) → Sees m s before c.loop-field.here
    → outermost_first path ≡ groups_left m s before c.groups_of-groups.result.now c.as_slice-parts.result.now)
    (λ (path : Path). (m : Mapping) (s : Structure) → Sees m s [] c.args.here.now → outermost_first path ≡ uncovered m s c.args.level.now)
    (λ path left m s sees.
    let p = c.loop-field.invariant m s sees in
    groups_told m s c.loop-field.here fields i p (omega arith) c.args.level.now c.as_slice-fields.ensures
    c.groups_of-groups.result.now c.groups_of-groups.ensures.groups
    c.as_slice-parts.result.now c.as_slice-parts.ensures path
    (left m s (ids_of fields) (fields_passed m s c.loop-field.here fields i p (omega arith))))
    c.groups_uncovered.result c.groups_uncovered.ensures

-- ---- groups

pub groups_uncovered-loop-group-preserved : goal.groups_uncovered-loop-group-preserved
groups_uncovered-loop-group-preserved t c = λ m s before sees.
    let p = c.loop-group.invariant m s before sees in
    group_passed m s c.loop-group.here c.args.groups.now c.args.parts.now c.loop-group.group-index
    (groups_left m s before c.args.groups.now c.args.parts.now) p
    c.group-item.result c.pass.new.self (omega arith) c.group-item.is
    (ap outermost_first (sym c.in_default.is) ∙ c.in_ok-path.ensures m s p.earlier p.sees)
    (subst (λ (tag : ℕ). Sees m s (tag ∷ p.earlier) c.pass.new.self) (tag_is c.group-item.result)
    (c.in_ok-pass.ensures m s p.earlier p.sees))
