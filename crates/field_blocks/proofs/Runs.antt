-- The run of a group.
use Rattle.std.proofs.Common.{◌≡◌, ◌<◌, ◌≤◌, ◌+◌, ℕ, zero, suc, List, [], ◌∷◌, take, drop, length, slice_get, Option, Some, None, refl, sym, ap, ◌∙◌, subst, arith}
use Rattle.sbe_types.specs.declared.message.Block.{Block}
use Rattle.sbe_types.specs.declared.message.Value.{Value}
use Rattle.sbe_types.specs.declared.schema.Level.{Level}
use Rattle.bridge_rules.proofs.OptionLemmas.{some_is, and_then_is, if_some}
use Rattle.bridge_terms.specs.Gathering.{count_admitted, each, entries_in, is_run, values_of_fields}
use Rattle.bridge_terms.specs.Parts.{Part, pieces_of, run_of}
use Rattle.bridge_terms.specs.Plans.{Each, Plan, Repeat, Tree}
use Rattle.field_judge.specs.declared.field.AppField.{AppField}
use Rattle.field_judge.specs.declared.level.BackGroup.{BackGroup}
use Rattle.field_judge.specs.declared.level.BackRow.{BackRow}
use Rattle.field_judge.specs.Fields.{fields_of}
use Rattle.field_judge.specs.Heads.{group_head, head_owns, located, part_from}
use Rattle.field_judge.specs.Levels.{owned_by, IsGroupRow}
use Rattle.field_judge.proofs.Lacking.{some_place}
use Rattle.field_judge.proofs.RunLemmas.{same_run}
use Rattle.field_judge.proofs.SliceLemmas.{drop_got}
use Rattle.field_blocks.specs.Blocks.{AreEntries}
use Rattle.field_blocks.specs.Found.{run_found}

-- a group without a field has no entries
pub no_run : (level : Level) (g : Repeat) (inner : Plan) (fields : List AppField) (place : ℕ) (es : List (Tree Value inner)) → place ≡ 0
    → run_found g inner (located (group_head g inner) fields place) ≡ Some es → AreEntries level inner es []
no_run level g inner fields place es none is =
    let found = and_then_is (count_admitted g.count None) (λ n. Some []) es (ap (λ k. run_found g inner (located (group_head g inner) fields k)) (sym none) ∙ is) in
    record { fit = tt; values = some_is found.2 }

-- what is found of a count field and its run is found of the run's pieces
pieces_found : (g : Repeat) (inner : Plan) (x : Part) (es : List (Tree Value inner)) → run_found g inner (Some x) ≡ Some es
    → each (values_of_fields inner) (pieces_of g.delimiter x.run).pieces ≡ Some es
pieces_found g inner x es is =
    let counted = and_then_is (count_admitted g.count (Some x.text)) (λ n. entries_in (values_of_fields inner) n (pieces_of g.delimiter x.run)) es is in
    (if_some (is_run counted.0 (pieces_of g.delimiter x.run)) (each (values_of_fields inner) (pieces_of g.delimiter x.run).pieces) es counted.2).1

-- the pieces of the run after the field before a place
pub run_pieces : (g : Repeat) (inner : Plan) (b : BackGroup) (r : BackRow) (fields rest run : List AppField) (place n : ℕ) (es : List (Tree Value inner)) → IsGroupRow g b r
    → 0 < place → place ≤ length fields → rest ≡ drop place fields → run ≡ take n rest → fields_of (take n rest) ≡ run_of (owned_by b.owned) 0 (fields_of rest)
    → run_found g inner (located (group_head g inner) fields place) ≡ Some es → each (values_of_fields inner) (pieces_of b.delimiter (fields_of run)).pieces ≡ Some es
run_pieces g inner b r fields rest run place n es row some within rest_is run_is runs is =
    let at = some_place fields place some within in
    let x = part_from (group_head g inner) (drop at.0 fields) in
    let own_run : x.run ≡ fields_of run =
    ap (λ fs. (part_from (group_head g inner) fs).run) (drop_got fields at.0 at.1 at.3)
    ∙ ap (λ ys. run_of (head_owns (group_head g inner)) 0 (fields_of ys)) (sym (rest_is ∙ ap (λ k. drop k fields) (at.2 ∙ next at.0)))
    ∙ sym (same_run (owned_by b.owned) (head_owns (group_head g inner)) 0 0 (λ tag. ap (λ os. owned_by os 0 tag) row.owned) (fields_of rest)).0
    ∙ sym (ap fields_of run_is ∙ runs) in
    ap (λ fs. each (values_of_fields inner) (pieces_of b.delimiter fs).pieces) (sym own_run)
    ∙ ap (λ d. each (values_of_fields inner) (pieces_of d x.run).pieces) row.delimiter
    ∙ pieces_found g inner x es (ap (λ k. run_found g inner (located (group_head g inner) fields k)) (sym at.2) ∙ is)
  where
    next : (j : ℕ) → suc j ≡ j + 1
    next j = omega arith
